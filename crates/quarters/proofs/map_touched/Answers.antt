-- `quarters::map_touched` meets its contract: over zeros, the square that holds the grid gets ones where the shape, as the triangle of its vertices, touches.
use mathlib.Core.Path.{sym, ap, subst, ◌∙◌}
use Prim.Native.Nat.{ℕ}
use Rattle.shape.specs.declared.Shape.{Shape}
use Rattle.touch.specs.declared.Edges.{Edges}
use Rattle.touch.specs.Corner.{three}
use Rattle.touch.specs.Edges.{AllPlaced, edges_of}
use Rattle.touch.proofs.Sizes.{three-placed}
use Rattle.touch.proofs.Weights.{touches_as_triangle}
use Rattle.walk.specs.Row.{outlined}
use Rattle.quarters.specs.Square.{TouchedInFirst}
use Rattle.quarters.specs.Map.{BytesSet, WithOnes}
use Rattle.quarters.proofs.Ones.{ones_iff, one_square}
use Rattle.quarters.proofs.Mapped.{mapped}
use Rattle.quarters.proofs.map_touched.Goals as goal

pub figure_of-figure-requires : goal.figure_of-figure-requires
figure_of-figure-requires c =
    subst AllPlaced (sym c.three_of.ensures) (three-placed c.args.shape c.requires.0)

pub returns : goal.returns
returns c =
    let d = c.args.grid.screen in
    let shape : Shape = c.args.shape in
    let q = c.square_of in
    let cleared = c.set_bytes.new.map in
    let tiles = c.wide.ensures ∙ c.tiles.ensures in
    let zeros = subst (λ (n : ℕ). BytesSet 0 0 n c.args.map.now cleared) tiles c.set_bytes.ensures in
    let edges = c.figure_of-figure.ensures ∙ ap edges_of c.three_of.ensures in
    let first = c.fill_squares.new.map in
    let ones = subst (λ (e : Edges). WithOnes (TouchedInFirst d (outlined e) q.result 1) cleared first) edges c.fill_squares.ensures in
    mapped d c.args.grid.allowed shape q.ensures zeros
    (ones_iff (λ t h. (h.0, (touches_as_triangle shape).1 h.1)) (λ t h. (h.0, (touches_as_triangle shape).0 h.1))
    (one_square d (outlined (edges_of (three shape))) q.result ones))
