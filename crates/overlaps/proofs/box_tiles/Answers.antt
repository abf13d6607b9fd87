-- `overlaps::box_tiles` meets its contract: the tiles of two spans are those that meet the box.
use mathlib.Core.Path.{◌≡◌, sym, ap, subst, ◌∙◌}
use Prim.Native.Nat.{◌-◌, ◌*◌}
use native.Mathlib.Omega.{arith}
use Rattle.screen.specs.declared.Grid.{Grid}
use Rattle.shape.specs.declared.Shape.{Shape}
use Rattle.touch.specs.declared.Edges.{Edges}
use Rattle.touch.specs.declared.Three.{Three}
use Rattle.touch.specs.Corner.{three}
use Rattle.touch.specs.Edges.{AllPlaced, edges_of, starts}
use Rattle.touch.proofs.Sizes.{three-placed}
use Rattle.walk.specs.declared.Spans.{Spans}
use Rattle.walk.specs.Row.{MeetingBox}
use Rattle.overlaps.specs.HowMany.{TilesByBox}
use Rattle.overlaps.proofs.Counting.{counts≤}
use Rattle.overlaps.proofs.Spans.{box_product}
use Rattle.overlaps.proofs.box_tiles.Goals as goal

product : (g : Grid) (shape : Shape) (e : Edges) (spans : Spans) → e ≡ edges_of (three shape) → MeetingBox g.screen (starts e) spans
    → TilesByBox g.screen shape ((spans.columns.end - spans.columns.start) * (spans.rows.end - spans.rows.start))
product g shape e spans same m =
    box_product g.screen g.allowed shape spans (subst (λ (t : Three). MeetingBox g.screen t spans) (ap starts same) m)

pub figure_of-requires : goal.figure_of-requires
figure_of-requires c = subst AllPlaced (sym c.three_of.ensures) (three-placed c.args.shape c.requires)

pub tiles_in-requires : goal.tiles_in-requires
tiles_in-requires c =
    let few = c.args.grid.allowed.tiles≤ in
    let same = c.figure_of.ensures ∙ ap edges_of c.three_of.ensures in
    omega (arith, counts≤ (product c.args.grid c.args.shape _ c.box_spans.result same c.box_spans.ensures))

pub returns : goal.returns
returns c =
    subst (TilesByBox c.args.grid.screen c.args.shape) (sym c.tiles_in.ensures)
    (product c.args.grid c.args.shape _ c.box_spans.result (c.figure_of.ensures ∙ ap edges_of c.three_of.ensures) c.box_spans.ensures)
