-- The proof of the cycle of calls {fill_squares}: the side's exponent falls. A square that is not touched has no touched tile; one that is wholly covered, or is
-- a single tile, has no other; and any other has the touched tiles of its four quarters. An edge that has the square on its inner side has its quarters there.
use mathlib.Core.Path.{◌≡◌, ap, sym, subst, ◌∙◌}
use mathlib.Core.Bool.{Bool, ◌||◌}
use mathlib.Core.List.{List}
use Prim.Native.Nat.{ℕ, ◌<◌}
use native.Mathlib.Omega.{arith}
use lib.Dec.{eqb}
use Rattle.walk.specs.Row.{outlined}
use Rattle.quarters.specs.declared.Square.{Square}
use Rattle.quarters.specs.Square.{InwardOn, TouchedIn, TouchedInFirst, beside_of, Small}
use Rattle.quarters.specs.Map.{WithOnes}
use Rattle.quarters.proofs.Touched.{none_touched, all_touched, to_split}
use Rattle.quarters.proofs.Ones.{ones_none, ones_iff, small_quarter, square_more, all_quarters}
use Rattle.quarters.proofs.Inward.{inward_quarter}
use Rattle.quarters.proofs.+fill_squares.Goals as goal
use Rattle.quarters.proofs.+fill_squares.Goals.{After-beside-square, Else-is_whole-square, Joined-is_touched, then-is_touched+then-is_whole-square, then-is_touched+else-is_whole-square, else-is_touched}

-- the square lies among 512 by 512 tiles
small : (t : ℕ) (c : After-beside-square t) → Small c.beside-square.result
small t c =
    subst Small (sym c.beside-square.ensures) (c.requires.by_index c.loop-k.k c.loop-k-test.true).0

-- what is split has a side to halve
split : (t : ℕ) (c : Else-is_whole-square t)
    → 0 < c.beside-square.result.exponent
split t c =
    let q = c.beside-square.result in
    let whole = ap (λ (w : Bool). w || eqb q.exponent 0) c.is_whole.ensures in
    let look = c.look-looked in
    to_split c.args.grid.screen c.args.grid.allowed (outlined c.args.figure.now.edges) q look.result.cover (sym whole ∙ c.if-is_whole-square.false)

-- after the look, whatever it told, the touched tiles of the square are written
written : (t : ℕ) (c : Joined-is_touched t)
    →
    WithOnes (TouchedIn c.args.grid.screen (outlined c.args.figure.now.edges) c.beside-square.result) c.loop-k.map c.if-is_touched.map
written t c =
    let look = c.look-looked in
    let d = c.args.grid.screen in
    let a = c.args.grid.allowed in
    let shape = outlined c.args.figure.now.edges in
    let q : Square = c.beside-square.result in
    let cover = look.result.cover in
    let says = sym c.is_touched.ensures in
    let become : List ℕ → Type 0 = λ m. WithOnes (TouchedIn d shape q) c.loop-k.map m in
    elim c.if-is_touched.branch [
      | then-is_touched+then-is_whole-square w ↦
          let whole = ap (λ (w : Bool). w || eqb q.exponent 0) w.is_whole.ensures in
          let all = all_touched d a shape q cover (says ∙ w.if-is_touched.true) (sym whole ∙ w.if-is_whole-square.true) look.ensures.cover in
          subst become (sym w.map-is) (ones_iff (λ i g. (g, all i g)) (λ i g. g.0) w.set_tiles.ensures)
      | then-is_touched+else-is_whole-square w ↦
          let whole = ap (λ (w : Bool). w || eqb q.exponent 0) w.is_whole.ensures in
          let n = to_split d a shape q cover (sym whole ∙ w.if-is_whole-square.false) in
          subst become (sym w.map-is) (all_quarters q n d shape (rw w.first_quarter.ensures at w.fill_squares.ensures))
      | else-is_touched w ↦ subst become (sym w.map-is) (ones_none (none_touched d a shape q cover (says ∙ w.if-is_touched.false) look.ensures.cover))
    ]

pub fill_squares-requires : goal.fill_squares-requires
fill_squares-requires t c =
    let d = c.args.grid.screen in
    let q : Square = c.beside-square.result in
    let m : c.args.first.exponent ≡ t = c.decreases in
    let n = split t (goal.at.fill_squares-requires t c).Else-is_whole-square in
    let e = c.first_quarter.ensures in
    let z = ap (λ (r : Square). r.exponent) e in
    let y = ap (λ (r : Square). r.exponent) c.beside-square.ensures in
    let size = c.loop-k.invariant.size in
    let room = c.requires.allowed.1 in
    let w = c.look-looked.result.inward in (
      omega arith,
      (
        (omega arith, omega arith),
        (λ k h.
            let k< : k < 4 = omega arith in (
              subst (λ (r : Square). Small (beside_of r k)) (sym e)
                  (small_quarter q n (small t (goal.at.fill_squares-requires t c).After-beside-square) k<),
              subst (λ (r : Square). InwardOn w d c.args.figure.now.edges (beside_of r k)) (sym e)
                  (inward_quarter d c.args.grid.allowed w c.args.figure.now.edges q n k< c.look-looked.ensures.inward),
            )),
      ),
    )

pub loop-k-preserved : goal.loop-k-preserved
loop-k-preserved t c =
    square_more c.args.grid.screen (outlined c.args.figure.now.edges) c.args.first c.loop-k.invariant
    (rw c.beside-square.ensures at (written t (goal.at.loop-k-preserved t c).Joined-is_touched))

pub returns : goal.returns
returns t c =
    let all : c.loop-k.k ≡ c.args.count = omega arith in
    subst (λ (n : ℕ). WithOnes (TouchedInFirst c.args.grid.screen (outlined c.args.figure.now.edges) c.args.first n) c.args.map.now c.loop-k.map) all c.loop-k.invariant
