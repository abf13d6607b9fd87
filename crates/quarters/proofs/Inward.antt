-- Edges that have a square on their inner side have its quarters there: the rectangle of a quarter lies within that of the square.
use mathlib.Core.Path.{sym}
use mathlib.Core.Bool.{false}
use Prim.Native.Nat.{ℕ, ◌-◌, ◌/◌, ◌%◌, ◌^◌, ◌<◌}
use native.Mathlib.Omega.{arith}
use Rattle.numbers.proofs.Says.{true≢false}
use Rattle.screen.specs.declared.Screen.{Screen}
use Rattle.screen.specs.Screen.{Allowed}
use Rattle.screen.specs.Rectangle.{Inside}
use Rattle.screen.proofs.Laws.{near_rises, far_rises}
use Rattle.touch.specs.declared.Edges.{Edges}
use Rattle.touch.specs.declared.Inward.{Inward}
use Rattle.touch.proofs.Enclosing.{on_side_within}
use Rattle.quarters.specs.declared.Square.{Square}
use Rattle.quarters.specs.Square.{StartsOnGrid, square_rectangle, InwardOn, beside_of, first_quarter}
use Rattle.quarters.proofs.Touched.{square_proper}
use Rattle.quarters.proofs.Ones.{bit≤, halves}

-- no edge is named
pub none_inward : (d : Screen) (e : Edges) (q : Square) → InwardOn (record { ab = false; bc = false; ca = false }) d e q
none_inward d e q g = record { ab = λ t. absurd (true≢false (sym t)); bc = λ t. absurd (true≢false (sym t)); ca = λ t. absurd (true≢false (sym t)) }

module _ (d : Screen) (a : Allowed d) (q : Square) (n : 0 < q.exponent) {k : ℕ} (k< : k < 4) (g : StartsOnGrid d (beside_of (first_quarter q) k)) where
  abbrev part : Square
  part = beside_of (first_quarter q) k

  on_grid : StartsOnGrid d q
  on_grid = record { column = let c = g.column in omega arith; row = let r = g.row in omega arith }

  inside : Inside (square_rectangle d part) (square_rectangle d q)
  inside =
      let w = halves q n in
      let x = bit≤ (k % 2) (2 ^ (q.exponent - 1)) (omega arith) in
      let y = bit≤ (k / 2) (2 ^ (q.exponent - 1)) (omega arith) in
      record {
        left = near_rises d.width d.s (omega arith);
        right = far_rises d.width d.s (omega arith);
        top = near_rises d.height d.s (omega arith);
        bottom = far_rises d.height d.s (omega arith);
      }

pub inward_quarter : (d : Screen) → Allowed d → (w : Inward) (e : Edges) (q : Square) → 0 < q.exponent → {k : ℕ} → k < 4
    → InwardOn w d e q → InwardOn w d e (beside_of (first_quarter q) k)
inward_quarter d a w e q n {k} l h g =
    let i = inside d a q n l g in
    let p = square_proper d a (beside_of (first_quarter q) k) g in
    let known = h (on_grid d a q n l g) in
    record {
      ab = λ t. on_side_within e.ab i p.wide p.high (known.ab t);
      bc = λ t. on_side_within e.bc i p.wide p.high (known.bc t);
      ca = λ t. on_side_within e.ca i p.wide p.high (known.ca t);
    }
