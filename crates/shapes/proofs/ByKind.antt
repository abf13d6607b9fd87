-- The shape of words goes by their kind: of right words, 1 is a point, 2 a line, 3 a triangle.
use mathlib.Core.Path.{◌≡◌, refl, ap}
use mathlib.Core.Bool.{Bool, true, false, cond}
use Prim.Native.Nat.{ℕ}
use native.Mathlib.Omega.{arith}
use borrow.Author.Tests.{ltb-true, ltb-false}
use lib.IntN.{ℤ, pos, negsuc}
use lib.Signed.{le_z, lt_z}
use Rattle.numbers.proofs.Says.{says_true, says_false, true≢false}
use Rattle.numbers.proofs.Deciding.{says_le}
use Rattle.shape.specs.declared.Shape.{Shape}
use Rattle.shape.specs.declared.Shape.TheVariants.{Point, Line, Triangle}
use Rattle.shapes.specs.Shapes.{vertex_from, shape_from}

below_2 : (z : ℤ) → lt_z z (pos 2) ≡ true → le_z z (pos 1) ≡ true
below_2 (pos n) e = says_true (says_le n 1) (omega (arith, ltb-true n 2 e))
below_2 (negsuc n) e = refl

above_2 : (z : ℤ) → lt_z z (pos 2) ≡ false → (z ≡ pos 2 → ⊥) → (le_z z (pos 1) ≡ false) × (le_z z (pos 2) ≡ false)
above_2 (pos n) e f =
    let l = ltb-false n 2 e in
    (says_false (says_le n 1) (λ h. omega arith), says_false (says_le n 2) (λ h. f (ap pos (omega arith))))
above_2 (negsuc n) e f = absurd (true≢false e)

module _ (w : ℕ → ℤ) where
  abbrev picked : (first second : Bool) → Shape
  picked first second =
      cond first (Point (vertex_from w 1 2))
      (cond second (Line (vertex_from w 1 2) (vertex_from w 3 4)) (Triangle (vertex_from w 1 2) (vertex_from w 3 4) (vertex_from w 5 6)))

  pub is_point : le_z (w 0) (pos 1) ≡ true → shape_from w ≡ Point (vertex_from w 1 2)
  unfolding shape_from
  is_point e = ap (λ (b : Bool). picked b (le_z (w 0) (pos 2))) e

  pub is_line : le_z (w 0) (pos 1) ≡ false → le_z (w 0) (pos 2) ≡ true → shape_from w ≡ Line (vertex_from w 1 2) (vertex_from w 3 4)
  unfolding shape_from
  is_line e f = λ i. picked (e i) (f i)

  pub is_triangle : le_z (w 0) (pos 1) ≡ false → le_z (w 0) (pos 2) ≡ false → shape_from w ≡ Triangle (vertex_from w 1 2) (vertex_from w 3 4) (vertex_from w 5 6)
  unfolding shape_from
  is_triangle e f = λ i. picked (e i) (f i)

  pub kind_1 : w 0 ≡ pos 1 → shape_from w ≡ Point (vertex_from w 1 2)
  kind_1 e = is_point (ap (λ (k : ℤ). le_z k (pos 1)) e)

  pub kind_2 : w 0 ≡ pos 2 → shape_from w ≡ Line (vertex_from w 1 2) (vertex_from w 3 4)
  kind_2 e = is_line (ap (λ (k : ℤ). le_z k (pos 1)) e) (ap (λ (k : ℤ). le_z k (pos 2)) e)

  pub kind_3 : w 0 ≡ pos 3 → shape_from w ≡ Triangle (vertex_from w 1 2) (vertex_from w 3 4) (vertex_from w 5 6)
  kind_3 e = is_triangle (ap (λ (k : ℤ). le_z k (pos 1)) e) (ap (λ (k : ℤ). le_z k (pos 2)) e)

  -- the tests of the code
  pub up_to_1 : lt_z (w 0) (pos 2) ≡ true → shape_from w ≡ Point (vertex_from w 1 2)
  up_to_1 e = is_point (below_2 (w 0) e)

  pub past_2 : lt_z (w 0) (pos 2) ≡ false → (w 0 ≡ pos 2 → ⊥) → shape_from w ≡ Triangle (vertex_from w 1 2) (vertex_from w 3 4) (vertex_from w 5 6)
  past_2 e f = let t = above_2 (w 0) e f in is_triangle t.0 t.1
