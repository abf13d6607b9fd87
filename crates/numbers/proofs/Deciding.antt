-- The answers of tests, joined over all indices without an early end.
use Prim.Native.Nat.{ℕ, ◌+◌, ◌<◌, ◌≤◌}
use native.Mathlib.Omega.{arith}
use borrow.Author.Count.{below_none, below_more}
use borrow.Author.Tests.{leb-true, leb-false, ltb-true, ltb-false, eqb-true, eqb-false}
use mathlib.Core.Path.{◌≡◌, sym, subst}
use mathlib.Core.Bool.{Bool, true, ◌&&◌}
use lib.Dec.{T, leb, ltb, eqb}
use lib.IntN.{ℤ}
use lib.Signed.{◌≤ℤ◌, ◌<ℤ◌, le_z, lt_z}
use Rattle.numbers.specs.Says.{Says}
use Rattle.numbers.proofs.Says.{says_yes, says_iff, says_and}

module _ (P : ℕ → Type 0) where
  -- whether P holds of every index below 0
  pub says_none : Says true ((i : ℕ) → i < 0 → P i)
  says_none = says_yes (below_none P)

  -- and of one index more
  pub says_more : {r s : Bool} (j : ℕ) → Says r ((i : ℕ) → i < j → P i) → Says s (P j) → Says (r && s) ((i : ℕ) → i < j + 1 → P i)
  says_more j h k = says_iff (λ x. below_more P j x.0 x.1) (λ f. (λ i lt. f i (omega arith), f j (omega arith))) (says_and h k)

-- the tests of two numbers
pub says_le : (a b : ℕ) → Says (leb a b) (a ≤ b)
says_le a b = record { yes = leb-true a b; no = λ e h. omega (arith, leb-false a b e) }

pub says_lt : (a b : ℕ) → Says (ltb a b) (a < b)
says_lt a b = record { yes = ltb-true a b; no = λ e h. omega (arith, ltb-false a b e) }

pub says_eq : (a b : ℕ) → Says (eqb a b) (a ≡ b)
says_eq a b = record { yes = eqb-true a b; no = eqb-false a b }

pub says_leℤ : (x y : ℤ) → Says (le_z x y) (x ≤ℤ y)
says_leℤ x y = record { yes = λ e. record { le = subst T (sym e) tt }; no = λ e h. subst T e h.le }

pub says_ltℤ : (x y : ℤ) → Says (lt_z x y) (x <ℤ y)
says_ltℤ x y = record { yes = λ e. record { lt = subst T (sym e) tt }; no = λ e h. subst T e h.lt }
