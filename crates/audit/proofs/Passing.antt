-- How answers of tests that mark blocks are given, and how marks add up over the tiles.
use mathlib.Core.Path.{◌≡◌, refl, ap, sym, subst}
use mathlib.Core.Bool.{true, false}
use mathlib.Core.List.{List}
use mathlib.Core.Logic.{⊎_elim}
use Prim.Native.Nat.{ℕ, zero, suc, ◌+◌, ◌≤◌}
use native.Mathlib.Nat.{not-suc-le-zero, eq-or-lt_of_le, le_of_eq}
use native.Mathlib.Numerals.{add-one}
use native.Mathlib.Omega.{arith}
use lib.Dec.{T}
use lib.ListN.{get_or, replicate}
use Rattle.pool.specs.State.{times}
use Rattle.audit.specs.Chain.{times_in_first}
use Rattle.audit.specs.Walk.{Apart, Marked, Passes}

module _ {P : Type 0} {n : ℕ} {v w : List ℕ} {count : ℕ → ℕ} where
  pub passes_yes : P → Marked v w count → Passes true P n v w count
  passes_yes p m = record { yes = λ e. (p, m); no = λ e. absurd (subst T e tt) }

  pub passes_no : (P → Apart n v count → ⊥) → Passes false P n v w count
  passes_no f = record { yes = λ e. absurd (subst T (sym e) tt); no = λ e. f }

-- one more list
pub times_more : (b : ℕ) (chain : ℕ → List ℕ) (t : ℕ) → times_in_first b chain (t + 1) ≡ times_in_first b chain t + times b (chain t)
times_more b chain t = rw (add-one t) refl

pub times_grows : (b : ℕ) (chain : ℕ → List ℕ) (t u : ℕ) → t ≤ u → times_in_first b chain t ≤ times_in_first b chain u
times_grows b chain zero zero h = omega arith
times_grows b chain (suc t) zero h = absurd (not-suc-le-zero h)
times_grows b chain zero (suc u) h = omega arith
times_grows b chain (suc t) (suc u) h =
    ⊎_elim (λ e. le_of_eq (ap (times_in_first b chain) e))
    (λ lt. omega (arith, times_grows b chain (suc t) u (omega arith)))
    (eq-or-lt_of_le h)

-- fresh marks
pub zeros : (k b : ℕ) → ◌≡◌ {A = ℕ} (get_or (replicate k 0) b 0) 0
zeros zero b = refl
zeros (suc k) zero = refl
zeros (suc k) (suc b) = zeros k b
