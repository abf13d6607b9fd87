-- How often a block stands in a list, and in the chains of all tiles.
use mathlib.Core.Path.{◌≡◌, refl, ap, subst}
use mathlib.Core.Logic.{◌≢◌}
use mathlib.Core.List.{List, [], ◌∷◌, ◌++◌}
use Prim.Native.Nat.{ℕ, zero, suc, ◌+◌, ◌≤◌, ◌<◌, zero-le}
use native.Mathlib.Nat.{le_of_suc-le-suc, not-suc-le-zero}
use native.Mathlib.Omega.{arith}
use borrow.Author.Tests.{eq-eqb, ne_eqb}
use lib.Dec.{eqb}
use lib.ListN.{length, get_or, set}
use Rattle.numbers.specs.Sum.{one}
use Rattle.pool.specs.State.{Chained, empty, times, times_in_tiles}

pub one_same : (b : ℕ) → one (eqb b b) ≡ 1
one_same b = ap one (eq-eqb b b refl)

pub one_other : (b c : ℕ) → b ≢ c → one (eqb b c) ≡ 0
one_other b c h = ap one (ne_eqb b c h)

pub times-append : (b : ℕ) (s t : List ℕ) → times b (s ++ t) ≡ times b s + times b t
times-append b [] t = omega arith
times-append b (c ∷ s) t = omega (arith, times-append b s t)

-- what stands in a list is not what does not
pub times_differ : (a b : ℕ) (s : List ℕ) → 0 < times a s → times b s ≡ 0 → a ≢ b
times_differ a b s h z e = let h' : 0 < times b s = subst (λ (x : ℕ). 0 < times x s) e h in omega arith

pub times_head : (b : ℕ) (s : List ℕ) → 0 < times b (b ∷ s)
times_head b s = omega (arith, one_same b)

pub times-tail : (b c : ℕ) (s : List ℕ) → 0 < times b s → 0 < times b (c ∷ s)
times-tail b c s h = omega arith

-- another tile in place t: the count changes by what that tile and the old one have
pub times_in_tiles-set : (b : ℕ) (l : List Chained) (t : ℕ) (x : Chained) → t < length l
    → times_in_tiles b (set l t x) + times b (get_or l t empty).blocks ≡ times_in_tiles b l + times b x.blocks
times_in_tiles-set b [] t x h = absurd (not-suc-le-zero h)
times_in_tiles-set b (y ∷ l) zero x h = omega arith
times_in_tiles-set b (y ∷ l) (suc t) x h = omega (arith, times_in_tiles-set b l t x (le_of_suc-le-suc h))

pub times_in_tiles-at : (b : ℕ) (l : List Chained) (t : ℕ) → times b (get_or l t empty).blocks ≤ times_in_tiles b l
times_in_tiles-at b [] t = zero-le
times_in_tiles-at b (x ∷ l) zero = omega arith
times_in_tiles-at b (x ∷ l) (suc t) = omega (arith, times_in_tiles-at b l t)

pub times_in_tiles_two : (b : ℕ) (l : List Chained) (t u : ℕ) → t ≢ u
    → times b (get_or l t empty).blocks + times b (get_or l u empty).blocks ≤ times_in_tiles b l
times_in_tiles_two b [] t u ne = omega arith
times_in_tiles_two b (x ∷ l) zero zero ne = absurd (ne refl)
times_in_tiles_two b (x ∷ l) zero (suc u) ne = omega (arith, times_in_tiles-at b l u)
times_in_tiles_two b (x ∷ l) (suc t) zero ne = omega (arith, times_in_tiles-at b l t)
times_in_tiles_two b (x ∷ l) (suc t) (suc u) ne = omega (arith, times_in_tiles_two b l t u (λ e. ne (ap suc e)))
