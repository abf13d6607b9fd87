-- A number of units with an even number K added and taken away again, in f32, where it is at most L in size and K - L and K + L lie from 2 ^ 23 to 2 ^ 24:
-- the sum is rounded to a whole number, and the difference is exact. So what is left is the number of units, rounded.
use mathlib.Core.Path.{◌≡◌, sym, ap, ◌∙◌, subst}
use Prim.Native.Nat.{ℕ, zero, suc, ◌+◌, ◌-◌, ◌*◌, ◌%◌, ◌^◌, ◌≤◌, ◌<◌}
use native.Mathlib.Nat.{mul-one, mul-le-mul_right, mul-lt-mul_of_pos_right}
use native.Mathlib.Omega.{arith}
use mathlib.Core.Bool.{Bool, true, false, cond, true≢false}
use borrow.Author.Tests.{lt-ltb, le-ltb}
use lib.Dec.{T, ltb, lit≤, le→leb, lt→ltb}
use lib.IntN.{ℤ, pos}
use lib.Ieee.{Float, nan, inf, fin, binary32, up, down, round, sum, add, neg, sub, of_int, in_float, in_signed, to_signed}
use lib.Ieee.Back.{positive_back, negative_back}
use lib.Ieee.Exact.{HasValue}
use lib.Ieee.Fits.{down_pos}
use lib.Ieee.Nearest.{closest}
use lib.Ieee.Scale.{round_same}
use mir.Syntax.{w32}
use Rattle.numbers.specs.Is.{Is, kept}
use Rattle.numbers.proofs.Is.{is_pos, is_neg, is_kept}
use Rattle.snap.specs.Unit.{signed, accept, rounded_of}
use Rattle.snap.proofs.Sizes.{closest_at_most, closest_more, closest_less}
use Rattle.snap.proofs.Whole.{rounds_whole}

-- K and a whole number of sign s and size u
abbrev shifted : ℕ → Bool → ℕ → ℕ
shifted K false u = u + K
shifted K true u = K - u

-- u in f32, as a sum or difference makes it
whole : (s : Bool) (a d u : ℕ) → 0 < d → a ≡ u * d → round binary32 s a (d * 1) ≡ round binary32 s u 1
whole s a d u D e = round_same binary32 s a (d * 1) u 1 (omega arith) (lit≤ tt) (omega arith)

module _ (L K : ℕ) (low : 8388608 + L ≤ K) (high : K + L < 16777216) (even : K % 2 ≡ 0) where
  -- ---- the sum, for units ±n / d

  module _ (n d : ℕ) (D : 0 < d) (h : n ≤ L * d) where
    sum_above : HasValue (round binary32 false (n * 1 + K * d) (d * 1)) false (closest n d + K) 1
    sum_above =
        rw (mul-one n, mul-one d, sym (closest_more K n D even))
        (rounds_whole (n + K * d) d D (omega (arith, mul-le-mul_right d low)) (omega (arith, mul-lt-mul_of_pos_right high D)))

    sum_below : HasValue (round binary32 false (K * d - n * 1) (d * 1)) false (K - closest n d) 1
    sum_below =
        rw (mul-one n, mul-one d, sym (closest_less K n D even (omega (arith, mul-le-mul_right d low))))
        (rounds_whole (K * d - n) d D (omega (arith, mul-le-mul_right d low)) (omega (arith, mul-lt-mul_of_pos_right high D)))

  -- ---- the difference, for a sum a / d

  difference : (s : Bool) (a d u : ℕ) → 0 < d → u ≤ L → a * 1 ≡ shifted K s u * d → cond (ltb (a * 1) (K * d)) (round binary32 true (K * d - a * 1) (d * 1)) (round binary32 false (a * 1 - K * d) (d * 1)) ≡ of_int binary32 (signed s u)
  unfolding of_int
  difference false a d u D h e = rw (le-ltb (a * 1) (K * d) (omega arith)) (whole false (a * 1 - K * d) d u D (omega arith))
  difference true a d zero D h e =
      let i : (K - 0) * d ≡ K * d = ap (λ (x : ℕ). x * d) (omega arith) in
      rw (le-ltb (a * 1) (K * d) (omega arith)) (whole false (a * 1 - K * d) d 0 D (omega arith))
  difference true a d (suc u) D h e =
      let i : (K - suc u + suc u) * d ≡ K * d = ap (λ (x : ℕ). x * d) (omega arith) in
      rw (lt-ltb (a * 1) (K * d) (omega arith)) (whole true (K * d - a * 1) d (suc u) D (omega arith))

-- ---- both, in f32

-- a number of units at most L in size
abbrev pub AtMost : ℕ → Float → Type 0
AtMost L nan = ⊥
AtMost L (inf s) = ⊥
AtMost L (fin s m e) = m * up e ≤ L * down e

-- what is left of w where c is added and taken away
abbrev pub left : Float → Float → Float
left c w = sub binary32 (add binary32 w c) c

-- x is a whole number that an i32 holds, and gets the answer of w, rounded
pub record Rounds (w x : Float) : Type 0 where
  pub asked : T (in_signed binary32 31 x)
  pub right : accept (kept w32 (to_signed 31 x)) ≡ rounded_of w

cast_back : (s : Bool) (u : ℕ) → u ≤ 16777216 → T (in_signed binary32 31 (of_int binary32 (signed s u))) × (to_signed 31 (of_int binary32 (signed s u)) ≡ signed s u)
unfolding in_float
cast_back false u h = positive_back binary32 31 u (le→leb u 16777216 h) (omega arith)
cast_back true zero h = positive_back binary32 31 0 tt (omega arith)
cast_back true (suc u) h = negative_back binary32 31 u (lt→ltb u 16777216 h) (omega arith)

signed_is : (s : Bool) (u : ℕ) → u ≤ 16777216 → Is (signed s u) (signed s u) 16777216
signed_is false u h = is_pos h
signed_is true u h = is_neg (is_pos h)

-- K is a * 2 ^ b
module _ (L a b : ℕ) (low : 8388608 + L ≤ a * 2 ^ b) (high : a * 2 ^ b + L < 16777216) (even : a * 2 ^ b % 2 ≡ 0) where
  sum_is : (s : Bool) (m : ℕ) (e : ℤ) → m * up e ≤ L * down e → HasValue (add binary32 (fin s m e) (fin false a (pos b))) false (shifted (a * 2 ^ b) s (closest (m * up e) (down e))) 1
  unfolding add sum
  sum_is false m e h = sum_above L (a * 2 ^ b) low high even (m * up e) (down e) (down_pos e) h
  sum_is true m e h =
      rw (lt-ltb (m * up e * 1) (a * 2 ^ b * down e) (omega (arith, mul-le-mul_right (down e) low, down_pos e)))
      (sum_below L (a * 2 ^ b) low high even (m * up e) (down e) (down_pos e) h)

  difference_is : (s : Bool) (u : ℕ) (x : Float) → u ≤ L → HasValue x false (shifted (a * 2 ^ b) s u) 1 → sub binary32 x (fin false a (pos b)) ≡ of_int binary32 (signed s u)
  unfolding sub add sum neg
  difference_is s u nan h v = absurd v
  difference_is s u (inf t) h v = absurd v
  difference_is s u (fin true m e) h v = absurd (true≢false v.0)
  difference_is s u (fin false m e) h v = difference L (a * 2 ^ b) low high even s (m * up e) (down e) u (down_pos e) h v.1

  pub rounds : (w : Float) → AtMost L w → Rounds w (left (fin false a (pos b)) w)
  unfolding rounded_of
  rounds nan h = absurd h
  rounds (inf s) h = absurd h
  rounds (fin s m e) h =
      let u = closest (m * up e) (down e) in
      let few : u ≤ L = closest_at_most (m * up e) L (down_pos e) h in
      let i : left (fin false a (pos b)) (fin s m e) ≡ of_int binary32 (signed s u) = difference_is s u (add binary32 (fin s m e) (fin false a (pos b))) few (sum_is s m e h) in
      let back = cast_back s u (omega arith) in
      let same : kept w32 (signed s u) ≡ signed s u = (is_kept w32 tt (signed_is s u (omega arith))).same in
      subst (Rounds (fin s m e)) (sym i) (record { asked = back.0; right = ap (λ (z : ℤ). accept (kept w32 z)) back.1 ∙ ap accept same })
