-- The limit L of the size of a number of units: above it none rounds into range, where L is 262,145 at least. L is l * 2 ^ k.
use mathlib.Core.Path.{◌≡◌, refl}
use Prim.Native.Nat.{ℕ, ◌*◌, ◌^◌, ◌≤◌, ◌<◌}
use native.Mathlib.Nat.{mul-le-mul_right}
use native.Mathlib.Omega.{arith}
use mathlib.Core.Bool.{Bool, true, false, not, true≢false, false≢true}
use borrow.Author.Tests.{ltb-true, ltb-false}
use lib.Dec.{T}
use lib.IntN.{ℤ, pos}
use lib.Ieee.{Float, nan, inf, fin, up, down, lt, is_nan}
use lib.Ieee.Fits.{down_pos}
use lib.Ieee.Nearest.{closest}
use Rattle.std.proofs.Common.{Err}
use Rattle.snap.specs.Unit.{rounded_of}
use Rattle.numbers.specs.declared.Refusal.TheVariants.{OutOfRange}
use Rattle.snap.proofs.Sizes.{closest_at_least}
use Rattle.snap.proofs.Sum.{AtMost}
use Rattle.snap.proofs.Unit.{large_is_refused}

large : (s : Bool) (m : ℕ) (e : ℤ) {L : ℕ} → L * down e < m * up e * 1 → 262145 ≤ L → rounded_of (fin s m e) ≡ Err OutOfRange
unfolding rounded_of
large s m e h a =
    large_is_refused s (closest (m * up e) (down e)) (closest_at_least (m * up e) 262145 (down_pos e) (omega (arith, mul-le-mul_right (down e) a)))

module _ (l k : ℕ) where
  pub below_refused : (w : Float) → lt w (fin true l (pos k)) ≡ true → 262145 ≤ l * 2 ^ k → rounded_of w ≡ Err OutOfRange
  unfolding lt rounded_of
  below_refused nan t a = absurd (false≢true t)
  below_refused (inf true) t a = refl
  below_refused (inf false) t a = absurd (false≢true t)
  below_refused (fin false m e) t a = absurd (false≢true t)
  below_refused (fin true m e) t a = large true m e (ltb-true (l * 2 ^ k * down e) (m * up e * 1) t) a

  pub above_refused : (w : Float) → lt (fin false l (pos k)) w ≡ true → 262145 ≤ l * 2 ^ k → rounded_of w ≡ Err OutOfRange
  unfolding lt rounded_of
  above_refused nan t a = absurd (false≢true t)
  above_refused (inf true) t a = absurd (false≢true t)
  above_refused (inf false) t a = refl
  above_refused (fin true m e) t a = absurd (false≢true t)
  above_refused (fin false m e) t a = large false m e (ltb-true (l * 2 ^ k * down e) (m * up e * 1) t) a

  pub within : (w : Float) → T (not (is_nan w)) → lt w (fin true l (pos k)) ≡ false → lt (fin false l (pos k)) w ≡ false → AtMost (l * 2 ^ k) w
  unfolding lt is_nan
  within nan n t r = absurd n
  within (inf true) n t r = absurd (true≢false t)
  within (inf false) n t r = absurd (true≢false r)
  within (fin false m e) n t r = let i = ltb-false (l * 2 ^ k * down e) (m * up e * 1) r in omega arith
  within (fin true m e) n t r = let i = ltb-false (l * 2 ^ k * down e) (m * up e * 1) t in omega arith
