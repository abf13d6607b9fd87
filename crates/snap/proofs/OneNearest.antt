-- The laws of `Nearest`: every fraction has exactly one nearest whole number, which is `closest` of its size with its sign.
use mathlib.Core.Path.{◌≡◌, refl, sym, ap, ◌∙◌, subst}
use Prim.Native.Nat.{ℕ, zero, suc, ◌+◌, ◌-◌, ◌*◌, ◌%◌, ◌<◌}
use native.Mathlib.Omega.{arith}
use mathlib.Core.Bool.{Bool, true, false}
use lib.Dec.{leb}
use borrow.Author.Tests.{leb-true, leb-false}
use lib.IntN.{ℤ, pos, negsuc, nat_abs, ◌-ℤ◌, ◌*ℤ◌}
use lib.Ieee.Nearest.{closest}
use Rattle.numbers.specs.Diff.{Diff}
use Rattle.numbers.proofs.Diff.{diff_pos, diff_neg, diff_sub, diff_mul}
use Rattle.snap.specs.Nearest.{away, Nearest}
use Rattle.snap.specs.Unit.{signed}
use Rattle.snap.proofs.Sizes.{NearestSize, size_only, closest_is}

-- ---- how far two numbers of one sign are apart

abs_is : (x : ℤ) {a b : ℕ} → Diff x a b → nat_abs x ≡ (a - b) + (b - a)
abs_is (pos n) {a} {b} p = let e = p.is in omega arith
abs_is (negsuc n) {a} {b} p = let e = p.is in omega arith

away_is : (s : Bool) (n d u : ℕ) → away (signed s n) d (signed s u) ≡ (n - u * d) + (u * d - n)
away_is false n d u =
    omega (arith, abs_is (pos n -ℤ (pos u *ℤ pos d)) (diff_sub (diff_pos n) (diff_mul (diff_pos u) (diff_pos d))))
away_is true n d u =
    omega (arith, abs_is (signed true n -ℤ (signed true u *ℤ pos d)) (diff_sub (diff_neg (diff_pos n)) (diff_mul (diff_neg (diff_pos u)) (diff_pos d))))

abs_signed : (s : Bool) (u : ℕ) → nat_abs (signed s u) ≡ u
abs_signed false u = refl
abs_signed true zero = refl
abs_signed true (suc u) = refl

-- ---- of one sign, it is the rounding of sizes

module _ (s : Bool) (n : ℕ) {d u : ℕ} where
  tie : NearestSize n d u → 2 * away (signed s n) d (signed s u) ≡ d → u % 2 ≡ 0
  tie p t = go (leb n (u * d)) refl
    where
      go : (b : Bool) → leb n (u * d) ≡ b → u % 2 ≡ 0
      go true e = p.tie_over (omega (arith, away_is s n d u, leb-true n (u * d) e))
      go false e = p.tie_under (omega (arith, away_is s n d u, leb-false n (u * d) e))

  with_sign : NearestSize n d u → Nearest (signed s n) d (signed s u)
  with_sign p = record { near = omega (arith, away_is s n d u); even = λ t. ap (λ (x : ℕ). x % 2) (abs_signed s u) ∙ tie p t }

  without_sign : Nearest (signed s n) d (signed s u) → NearestSize n d u
  without_sign p =
      let even : 2 * away (signed s n) d (signed s u) ≡ d → u % 2 ≡ 0 = λ t. ap (λ (x : ℕ). x % 2) (sym (abs_signed s u)) ∙ p.even t in
      let h = p.near in
      record {
        under = omega (arith, away_is s n d u);
        over = omega (arith, away_is s n d u);
        tie_under = λ t. even (omega (arith, away_is s n d u));
        tie_over = λ t. even (omega (arith, away_is s n d u));
      }

-- ---- a number of the other sign is a whole away at least

same_sign : (s : Bool) (n : ℕ) {d : ℕ} (z : ℤ) → 0 < d → Nearest (signed s n) d z → z ≡ signed s (nat_abs z)
same_sign false n (pos u) D p = refl
same_sign false n {d} (negsuc k) D p =
    let h = p.near in
    absurd (omega (arith, abs_is (pos n -ℤ (negsuc k *ℤ pos d)) (diff_sub (diff_pos n) (diff_mul (diff_neg (diff_pos (suc k))) (diff_pos d)))))
same_sign true n (pos zero) D p = refl
same_sign true n {d} (pos (suc k)) D p =
    let h = p.near in
    absurd (omega (arith, abs_is (signed true n -ℤ (pos (suc k) *ℤ pos d)) (diff_sub (diff_neg (diff_pos n)) (diff_mul (diff_pos (suc k)) (diff_pos d)))))
same_sign true n (negsuc k) D p = refl

-- ---- exactly one

pub closest_nearest : (s : Bool) (n : ℕ) {d : ℕ} → 0 < d → Nearest (signed s n) d (signed s (closest n d))
closest_nearest s n {d} D = with_sign s n (closest_is n d D)

pub nearest_closest : (s : Bool) (n : ℕ) {d : ℕ} {z : ℤ} → 0 < d → Nearest (signed s n) d z → z ≡ signed s (closest n d)
nearest_closest s n {d} {z} D p =
    let e : z ≡ signed s (nat_abs z) = same_sign s n z D p in
    e ∙ ap (signed s) (size_only D (without_sign s n (subst (λ (y : ℤ). Nearest (signed s n) d y) e p)) (closest_is n d D))
