-- From 2 ^ 23 to 2 ^ 24 the f32 are the whole numbers: a fraction there is rounded to the whole number nearest to it, a half to the even one.
use mathlib.Core.Path.{◌≡◌, sym, ap, ◌∙◌, subst}
use Prim.Native.Nat.{ℕ, ◌-◌, ◌*◌, ◌/◌, ◌^◌, ◌≤◌, ◌<◌}
use native.Mathlib.Nat.{le_trans, le_of_eq, le_of_lt, lt_of_lt_of_le, lt_of_le_of_lt, lt_of_not-le, not-le_of_lt, le_antisymm, mul-one, mul_comm, mul_assoc, mul_right_comm, mul-pos, mul-le-mul_right, mul-lt-mul_of_pos_right, le-div_iff_mul-le, div-lt_iff_lt-mul}
use mathlib.Core.Bool.{false}
use lib.Dec.{lit<}
use lib.Pow.{pow_pos, pow_mono}
use lib.Ieee.{binary32, size, round}
use lib.Ieee.Digits.{size-lt, size-le}
use lib.Ieee.Exact.{HasValue}
use lib.Ieee.Nearest.{closest, closest_same}
use lib.Ieee.Scale.{grid, overflow, round_val}
use Rattle.snap.proofs.Sizes.{closest_at_most}
use Rattle.snap.proofs.Product.{rescale}

module _ (n d : ℕ) (D : 0 < d) (low : 2 ^ 23 * d ≤ n) (high : n < 2 ^ 24 * d) where
  -- n / d is so many of the smallest f32, of which 2 ^ 149 are 1
  at_least : 2 ^ 172 ≤ n * 2 ^ 149 / d
  at_least = (le-div_iff_mul-le D).1 (le_trans (le_of_eq (mul_right_comm (2 ^ 23) (2 ^ 149) d)) (mul-le-mul_right (2 ^ 149) low))

  below : n * 2 ^ 149 / d < 2 ^ 173
  below = (div-lt_iff_lt-mul D).1 (lt_of_lt_of_le (mul-lt-mul_of_pos_right high (pow_pos 149)) (le_of_eq (mul_right_comm (2 ^ 24) d (2 ^ 149))))

  -- so its whole part has 173 digits, of which 149 are dropped
  digits : size (n * 2 ^ 149 / d) ≡ 173
  digits =
      le_antisymm (size-le (n * 2 ^ 149 / d) 173 below)
      (lt_of_not-le (λ (g : size (n * 2 ^ 149 / d) ≤ 172). not-le_of_lt (lt_of_lt_of_le (size-lt (n * 2 ^ 149 / d)) (pow_mono g)) at_least))

  in_smallest : grid binary32 n d ≡ closest n d * 2 ^ 149
  in_smallest =
      ap (λ (z : ℕ). closest (n * 2 ^ 149) (d * 2 ^ (z - 24)) * 2 ^ (z - 24)) digits
      ∙ ap (λ (u : ℕ). u * 2 ^ 149)
      (closest_same (n * 2 ^ 149) (d * 2 ^ 149) n d (mul-pos D (pow_pos 149)) D (simp (mul_assoc, mul_comm)))

  finite : grid binary32 n d < overflow binary32
  finite =
      lt_of_le_of_lt (le_trans (le_of_eq in_smallest) (mul-le-mul_right (2 ^ 149) (closest_at_most n (2 ^ 24) D (le_of_lt high)))) (lit< tt)

  pub rounds_whole : HasValue (round binary32 false n d) false (closest n d) 1
  rounds_whole =
      let u = closest n d in
      rescale (round binary32 false n d) false (u * 2 ^ 149) (2 ^ 149) u 1 (pow_pos 149) (sym (mul-one (u * 2 ^ 149)))
      (subst (λ (x : ℕ). HasValue (round binary32 false n d) false x (2 ^ 149)) in_smallest (round_val binary32 n d finite))
