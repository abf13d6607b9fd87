-- The sizes of tiles, for the s that are allowed, and division by a tile's side as orders of products.
use mathlib.Core.Path.{◌≡◌, ◌∙◌}
use Prim.Native.Nat.{ℕ, suc, ◌+◌, ◌-◌, ◌*◌, ◌/◌, ◌%◌, ◌^◌, ◌≤◌, ◌<◌}
use native.Mathlib.Nat.{le-div_iff_mul-le, div-lt_iff_lt-mul, mod-eq_of_lt, mul-le-mul}
use native.Mathlib.Omega.{arith}
use lib.Pow.{pow-add, pow_mono, pow_pos}
use Rattle.numbers.specs.Ceil.{ceil}
use Rattle.screen.specs.Screen.{across}
use Rattle.screen.specs.Rectangle.{side}

pub pixels≥ : {s : ℕ} → 3 ≤ s → 8 ≤ 2 ^ s
pixels≥ {s} h = pow_mono {i = 3} {j = s} h

pub pixels≤ : {s : ℕ} → s ≤ 6 → 2 ^ s ≤ 64
pixels≤ {s} h = pow_mono {i = s} {j = 6} h

pub across≤ : (extent s : ℕ) → extent ≤ 4096 → 3 ≤ s → across extent s ≤ 512
unfolding across
across≤ extent s e h =
    let w = pixels≥ h in
    let k : ceil extent (2 ^ s) < 513 = (div-lt_iff_lt-mul {k = 2 ^ s} {x = extent + (2 ^ s - 1)} {y = 513} (pow_pos s)).1 (omega arith) in
    omega arith

pub across≥ : (extent s : ℕ) → 1 ≤ extent → 0 < across extent s
unfolding across
across≥ extent s h =
    let w = pow_pos s in
    (le-div_iff_mul-le {k = 2 ^ s} {x = 1} {y = extent + (2 ^ s - 1)} w).1 (omega arith)

-- 2^s and its multiples as a machine word
pub shift_is : (k s : ℕ) → k ≤ 8192 → s ≤ 6 → (k * 2 ^ s) % 2 ^ 32 ≡ k * 2 ^ s
shift_is k s h l = let w : k * 2 ^ s ≤ 8192 * 64 = mul-le-mul h (pixels≤ l) in mod-eq_of_lt (omega arith)

-- a shift by s + 4 divides by the side
pub side_pow : (s : ℕ) → 2 ^ (s + 4) ≡ side s
side_pow s = pow-add 2 s 4 ∙ omega arith

pub side> : (s : ℕ) → 0 < side s
side> s = let w = pow_pos s in omega arith

module _ (t : ℕ) (0<t : 0 < t) where
  -- (m − 1) / t is the first k with m ≤ (k + 1) · t
  pub first_reaches : (m k : ℕ) → (m - 1) / t ≤ k → m ≤ (k + 1) * t
  first_reaches m k h =
      let l : m - 1 < suc k * t = (div-lt_iff_lt-mul {k = t} {x = m - 1} {y = suc k} 0<t).0 (omega arith) in
      omega arith

  pub first_least : (m k : ℕ) → 0 < m → m ≤ (k + 1) * t → (m - 1) / t ≤ k
  first_least m k p h =
      let l : (m - 1) / t < suc k = (div-lt_iff_lt-mul {k = t} {x = m - 1} {y = suc k} 0<t).1 (omega arith) in
      omega arith

  -- (m + (t − 1)) / t is the number of k with k · t < m
  pub past_below : (m k : ℕ) → k < (m + (t - 1)) / t → k * t < m
  past_below m k h =
      let l : suc k * t ≤ m + (t - 1) = (le-div_iff_mul-le {k = t} {x = suc k} {y = m + (t - 1)} 0<t).0 h in
      omega arith

  pub below_past : (m k : ℕ) → k * t < m → k < (m + (t - 1)) / t
  below_past m k h = (le-div_iff_mul-le {k = t} {x = suc k} {y = m + (t - 1)} 0<t).1 (omega arith)
