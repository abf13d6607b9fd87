-- Along an axis, a coordinate on the glass lies in the tile that division gives, rounded down or rounded up less one; and no tile before the latter reaches it.
use mathlib.Core.Path.{◌≡◌, subst}
use Prim.Native.Nat.{ℕ, ◌+◌, ◌*◌, ◌-◌, ◌/◌, ◌^◌, ◌≤◌, ◌<◌}
use native.Mathlib.Nat.{mul-le-mul_left, mul-le-mul_right, div-add-mod, mod-lt}
use native.Mathlib.Omega.{arith}
use mathlib.Core.Logic.{◌⊎◌, ⊎_elim}
use lib.IntN.{ℤ, pos}
use lib.Signed.{◌≤ℤ◌}
use lib.Pow.{pow_pos}
use Rattle.numbers.specs.Diff.{up}
use Rattle.numbers.specs.Ceil.{ceil}
use Rattle.numbers.proofs.Diff.{diff_pos, diff_le, up_le, le_up}
use Rattle.numbers.proofs.Ceil.{ceil_enough, ceil-least, lt_or_ge}
use Rattle.screen.specs.Screen.{across}
use Rattle.screen.specs.Rectangle.{side, near, far}
use Rattle.screen.specs.Held.{held, rounded_down, rounded_up_less_one}
use Rattle.screen.proofs.Sizes.{across≥, side>}

-- the tiles reach the end of the glass
reach : (extent s : ℕ) → 16 * extent ≤ across extent s * side s
unfolding across
reach extent s = let w = ceil_enough extent (2 ^ s) (pow_pos s) in omega (arith, mul-le-mul_left 16 w)

pos_up : (z : ℤ) → pos 0 ≤ℤ z → {n : ℕ} → n ≤ up z → pos n ≤ℤ z
pos_up (pos m) l {n} h = diff_le (diff_pos n) (diff_pos m) (omega arith)
pos_up (ℤ.negsuc m) l h = absurd l.le

module _ (extent s : ℕ) (e≥ : 1 ≤ extent) {z : ℤ} (z≥ : pos 0 ≤ℤ z) (z≤ : z ≤ℤ pos (16 * extent)) where
  pub down< : rounded_down extent s z < across extent s
  unfolding rounded_down
  down< = let w = across≥ extent s e≥ in omega arith

  pub up< : rounded_up_less_one extent s z < across extent s
  unfolding rounded_up_less_one
  up< = let w = across≥ extent s e≥ in omega arith

  -- k tiles begin before z, and the next ends no earlier, or is the last: so z lies in tile k
  in_near : (q : ℕ) → q * side s ≤ up z → near extent s (held (across extent s) q) ≤ℤ z
  unfolding near
  in_near q h = pos_up z z≥ (let l : held (across extent s) q ≤ q = omega arith in omega (arith, mul-le-mul_right (side s) l))

  in_far : (q : ℕ) → up z ≤ (q + 1) * side s → z ≤ℤ far extent s (held (across extent s) q)
  unfolding far
  in_far q h = let v = go (lt_or_ge q (across extent s)) in let u = up_le z z≤ in le_up z (omega arith)
    where
      go : (q < across extent s) ⊎ (across extent s ≤ q) → up z ≤ (held (across extent s) q + 1) * side s
      go =
          ⊎_elim (λ (l : q < across extent s). let e : held (across extent s) q ≡ q = omega arith in rw e h)
          (λ (l : across extent s ≤ q).
          let w = across≥ extent s e≥ in
          let e : held (across extent s) q + 1 ≡ across extent s = omega arith in
          let r = reach extent s in
          let u = up_le z z≤ in
          rw e (omega arith))

  pub down_near : near extent s (rounded_down extent s z) ≤ℤ z
  unfolding rounded_down
  down_near = in_near (up z / side s) (let d = div-add-mod (up z) (side s) in omega arith)

  pub down_far : z ≤ℤ far extent s (rounded_down extent s z)
  unfolding rounded_down
  down_far = in_far (up z / side s) (let d = div-add-mod (up z) (side s) in let m = mod-lt (up z) (side> s) in omega arith)

  pub up-near : near extent s (rounded_up_less_one extent s z) ≤ℤ z
  unfolding rounded_up_less_one
  up-near = in_near (ceil (up z) (side s) - 1) (go (lt_or_ge 0 (ceil (up z) (side s))))
    where
      go : (0 < ceil (up z) (side s)) ⊎ (ceil (up z) (side s) ≤ 0) → (ceil (up z) (side s) - 1) * side s ≤ up z
      go =
          ⊎_elim
          (λ (l : 0 < ceil (up z) (side s)).
          let c : ℕ = ceil (up z) (side s) - 1 in
          let e : ceil (up z) (side s) ≡ c + 1 = omega arith in
          let w = ceil-least (up z) (side s) (side> s) in
          let v : side s * (c + 1) < up z + side s = subst (λ (n : ℕ). side s * n < up z + side s) e w in
          omega arith)
          (λ (l : ceil (up z) (side s) ≤ 0). let e : ceil (up z) (side s) - 1 ≡ 0 = omega arith in rw e (omega arith))

  pub up-far : z ≤ℤ far extent s (rounded_up_less_one extent s z)
  unfolding rounded_up_less_one
  up-far =
      in_far (ceil (up z) (side s) - 1)
      (let c : ℕ = ceil (up z) (side s) in
      let l : c ≤ (c - 1) + 1 = omega arith in
      let w = ceil_enough (up z) (side s) (side> s) in
      omega (arith, mul-le-mul_left (side s) l))

  -- no tile before it reaches z
  pub up_least : (k : ℕ) → z ≤ℤ far extent s k → rounded_up_less_one extent s z ≤ k
  unfolding rounded_up_less_one far
  up_least k h = go (lt_or_ge (k + 1) (ceil (up z) (side s)))
    where
      go : (k + 1 < ceil (up z) (side s)) ⊎ (ceil (up z) (side s) ≤ k + 1) → held (across extent s) (ceil (up z) (side s) - 1) ≤ k
      go =
          ⊎_elim
          (λ (l : k + 1 < ceil (up z) (side s)).
          let l' : k + 2 ≤ ceil (up z) (side s) = omega arith in
          let w = ceil-least (up z) (side s) (side> s) in
          let u = up_le z h in
          absurd (omega (arith, mul-le-mul_left (side s) l')))
          (λ (l : ceil (up z) (side s) ≤ k + 1). omega arith)
