-- How many blocks of m places hold q ids, and when the last of them is full.
use mathlib.Core.Path.{◌≡◌, sym, ◌∙◌}
use mathlib.Core.Logic.{◌≢◌, ⊎_elim}
use Prim.Native.Nat.{ℕ, suc, ◌+◌, ◌*◌, ◌/◌, ◌%◌, ◌≤◌, ◌<◌}
use native.Mathlib.Nat.{mul-le-mul_left, mul-le-mul_right, div-add-mod, mod-lt}
use native.Mathlib.Omega.{arith}
use Rattle.numbers.specs.Ceil.{ceil}
use Rattle.numbers.proofs.Ceil.{lt_or_ge, ceil_enough, ceil-least, ceil_is}

module _ (m : ℕ) (0<m : 0 < m) where
  -- no ids, no blocks
  pub ceil_none : ceil 0 m ≡ 0
  ceil_none = sym (ceil_is 0 m 0<m 0 (omega arith) (omega arith))

  -- some ids, some blocks
  pub ceil_some : (q : ℕ) → q ≢ 0 → 0 < ceil q m
  ceil_some q nz =
      ⊎_elim (λ (k : 0 < ceil q m). k)
      (λ (k : ceil q m ≤ 0). let w : m * ceil q m ≤ m * 0 = mul-le-mul_left m k in absurd (omega (arith, ceil_enough q m 0<m)))
      (lt_or_ge 0 (ceil q m))

  -- no more blocks than ids
  pub ceil≤ : (q : ℕ) → ceil q m ≤ q
  ceil≤ q =
      ⊎_elim
      (λ (k : q < ceil q m).
      let w : m * suc q ≤ m * ceil q m = mul-le-mul_left m k in
      let v : 1 * q ≤ m * q = mul-le-mul_right q 0<m in
      absurd (omega (arith, ceil-least q m 0<m)))
      (λ (k : ceil q m ≤ q). k)
      (lt_or_ge q (ceil q m))

  -- the blocks are full
  pub ceil_full : (q : ℕ) → q % m ≡ 0 → q ≡ m * ceil q m
  ceil_full q z =
      let e : m * (q / m) + q % m ≡ q = div-add-mod q m in
      let w : q / m ≡ ceil q m = ceil_is q m 0<m (q / m) (omega arith) (omega arith) in
      let v : q ≡ m * (q / m) = omega arith in
      rw w at v

  -- the last block, which comes after c others, has room: it has q % m ids
  pub ceil-part : (q c : ℕ) → ceil q m ≡ suc c → q % m ≢ 0 → q ≡ m * c + q % m
  ceil-part q c s nz =
      let e : m * (q / m) + q % m ≡ q = div-add-mod q m in
      let r : q % m < m = mod-lt q 0<m in
      let w : suc (q / m) ≡ ceil q m = ceil_is q m 0<m (suc (q / m)) (omega arith) (omega arith) in
      let f : q / m ≡ c = omega arith in
      rw f at (sym e)

  -- one id more takes a block more
  pub ceil_suc_full : (q : ℕ) → q % m ≡ 0 → ceil (suc q) m ≡ suc (ceil q m)
  ceil_suc_full q z = let f = ceil_full q z in sym (ceil_is (suc q) m 0<m (suc (ceil q m)) (omega arith) (omega arith))

  -- and none where the last block has room
  pub ceil_suc_part : (q : ℕ) → q % m ≢ 0 → ceil (suc q) m ≡ ceil q m
  ceil_suc_part q nz =
      let e : m * (q / m) + q % m ≡ q = div-add-mod q m in
      let r : q % m < m = mod-lt q 0<m in
      let w : suc (q / m) ≡ ceil q m = ceil_is q m 0<m (suc (q / m)) (omega arith) (omega arith) in
      sym (ceil_is (suc q) m 0<m (suc (q / m)) (omega arith) (omega arith)) ∙ w
