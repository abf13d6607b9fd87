-- What may be known of tiles and their rectangles: numbers and places go back and forth, the sides are in order and rise, and along an axis each tile ends
-- where the next begins, from 0 to where the screen ends.
use mathlib.Core.Path.{◌≡◌, ap}
use Prim.Native.Nat.{ℕ, suc, ◌+◌, ◌*◌, ◌-◌, ◌^◌, ◌≤◌, ◌<◌, min}
use native.Mathlib.Nat.{mul-le-mul_left, mul-le-mul_right, div-add-mod, mod-lt, div-lt_iff_lt-mul}
use native.Mathlib.Omega.{arith}
use lib.IntN.{pos}
use lib.Signed.{◌≤ℤ◌, ◌<ℤ◌}
use lib.Pow.{pow_pos}
use Rattle.numbers.specs.Ceil.{ceil}
use Rattle.numbers.proofs.Diff.{diff_pos, diff_le, diff_lt, ≤ℤ_trans, <ℤ-≤ℤ}
use Rattle.numbers.proofs.Ceil.{same_mul, ceil_enough}
use Rattle.screen.specs.declared.Screen.{Screen}
use Rattle.screen.specs.Screen.{Allowed, across, columns, rows, tiles, column_of, row_of, tile_at}
use Rattle.screen.specs.Rectangle.{side, near, far, rectangle_at, glass, Inside, Proper, HasArea}
use Rattle.screen.proofs.Sizes.{across≥, past_below}

pos_le : {m n : ℕ} → m ≤ n → pos m ≤ℤ pos n
pos_le {m} {n} h = diff_le (diff_pos m) (diff_pos n) (omega arith)

-- ---- the sides of the tiles along an axis

module _ (extent s : ℕ) where
  pub near_rises : {k l : ℕ} → k ≤ l → near extent s k ≤ℤ near extent s l
  unfolding near
  near_rises {k} {l} h = pos_le (mul-le-mul_right (side s) h)

  pub far_rises : {k l : ℕ} → k ≤ l → far extent s k ≤ℤ far extent s l
  unfolding far
  far_rises {k} {l} h = let h' : k + 1 ≤ l + 1 = omega arith in pos_le (omega (arith, mul-le-mul_right (side s) h'))

  -- no tile ends past the screen
  pub far≤glass : (k : ℕ) → far extent s k ≤ℤ pos (16 * extent)
  unfolding far
  far≤glass k = pos_le (omega arith)

  -- a tile begins before the screen ends
  begins : {k : ℕ} → k < across extent s → k * side s < 16 * extent
  unfolding across
  begins {k} h = let w : k * 2 ^ s < extent = past_below (2 ^ s) (pow_pos s) extent k h in omega arith

  -- and so no tile is empty, the last one neither
  pub near<far : {k : ℕ} → k < across extent s → near extent s k <ℤ far extent s k
  unfolding near far
  near<far {k} h = diff_lt (diff_pos (k * side s)) (diff_pos (min ((k + 1) * side s) (16 * extent))) (omega (arith, begins h, pow_pos s))

  -- a tile ends where the next begins, the first begins at 0, and the last ends with the screen
  pub far-near : (k : ℕ) → k + 1 < across extent s → far extent s k ≡ near extent s (k + 1)
  unfolding near far
  far-near k h = ap pos (omega (arith, begins h))

  pub near_first : near extent s 0 ≡ pos 0
  unfolding near
  near_first = ap pos (omega arith)

  pub far_last : (k : ℕ) → k + 1 ≡ across extent s → far extent s k ≡ pos (16 * extent)
  unfolding far across
  far_last k h =
      let w : 2 ^ s * (k + 1) ≡ 2 ^ s * ceil extent (2 ^ s) = ap (λ (n : ℕ). 2 ^ s * n) h in
      ap pos (omega (arith, ceil_enough extent (2 ^ s) (pow_pos s)))

  module _ (e≤ : extent ≤ 4096) (s≥ : 3 ≤ s) (s≤ : s ≤ 6) {k : ℕ} (k< : k < across extent s) where
    pub near≥ : pos 0 ≤ℤ near extent s k
    unfolding near
    near≥ = pos_le (omega arith)

    pub near-far : near extent s k ≤ℤ far extent s k
    near-far = <ℤ-≤ℤ (near<far k<)

    pub far≤ : far extent s k ≤ℤ pos 524288
    far≤ = ≤ℤ_trans (far≤glass k) (pos_le (omega arith))

-- ---- the tiles of a screen

module _ (d : Screen) (a : Allowed d) where
  pub rectangle_on_the_glass : {column row : ℕ} → column < columns d → row < rows d → Inside (rectangle_at d column row) (glass d)
  rectangle_on_the_glass {column} {row} hc hr = record {
    left = near≥ d.width d.s a.width≤ a.s≥ a.s≤ hc;
    right = far≤glass d.width d.s column;
    top = near≥ d.height d.s a.height≤ a.s≥ a.s≤ hr;
    bottom = far≤glass d.height d.s row;
  }

  pub rectangle_proper : {column row : ℕ} → column < columns d → row < rows d → Proper (rectangle_at d column row)
  rectangle_proper hc hr = record {
    left≥ = near≥ d.width d.s a.width≤ a.s≥ a.s≤ hc;
    wide = near-far d.width d.s a.width≤ a.s≥ a.s≤ hc;
    right≤ = far≤ d.width d.s a.width≤ a.s≥ a.s≤ hc;
    top≥ = near≥ d.height d.s a.height≤ a.s≥ a.s≤ hr;
    high = near-far d.height d.s a.height≤ a.s≥ a.s≤ hr;
    bottom≤ = far≤ d.height d.s a.height≤ a.s≥ a.s≤ hr;
  }

  pub rectangle_has_area : {column row : ℕ} → column < columns d → row < rows d → HasArea (rectangle_at d column row)
  rectangle_has_area hc hr = record {
    wide = near<far d.width d.s hc;
    high = near<far d.height d.s hr;
  }

  -- a screen has a column and a row
  pub columns≥ : 0 < columns d
  columns≥ = across≥ d.width d.s a.width≥

  pub rows≥ : 0 < rows d
  rows≥ = across≥ d.height d.s a.height≥

  -- a tile's number from its column and row, and back
  pub column_row : (t : ℕ) → tile_at d (column_of d t) (row_of d t) ≡ t
  column_row t = omega (arith, div-add-mod t (columns d))

  pub column< : (t : ℕ) → column_of d t < columns d
  column< t = mod-lt t columns≥

  pub row< : (t : ℕ) → t < tiles d → row_of d t < rows d
  row< t h = (div-lt_iff_lt-mul {k = columns d} {x = t} {y = rows d} columns≥).1 (omega arith)

  pub row_is : (column row : ℕ) → column < columns d → row_of d (tile_at d column row) ≡ row
  row_is column row h =
      let t = tile_at d column row in
      let e : columns d * row_of d t + column_of d t ≡ t = div-add-mod t (columns d) in
      let m = column< t in
      same_mul (columns d) (row_of d t) row (columns d - 1) (omega arith) (omega arith) (omega arith)

  pub column_is : (column row : ℕ) → column < columns d → column_of d (tile_at d column row) ≡ column
  column_is column row h =
      let t = tile_at d column row in
      let e : columns d * row_of d t + column_of d t ≡ t = div-add-mod t (columns d) in
      let r : columns d * row_of d t ≡ columns d * row = ap (λ (x : ℕ). columns d * x) (row_is column row h) in
      omega arith

  pub tile< : {column row : ℕ} → column < columns d → row < rows d → tile_at d column row < tiles d
  tile< {column} {row} hc hr = let w : columns d * suc row ≤ columns d * rows d = mul-le-mul_left (columns d) hr in omega arith
