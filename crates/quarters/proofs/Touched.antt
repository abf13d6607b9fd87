-- A square of tiles is touched exactly if one of its tiles on the grid is, whatever its side: its rectangle has the points of these tiles and no other, since
-- along an axis tiles have no gap. Where its rectangle is wholly covered, all of them are touched.
use mathlib.Core.Path.{◌≡◌, sym, ap, subst, ◌∙◌}
use mathlib.Core.Bool.{true, false, ◌||◌}
use mathlib.Core.Logic.{◌↔◌}
use Prim.Native.Nat.{ℕ, ◌+◌, ◌-◌, ◌^◌, ◌≤◌, ◌<◌}
use native.Mathlib.Omega.{arith}
use lib.IntN.{ℤ}
use lib.Signed.{◌≤ℤ◌}
use lib.Dec.{eqb}
use lib.Pow.{pow_pos}
use borrow.Author.Tests.{eqb-true, eqb-false}
use Rattle.numbers.proofs.Says.{true≢false}
use Rattle.numbers.proofs.Diff.{≤ℤ_trans}
use Rattle.screen.specs.declared.Screen.{Screen}
use Rattle.screen.specs.declared.Rectangle.{Rectangle}
use Rattle.screen.specs.Screen.{Allowed, columns, rows, column_of, row_of, tile_at}
use Rattle.screen.specs.Rectangle.{near, far, rectangle_at, rectangle, Proper, HasArea}
use Rattle.screen.proofs.Laws.{near_rises, far_rises, near≥, near-far, near<far, far≤, column_row, column<, row<, column_is, row_is, tile<}
use Rattle.shape.specs.declared.Shape.{Shape}
use Rattle.touch.specs.declared.Cover as answer
use Rattle.touch.specs.Touches.{Touches, PointIn}
use Rattle.touch.specs.Cover.{Wholly, CoverSays, is_touched, is_whole}
use Rattle.touch.proofs.Extremes.{≤ℤ-<ℤ_trans}
use Rattle.touch.proofs.Glass.{SomeTile, together_is_its_tiles, together-touched}
use Rattle.touch.proofs.Gaps.{row_has_no_gap, column_has_no_gap}
use Rattle.touch.proofs.Points.{point_is_touched}
use Rattle.quarters.specs.declared.Square.{Square}
use Rattle.quarters.specs.Square.{InSquare, TouchedIn, SomeTouchedIn, StartsOnGrid, past_of, square_rectangle, SquareSays}

-- ---- the tiles of a square along an axis, from the first to the last on the grid

module _ {n k : ℕ} (e : ℕ) (k< : k < n) where
  last≥ : k ≤ past_of n k e - 1
  last≥ = let w = pow_pos e in omega arith

  last< : past_of n k e - 1 < n
  last< = omega arith

  before_last : {i : ℕ} → i < n → i < k + 2 ^ e → i ≤ past_of n k e - 1
  before_last l h = omega arith

  last_before : {i : ℕ} → i ≤ past_of n k e - 1 → (i < n) × (i < k + 2 ^ e)
  last_before h = let w = pow_pos e in (omega arith, omega arith)

module _ (d : Screen) (a : Allowed d) (q : Square) (g : StartsOnGrid d q) where
  pub square_proper : Proper (square_rectangle d q)
  square_proper = record {
    left≥ = near≥ d.width d.s a.width≤ a.s≥ a.s≤ g.column;
    wide =
        ≤ℤ_trans (near_rises d.width d.s (last≥ q.exponent g.column))
        (near-far d.width d.s a.width≤ a.s≥ a.s≤ (last< q.exponent g.column));
    right≤ = far≤ d.width d.s a.width≤ a.s≥ a.s≤ (last< q.exponent g.column);
    top≥ = near≥ d.height d.s a.height≤ a.s≥ a.s≤ g.row;
    high =
        ≤ℤ_trans (near_rises d.height d.s (last≥ q.exponent g.row))
        (near-far d.height d.s a.height≤ a.s≥ a.s≤ (last< q.exponent g.row));
    bottom≤ = far≤ d.height d.s a.height≤ a.s≥ a.s≤ (last< q.exponent g.row);
  }

  -- ---- a square is its tiles

  -- its tiles on the grid, by column and row and by number
  module _ (P : Rectangle → Type 0) where
    abbrev Some : Type 0
    Some = SomeTile d P q.column (past_of (columns d) q.column q.exponent - 1) q.row (past_of (rows d) q.row q.exponent - 1)

    numbered : Some → (t : ℕ) × InSquare d q t × P (rectangle d t)
    numbered s =
        let c = last_before q.exponent g.column s.column≤ in
        let r = last_before q.exponent g.row s.row≤ in
        let ec = column_is d a s.column s.row c.0 in
        let er = row_is d a s.column s.row c.0 in (
          tile_at d s.column s.row,
          record {
            on_grid = tile< d a c.0 r.0;
            column≥ = rw ec s.column≥;
            column< = rw ec c.1;
            row≥ = rw er s.row≥;
            row< = rw er r.1;
          },
          subst P (λ i. rectangle_at d (sym ec i) (sym er i)) s.has,
        )

    placed : (t : ℕ) → InSquare d q t → P (rectangle d t) → Some
    placed t w h =
        record {
          column = column_of d t;
          row = row_of d t;
          column≥ = w.column≥;
          column≤ = before_last q.exponent g.column (column< d a t) w.column<;
          row≥ = w.row≥;
          row≤ = before_last q.exponent g.row (row< d a t w.on_grid) w.row<;
          has = h;
        }

  -- a point lies in the square's rectangle exactly if it lies in one of the square's tiles
  pub square_is_its_tiles : (n : ℕ) (x y : ℤ) → PointIn (square_rectangle d q) n x y ↔ ((t : ℕ) × InSquare d q t × PointIn (rectangle d t) n x y)
  square_is_its_tiles n x y =
      let k =
      together_is_its_tiles d (last≥ q.exponent g.column) (last< q.exponent g.column) (last≥ q.exponent g.row)
      (last< q.exponent g.row) n x y in
      (λ h. numbered (λ p. PointIn p n x y) (k.0 h), λ h. k.1 (placed (λ p. PointIn p n x y) h.0 h.1 h.2))

  -- ---- and is touched as they are

  module _ (shape : Shape) where
    pub square_touched : Touches shape (square_rectangle d q) ↔ SomeTouchedIn d shape q
    square_touched =
        let k =
        together-touched d (last≥ q.exponent g.column) (last< q.exponent g.column) (last≥ q.exponent g.row)
        (last< q.exponent g.row) shape in (
          λ h. let s = numbered (Touches shape) (k.0 h) in record { tile = s.0; touched = (s.1, s.2) },
          λ s. k.1 (placed (Touches shape) s.tile s.touched.0 s.touched.1),
        )

    -- the shape reaches a tile's columns along the top of the square and along the bottom, and so the tile between
    pub covered_touched : Wholly shape (square_rectangle d q) → (t : ℕ) → InSquare d q t → Touches shape (rectangle d t)
    covered_touched w t h =
        let c : ℕ = column_of d t in
        let r : ℕ = row_of d t in
        let wide : near d.width d.s c ≤ℤ far d.width d.s c = near-far d.width d.s a.width≤ a.s≥ a.s≤ (column< d a t) in
        let high : near d.height d.s r ≤ℤ far d.height d.s r = near-far d.height d.s a.height≤ a.s≥ a.s≤ (row< d a t h.on_grid) in
        let from-left = ≤ℤ_trans (near_rises d.width d.s h.column≥) wide in
        let to-right = ≤ℤ_trans wide (far_rises d.width d.s (before_last q.exponent g.column (column< d a t) h.column<)) in
        let from-top = ≤ℤ_trans (near_rises d.height d.s h.row≥) high in
        let to-bottom = ≤ℤ_trans high (far_rises d.height d.s (before_last q.exponent g.row (row< d a t h.on_grid) h.row<)) in
        column_has_no_gap shape high from-top to-bottom
        (row_has_no_gap shape wide from-left to-right ((point_is_touched shape).0 w.left_top) ((point_is_touched shape).0 w.right_top))
        (row_has_no_gap shape wide from-left to-right ((point_is_touched shape).0 w.left_bottom) ((point_is_touched shape).0 w.right_bottom))

    -- what the test says of the rectangle, of the square
    pub square_says : (r : answer.Cover) → CoverSays r shape (square_rectangle d q) → SquareSays r d shape q
    square_says answer.TheVariants.Apart n = λ s. n (square_touched.1 s)
    square_says answer.TheVariants.Partly h = square_touched.0 h.0
    square_says answer.TheVariants.Wholly w = covered_touched w

  pub square_has_area : HasArea (square_rectangle d q)
  square_has_area = record {
    wide = ≤ℤ-<ℤ_trans (near_rises d.width d.s (last≥ q.exponent g.column)) (near<far d.width d.s (last< q.exponent g.column));
    high = ≤ℤ-<ℤ_trans (near_rises d.height d.s (last≥ q.exponent g.row)) (near<far d.height d.s (last< q.exponent g.row));
  }

-- ---- off the grid, and where nothing is left to split

module _ (d : Screen) (a : Allowed d) (shape : Shape) (q : Square) where
  pub right_of_the_grid : columns d ≤ q.column → SomeTouchedIn d shape q → ⊥
  right_of_the_grid l s = let w = s.touched.0 in let c = column< d a s.tile in omega arith

  pub below_the_grid : rows d ≤ q.row → SomeTouchedIn d shape q → ⊥
  below_the_grid l s = let w = s.touched.0 in let r = row< d a s.tile w.on_grid in omega arith

  -- a square of one tile has no other
  single : q.exponent ≡ 0 → {t : ℕ} → InSquare d q t → t ≡ tile_at d q.column q.row
  single e {t} h =
      let w : 2 ^ q.exponent ≡ 1 = ap (λ (n : ℕ). 2 ^ n) e in
      let c : column_of d t ≡ q.column = omega arith in
      let r : row_of d t ≡ q.row = omega arith in
      sym (column_row d a t) ∙ (λ i. tile_at d (c i) (r i))

  pub none_touched : (r : answer.Cover) → is_touched r ≡ false → SquareSays r d shape q → (t : ℕ) → TouchedIn d shape q t → ⊥
  none_touched answer.TheVariants.Apart e n t h = n (record { tile = t; touched = h })
  none_touched answer.TheVariants.Partly e s t h = absurd (true≢false e)
  none_touched answer.TheVariants.Wholly e s t h = absurd (true≢false e)

  pub all_touched : (r : answer.Cover) → is_touched r ≡ true → (is_whole r || eqb q.exponent 0) ≡ true → SquareSays r d shape q
      → (t : ℕ) → InSquare d q t → Touches shape (rectangle d t)
  all_touched answer.TheVariants.Apart e w s t h = absurd (true≢false (sym e))
  all_touched answer.TheVariants.Partly e w s t h =
      let z = eqb-true q.exponent 0 w in
      subst (λ (k : ℕ). Touches shape (rectangle d k)) (single z s.touched.0 ∙ sym (single z h)) s.touched.1
  all_touched answer.TheVariants.Wholly e w s t h = s t h

  pub to_split : (r : answer.Cover) → (is_whole r || eqb q.exponent 0) ≡ false → 0 < q.exponent
  to_split answer.TheVariants.Apart e = let n = eqb-false q.exponent 0 e in omega arith
  to_split answer.TheVariants.Partly e = let n = eqb-false q.exponent 0 e in omega arith
  to_split answer.TheVariants.Wholly e = absurd (true≢false e)
