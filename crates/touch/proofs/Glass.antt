-- What is made of the tiles from one column to another and from one row to another has the points of those tiles and no other, since along an axis tiles have
-- no gap. So it is touched exactly if one of them is: the weights that show it touched show that tile touched. The whole glass is made so.
use mathlib.Core.Path.{◌≡◌, sym, subst}
use mathlib.Core.Logic.{◌↔◌}
use Prim.Native.Nat.{ℕ, ◌-◌, ◌≤◌, ◌<◌}
use mathlib.Core.List.{List}
use native.Mathlib.Omega.{arith}
use lib.IntN.{ℤ}
use Rattle.numbers.proofs.Diff.{≤ℤ_trans, times_rises}
use Rattle.screen.specs.declared.Rectangle.{Rectangle}
use Rattle.screen.specs.declared.Screen.{Screen}
use Rattle.screen.specs.Screen.{Allowed, columns, rows, tiles, tile_at}
use Rattle.screen.specs.Rectangle.{near, far, rectangle_at, rectangle, glass, Inside}
use Rattle.screen.proofs.Laws.{near_rises, far_rises, near_first, far_last, rectangle_on_the_glass, columns≥, rows≥, column<, row<, column_is, row_is, tile<}
use Rattle.screen.proofs.Along.{LiesIn, between_tiles}
use Rattle.shape.specs.declared.Shape.{Shape}
use Rattle.shape.specs.Shape.{vertices}
use Rattle.touch.specs.Touches.{total, weighted, Touches, PointIn}

-- ---- the mean of a shape's vertices in a rectangle

-- with these weights
module _ (shape : Shape) where
  abbrev Mean : List ℕ → Rectangle → Type 0
  Mean ws p = PointIn p (total ws) (weighted (λ v. v.x) ws (vertices shape)) (weighted (λ v. v.y) ws (vertices shape))

  mean_in : {p : Rectangle} (h : Touches shape p) → Mean h.weights p
  mean_in h = record { left = h.mean.left; right = h.mean.right; top = h.mean.top; bottom = h.mean.bottom }

  touches_with : {p q : Rectangle} (h : Touches shape p) → Mean h.weights q → Touches shape q
  touches_with h k =
      record {
        weights = h.weights;
        mean = record { one_each = h.mean.one_each; some = h.mean.some; left = k.left; right = k.right; top = k.top; bottom = k.bottom };
      }

-- what touches a rectangle touches a wider one
pub wider : {shape : Shape} {p q : Rectangle} → Inside p q → Touches shape p → Touches shape q
wider {shape} w h =
    let m = h.mean in
    touches_with shape h
    (record {
      left = ≤ℤ_trans (times_rises _ w.left) m.left;
      right = ≤ℤ_trans m.right (times_rises _ w.right);
      top = ≤ℤ_trans (times_rises _ w.top) m.top;
      bottom = ≤ℤ_trans m.bottom (times_rises _ w.bottom);
    })

-- ---- tiles side by side

-- what the tiles from column c to c' and from row r to r' make together
abbrev pub together : Screen → (c c' r r' : ℕ) → Rectangle
together d c c' r r' =
    record {
      left = near d.width d.s c;
      right = far d.width d.s c';
      top = near d.height d.s r;
      bottom = far d.height d.s r';
    }

-- P holds of one of those tiles
pub record SomeTile (d : Screen) (P : Rectangle → Type 0) (c c' r r' : ℕ) : Type 0 where
  pub column : ℕ
  pub row : ℕ
  pub column≥ : c ≤ column
  pub column≤ : column ≤ c'
  pub row≥ : r ≤ row
  pub row≤ : row ≤ r'
  pub has : P (rectangle_at d column row)

module _ (d : Screen) {c c' r r' : ℕ} (c≤ : c ≤ c') (c< : c' < columns d) (r≤ : r ≤ r') (r< : r' < rows d) where
  module _ (n : ℕ) (x y : ℤ) where
    tile_of_together : PointIn (together d c c' r r') n x y → SomeTile d (λ q. PointIn q n x y) c c' r r'
    tile_of_together h =
        let u : LiesIn d.width d.s n x c c' = between_tiles d.width d.s n x c≤ c< h.left h.right in
        let v : LiesIn d.height d.s n y r r' = between_tiles d.height d.s n y r≤ r< h.top h.bottom in
        record {
          column = u.tile;
          row = v.tile;
          column≥ = u.first≤;
          column≤ = u.≤last;
          row≥ = v.first≤;
          row≤ = v.≤last;
          has = record { left = u.from; right = u.to; top = v.from; bottom = v.to };
        }

    together_of_tile : SomeTile d (λ q. PointIn q n x y) c c' r r' → PointIn (together d c c' r r') n x y
    together_of_tile s =
        let h = s.has in
        record {
          left = ≤ℤ_trans (times_rises n (near_rises d.width d.s s.column≥)) h.left;
          right = ≤ℤ_trans h.right (times_rises n (far_rises d.width d.s s.column≤));
          top = ≤ℤ_trans (times_rises n (near_rises d.height d.s s.row≥)) h.top;
          bottom = ≤ℤ_trans h.bottom (times_rises n (far_rises d.height d.s s.row≤));
        }

    -- a point lies in what they make exactly if it lies in one of them
    pub together_is_its_tiles : PointIn (together d c c' r r') n x y ↔ SomeTile d (λ q. PointIn q n x y) c c' r r'
    together_is_its_tiles = (tile_of_together, together_of_tile)

  -- and what they make is touched exactly if one of them is
  pub together-touched : (shape : Shape) → Touches shape (together d c c' r r') ↔ SomeTile d (Touches shape) c c' r r'
  together-touched shape = (
    λ h. let s = tile_of_together _ _ _ (mean_in shape h) in
        record {
          column = s.column;
          row = s.row;
          column≥ = s.column≥;
          column≤ = s.column≤;
          row≥ = s.row≥;
          row≤ = s.row≤;
          has = touches_with shape h s.has;
        },
    λ s. let h = s.has in touches_with shape h
        (together_of_tile _ _ _
        (record {
          column = s.column;
          row = s.row;
          column≥ = s.column≥;
          column≤ = s.column≤;
          row≥ = s.row≥;
          row≤ = s.row≤;
          has = mean_in shape h;
        })),
  )

-- ---- the glass

module _ (d : Screen) (a : Allowed d) where
  all_tiles : together d 0 (columns d - 1) 0 (rows d - 1) ≡ glass d
  all_tiles =
      let c = columns≥ d a in
      let r = rows≥ d a in
      λ i. record {
        left = near_first d.width d.s i;
        right = far_last d.width d.s (columns d - 1) (omega arith) i;
        top = near_first d.height d.s i;
        bottom = far_last d.height d.s (rows d - 1) (omega arith) i;
      }

  -- a shape touches a tile exactly if it has a point on the glass
  pub on_the_glass : (shape : Shape) → Touches shape (glass d) ↔ ((t : ℕ) × (t < tiles d) × Touches shape (rectangle d t))
  on_the_glass shape = (
    (λ h. tile_of_lem
        ((together-touched d (omega arith) (omega (arith, columns≥ d a)) (omega arith) (omega (arith, rows≥ d a)) shape).0 (subst (Touches shape) (sym all_tiles) h))),
    (λ h. wider (rectangle_on_the_glass d a (column< d a h.0) (row< d a h.0 h.1)) h.2),
  )
    where
      tile_of_lem : SomeTile d (Touches shape) 0 (columns d - 1) 0 (rows d - 1) → (t : ℕ) × (t < tiles d) × Touches shape (rectangle d t)
      tile_of_lem s =
          let c≥ = columns≥ d a in
          let r≥ = rows≥ d a in
          let c≤ = s.column≤ in
          let r≤ = s.row≤ in
          let c : s.column < columns d = omega arith in
          let r : s.row < rows d = omega arith in (
            tile_at d s.column s.row,
            tile< d a c r,
            subst (Touches shape) (λ i. rectangle_at d (sym (column_is d a s.column s.row c) i) (sym (row_is d a s.column s.row c) i)) s.has,
          )
