-- In a row, what lies between two intervals that are enclosed is enclosed: along a row an edge value rises throughout or falls throughout. Along a column it
-- does too, so that an edge which has a rectangle on its inner side has each rectangle within it there.
use native.Mathlib.Omega.{arith}
use native.Mathlib.Nat.{mul-le-mul_left}
use Prim.Native.Nat.{ℕ, suc}
use lib.IntN.{ℤ, pos, negsuc, ◌-ℤ◌, ◌*ℤ◌}
use lib.Signed.{◌≤ℤ◌, ◌<ℤ◌}
use Rattle.numbers.proofs.Diff.{diff_pos, diff_any, diff_mul, diff_sub, diff_le, le_diff, lt_diff, ≤ℤ_trans}
use Rattle.screen.specs.declared.Rectangle.{Rectangle}
use Rattle.screen.specs.Rectangle.{Inside}
use Rattle.touch.specs.declared.Edge.{Edge}
use Rattle.touch.specs.declared.RowEdge.{RowEdge}
use Rattle.touch.specs.declared.RowEdges.{RowEdges}
use Rattle.touch.specs.Corner.Apart.{above, below}
use Rattle.touch.specs.Look.{OnSideOf, ApartOf}
use Rattle.touch.specs.Inner.{OnSide, AllOnSide, corners_at, EnclosedAt}
use Rattle.touch.proofs.Extremes.{over_side, under_side}

-- ---- the value at u columns, in a row that gives r

value_rises : (n : ℕ) (r : ℤ) {u v : ℤ} → u ≤ℤ v → (u *ℤ pos n -ℤ r) ≤ℤ (v *ℤ pos n -ℤ r)
value_rises n r {u} {v} h =
    let d = diff_pos n in
    diff_le (diff_sub (diff_mul (diff_any u) d) (diff_any r)) (diff_sub (diff_mul (diff_any v) d) (diff_any r))
    (omega (arith, mul-le-mul_left n (le_diff (diff_any u) (diff_any v) h)))

value_falls : (n : ℕ) (r : ℤ) {u v : ℤ} → u ≤ℤ v → (v *ℤ negsuc n -ℤ r) ≤ℤ (u *ℤ negsuc n -ℤ r)
value_falls n r {u} {v} h =
    let d = diff_any (negsuc n) in
    diff_le (diff_sub (diff_mul (diff_any v) d) (diff_any r)) (diff_sub (diff_mul (diff_any u) d) (diff_any r))
    (omega (arith, mul-le-mul_left (suc n) (le_diff (diff_any u) (diff_any v) h)))

module _ {third : ℤ} (r : ℤ) {u v w : ℤ} (h : u ≤ℤ v) (k : v ≤ℤ w) where
  side_between : (dy : ℤ) → OnSide third (u *ℤ dy -ℤ r) → OnSide third (w *ℤ dy -ℤ r) → OnSide third (v *ℤ dy -ℤ r)
  side_between (pos n) (OnSide.over t p) q = OnSide.over t (≤ℤ_trans p (value_rises n r h))
  side_between (pos n) (OnSide.under t p) q = OnSide.under t (≤ℤ_trans (value_rises n r k) (under_side t q))
  side_between (negsuc n) (OnSide.over t p) q = OnSide.over t (≤ℤ_trans (over_side t q) (value_falls n r k))
  side_between (negsuc n) (OnSide.under t p) q = OnSide.under t (≤ℤ_trans (value_falls n r h) p)

-- ---- the edges in a row

less_x : (x : ℤ) {a b : ℤ} → a ≤ℤ b → (a -ℤ x) ≤ℤ (b -ℤ x)
less_x x {a} {b} h =
    let p = le_diff (diff_any a) (diff_any b) h in
    diff_le (diff_sub (diff_any a) (diff_any x)) (diff_sub (diff_any b) (diff_any x)) (omega arith)

module _ {l₁ l₂ l₃ r₁ r₂ r₃ : ℤ} (la : l₁ ≤ℤ l₂) (lb : l₂ ≤ℤ l₃) (ra : r₁ ≤ℤ r₂) (rb : r₂ ≤ℤ r₃) where
  edge_between : (e : RowEdge) → AllOnSide e.third (corners_at e l₁ r₁) → AllOnSide e.third (corners_at e l₃ r₃) → AllOnSide e.third (corners_at e l₂ r₂)
  edge_between e h k =
      record {
        p = side_between e.upper (less_x e.x la) (less_x e.x lb) e.dy h.p k.p;
        q = side_between e.upper (less_x e.x ra) (less_x e.x rb) e.dy h.q k.q;
        r = side_between e.lower (less_x e.x la) (less_x e.x lb) e.dy h.r k.r;
        s = side_between e.lower (less_x e.x ra) (less_x e.x rb) e.dy h.s k.s;
      }

  pub enclosed_between : {e : RowEdges} → EnclosedAt e l₁ r₁ → EnclosedAt e l₃ r₃ → EnclosedAt e l₂ r₂
  enclosed_between {e} h k =
      record {
        ab = edge_between e.ab h.ab k.ab;
        bc = edge_between e.bc h.bc k.bc;
        ca = edge_between e.ca h.ca k.ca;
      }

-- ---- an edge that has a rectangle on its inner side

on_side_not_above : {third v : ℤ} → third ≤ℤ pos 0 → pos 0 <ℤ v → OnSide third v → ⊥
on_side_not_above {third} {v} t h (OnSide.over z p) =
    let a = le_diff (diff_any third) (diff_pos 0) t in let b = lt_diff (diff_pos 0) (diff_any third) z in omega arith
on_side_not_above {third} {v} t h (OnSide.under z p) =
    let a = lt_diff (diff_pos 0) (diff_any v) h in let b = le_diff (diff_any v) (diff_pos 0) p in omega arith

on_side_not_below : {third v : ℤ} → pos 0 ≤ℤ third → v <ℤ pos 0 → OnSide third v → ⊥
on_side_not_below {third} {v} t h (OnSide.over z p) =
    let a = lt_diff (diff_any v) (diff_pos 0) h in let b = le_diff (diff_pos 0) (diff_any v) p in omega arith
on_side_not_below {third} {v} t h (OnSide.under z p) =
    let a = le_diff (diff_pos 0) (diff_any third) t in let b = lt_diff (diff_any third) (diff_pos 0) z in omega arith

-- does not separate it
pub on_side_not_apart : (e : Edge) (q : Rectangle) → OnSideOf e q → ApartOf e q → ⊥
on_side_not_apart e q h (above t a b c d) = on_side_not_above t a h.p
on_side_not_apart e q h (below t a b c d) = on_side_not_below t a h.p

-- along a column an edge value falls throughout or rises throughout too
row_falls : (n : ℕ) (c : ℤ) {u v : ℤ} → u ≤ℤ v → (c -ℤ v *ℤ pos n) ≤ℤ (c -ℤ u *ℤ pos n)
row_falls n c {u} {v} h =
    let d = diff_pos n in
    diff_le (diff_sub (diff_any c) (diff_mul (diff_any v) d)) (diff_sub (diff_any c) (diff_mul (diff_any u) d))
    (omega (arith, mul-le-mul_left n (le_diff (diff_any u) (diff_any v) h)))

row_rises : (n : ℕ) (c : ℤ) {u v : ℤ} → u ≤ℤ v → (c -ℤ u *ℤ negsuc n) ≤ℤ (c -ℤ v *ℤ negsuc n)
row_rises n c {u} {v} h =
    let d = diff_any (negsuc n) in
    diff_le (diff_sub (diff_any c) (diff_mul (diff_any u) d)) (diff_sub (diff_any c) (diff_mul (diff_any v) d))
    (omega (arith, mul-le-mul_left (suc n) (le_diff (diff_any u) (diff_any v) h)))

module _ {third : ℤ} (c : ℤ) {u v w : ℤ} (h : u ≤ℤ v) (k : v ≤ℤ w) where
  row_between : (dx : ℤ) → OnSide third (c -ℤ u *ℤ dx) → OnSide third (c -ℤ w *ℤ dx) → OnSide third (c -ℤ v *ℤ dx)
  row_between (pos n) (OnSide.over t p) q = OnSide.over t (≤ℤ_trans (over_side t q) (row_falls n c k))
  row_between (pos n) (OnSide.under t p) q = OnSide.under t (≤ℤ_trans (row_falls n c h) p)
  row_between (negsuc n) (OnSide.over t p) q = OnSide.over t (≤ℤ_trans p (row_rises n c h))
  row_between (negsuc n) (OnSide.under t p) q = OnSide.under t (≤ℤ_trans (row_rises n c k) (under_side t q))

-- and has any rectangle within it there
module _ (e : Edge) {p q : Rectangle} (i : Inside p q) (wide : p.left ≤ℤ p.right) (high : p.top ≤ℤ p.bottom) (h : OnSideOf e q) where
  point_on_side : {x y : ℤ} → q.left ≤ℤ x → x ≤ℤ q.right → q.top ≤ℤ y → y ≤ℤ q.bottom
      → OnSide e.third ((x -ℤ e.x) *ℤ e.dy -ℤ (y -ℤ e.y) *ℤ e.dx)
  point_on_side {x} {y} l r t b =
      row_between ((x -ℤ e.x) *ℤ e.dy) (less_x e.y t) (less_x e.y b) e.dx
      (side_between ((q.top -ℤ e.y) *ℤ e.dx) (less_x e.x l) (less_x e.x r) e.dy h.p h.q)
      (side_between ((q.bottom -ℤ e.y) *ℤ e.dx) (less_x e.x l) (less_x e.x r) e.dy h.r h.s)

  pub on_side_within : OnSideOf e p
  on_side_within =
      let l≤ = ≤ℤ_trans wide i.right in
      let r≥ = ≤ℤ_trans i.left wide in
      let t≤ = ≤ℤ_trans high i.bottom in
      let b≥ = ≤ℤ_trans i.top high in
      record {
        p = point_on_side i.left l≤ i.top t≤;
        q = point_on_side r≥ i.right i.top t≤;
        r = point_on_side i.left l≤ b≥ i.bottom;
        s = point_on_side r≥ i.right b≥ i.bottom;
      }
