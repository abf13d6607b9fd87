-- Which rectangles a shape on the screen touches: those that hold a vertex of it, those that hold one that it touches, and, of a row of rectangles side by
-- side, one if it touches them all as one. So the start tile is touched, and below a run of touched tiles there is a touched tile if the shape reaches the
-- next row.
use Prim.Native.Nat.{ℕ, ◌+◌, ◌*◌, ◌-◌, ◌≤◌, ◌<◌}
use mathlib.Core.Path.{◌≡◌, refl, sym, subst}
use mathlib.Core.Bool.{Bool, true, false, not, cond}
use mathlib.Core.List.{[], ◌∷◌}
use native.Mathlib.Omega.{arith}
use lib.Dec.{T}
use lib.IntN.{ℤ, pos, neg_ℤ, ◌*ℤ◌, ◌+ℤ◌}
use lib.Signed.{◌≤ℤ◌, lt_z, le_z, lt_z_no}
use Rattle.numbers.specs.Diff.{Diff, up}
use Rattle.numbers.proofs.Diff.{diff_same, diff_pos, diff_any, diff_add, diff_le, le_diff, ≤ℤ_trans, <ℤ-≤ℤ}
use Rattle.screen.specs.declared.Rectangle.{Rectangle}
use Rattle.screen.specs.declared.Screen.{Screen}
use Rattle.screen.specs.declared.Span.{Span}
use Rattle.screen.specs.Screen.{Allowed, columns, rows}
use Rattle.screen.specs.Rectangle.{near, far, rectangle_at, In}
use Rattle.screen.proofs.Along.{between_tiles}
use Rattle.screen.proofs.Laws.{near_rises, far_rises, far-near, near-far, columns≥}
use Rattle.screen.proofs.Held.{down<, up<, down_near, down_far, up-near, up-far}
use Rattle.shape.specs.declared.Vertex.{Vertex}
use Rattle.shape.specs.declared.Shape.{Shape}
use Rattle.shape.specs.declared.Shape.TheVariants.{Point, Line, Triangle}
use Rattle.shape.specs.Shape.{InUnits, Placed, InRange}
use Rattle.touch.specs.declared.Three.{Three}
use Rattle.touch.specs.Touches.{total, Touches}
use Rattle.touch.specs.Corner.{three, triangle, lesser, greater, bounds}
use Rattle.touch.proofs.Gaps.{column_has_no_gap}
use Rattle.touch.proofs.Glass.{wider}
use Rattle.touch.proofs.Points.{≤ℤ_refl}
use Rattle.touch.proofs.Weights.{term, touches_as_triangle, start_does_not_matter}
use Rattle.stepping.specs.Stepping.{OnGlass, OnScreen, upper, topmost, start_column, start_row, Hit}
use Rattle.stepping.specs.Row.{HitIn}

abbrev from_to : (left right top bottom : ℤ) → Rectangle
from_to l r t b = record { left = l; right = r; top = t; bottom = b }

-- ---- a rectangle that holds a vertex

record Holds (q : Rectangle) (v : Vertex) : Type 0 where
  left : q.left ≤ℤ v.x
  right : v.x ≤ℤ q.right
  top : q.top ≤ℤ v.y
  bottom : v.y ≤ℤ q.bottom

only : (x y z : ℤ) → Diff (pos 1 *ℤ x +ℤ (pos 0 *ℤ y +ℤ (pos 0 *ℤ z +ℤ pos 0))) (up x) (up (neg_ℤ x))
only x y z = diff_same (diff_add (term 1 x) (diff_add (term 0 y) (diff_add (term 0 z) (diff_pos 0)))) (omega arith)

first_vertex : (a b c : Vertex) {q : Rectangle} → Holds q a → Touches (Triangle a b c) q
first_vertex a b c {q} h =
    record {
      weights = 1 ∷ 0 ∷ 0 ∷ [];
      mean =
          record {
            one_each = refl;
            some = omega arith;
            left = diff_le (term 1 q.left) (only a.x b.x c.x) (let k = le_diff (diff_any _) (diff_any _) h.left in omega arith);
            right = diff_le (only a.x b.x c.x) (term 1 q.right) (let k = le_diff (diff_any _) (diff_any _) h.right in omega arith);
            top = diff_le (term 1 q.top) (only a.y b.y c.y) (let k = le_diff (diff_any _) (diff_any _) h.top in omega arith);
            bottom = diff_le (only a.y b.y c.y) (term 1 q.bottom) (let k = le_diff (diff_any _) (diff_any _) h.bottom in omega arith);
          };
    }

-- what holds of each of the three vertices
record Each (P : Vertex → Type 0) (t : Three) : Type 0 where
  a : P t.a
  b : P t.b
  c : P t.c

vertex-touches : (shape : Shape) {q : Rectangle} → Each (λ v. Holds q v → Touches shape q) (three shape)
vertex-touches shape {q} =
    let t = three shape in
    let back : Touches (triangle t) q → Touches shape q = (touches_as_triangle shape).1 in
    record {
      a = λ h. back (first_vertex t.a t.b t.c h);
      b = λ h. back (start_does_not_matter (start_does_not_matter (first_vertex t.b t.c t.a h)));
      c = λ h. back (start_does_not_matter (first_vertex t.c t.a t.b h));
    }

three_on_glass : (d : Screen) (shape : Shape) → OnScreen d shape → Each (OnGlass d) (three shape)
three_on_glass d (Point a) h = record { a = h.0; b = h.0; c = h.0 }
three_on_glass d (Line a b) h = record { a = h.0; b = h.1.0; c = h.1.0 }
three_on_glass d (Triangle a b c) h = record { a = h.0; b = h.1.0; c = h.1.1.0 }

-- what lies on the glass is in range
module _ (d : Screen) (ok : Allowed d) where
  unit : (extent : ℕ) → extent ≤ 4096 → {z : ℤ} → pos 0 ≤ℤ z → z ≤ℤ pos (16 * extent) → InUnits z
  unit extent e l h =
      record {
        low = ≤ℤ_trans (record { le = tt }) l;
        high = ≤ℤ_trans h (diff_le (diff_pos (16 * extent)) (diff_pos 262143) (omega arith));
      }

  placed : {v : Vertex} → OnGlass d v → Placed v
  placed g = record { x = unit d.width ok.width≤ g.x.from g.x.to; y = unit d.height ok.height≤ g.y.from g.y.to }

  pub on_screen_in_range : (shape : Shape) → OnScreen d shape → InRange shape
  on_screen_in_range (Point a) h = (placed h.0, h.1)
  on_screen_in_range (Line a b) h = (placed h.0, (placed h.1.0, h.1.1))
  on_screen_in_range (Triangle a b c) h = (placed h.0, (placed h.1.0, (placed h.1.1.0, h.1.1.1)))

pub triangle_on_screen : (d : Screen) (shape : Shape) → OnScreen d shape → OnScreen d (triangle (three shape))
triangle_on_screen d shape h = let g = three_on_glass d shape h in (g.a, (g.b, (g.c, tt)))

-- ---- the topmost vertex, and the box

picked : {A : Type 0} (P : A → Type 0) (t : Bool) {x y : A} → P x → P y → P (cond t x y)
picked P true p q = p
picked P false p q = q

upper_is : (P : Vertex → Type 0) {v w : Vertex} → P v → P w → P (upper v w)
unfolding upper
upper_is P {v} {w} p q = picked P (lt_z v.y w.y) p (picked P (lt_z w.y v.y) q (picked P (le_z v.x w.x) p q))

topmost_is : (P : Vertex → Type 0) {t : Three} → Each P t → P (topmost t)
topmost_is P e = upper_is P e.a (upper_is P e.b e.c)

not_above : (P : Vertex → Type 0) (v w : Vertex) (t u : Bool) → lt_z v.y w.y ≡ t → lt_z w.y v.y ≡ u → (v.y ≤ℤ w.y → P v) → (w.y ≤ℤ v.y → P w)
    → P (cond t v (cond u w (cond (le_z v.x w.x) v w)))
not_above P v w true u e f p q = p (<ℤ-≤ℤ (record { lt = subst T (sym e) tt }))
not_above P v w false true e f p q = q (<ℤ-≤ℤ (record { lt = subst T (sym f) tt }))
not_above P v w false false e f p q =
    picked P (le_z v.x w.x) (p (lt_z_no (subst (λ (b : Bool). T (not b)) (sym f) tt))) (q (lt_z_no (subst (λ (b : Bool). T (not b)) (sym e) tt)))

-- neither of the two is higher
upper_highest : (v w : Vertex) → ((upper v w).y ≤ℤ v.y) × ((upper v w).y ≤ℤ w.y)
unfolding upper
upper_highest v w =
    not_above (λ u. (u.y ≤ℤ v.y) × (u.y ≤ℤ w.y)) v w (lt_z v.y w.y) (lt_z w.y v.y) refl refl (λ h. (≤ℤ_refl v.y, h)) (λ h. (h, ≤ℤ_refl w.y))

pub topmost_highest : (t : Three) → (topmost t).y ≤ℤ (bounds t).top
unfolding bounds
topmost_highest t =
    let u = upper_highest t.a (upper t.b t.c) in
    let v = upper_highest t.b t.c in
    picked (λ z. (topmost t).y ≤ℤ z) (le_z t.a.y (lesser t.b.y t.c.y)) u.0
    (picked (λ z. (topmost t).y ≤ℤ z) (le_z t.b.y t.c.y) (≤ℤ_trans u.1 v.0) (≤ℤ_trans u.1 v.1))

at_bottom : (P : ℤ → Type 0) (t : Three) → Each (λ v. P v.y) t → P (bounds t).bottom
unfolding bounds
at_bottom P t e = picked P (le_z t.a.y (greater t.b.y t.c.y)) (picked P (le_z t.b.y t.c.y) e.c e.b) e.a

-- ---- the tiles of a screen

module _ (d : Screen) (ok : Allowed d) (shape : Shape) (on : OnScreen d shape) where
  abbrev w : ℕ
  w = d.width

  abbrev h : ℕ
  h = d.height

  abbrev s : ℕ
  s = d.s

  glass : Each (OnGlass d) (three shape)
  glass = three_on_glass d shape on

  pub topmost_on_glass : OnGlass d (topmost (three shape))
  topmost_on_glass = topmost_is (OnGlass d) glass

  pub topmost_in_range : (topmost (three shape)).y ≤ℤ pos 262143
  topmost_in_range = (placed d ok topmost_on_glass).y.high

  pub start_column< : start_column d shape < columns d
  start_column< = let g = topmost_on_glass in down< w s ok.width≥ g.x.from g.x.to

  pub start_row< : start_row d shape < rows d
  start_row< = let g = topmost_on_glass in up< h s ok.height≥ g.y.from g.y.to

  -- the start tile is touched
  pub start-touched : Hit d shape (start_row d shape) (start_column d shape)
  start-touched =
      let g = topmost_on_glass in
      topmost_is (λ v. Holds (rectangle_at d (start_column d shape) (start_row d shape)) v → Touches shape (rectangle_at d (start_column d shape) (start_row d shape)))
      (vertex-touches shape)
      (record {
        left = down_near w s ok.width≥ g.x.from g.x.to;
        right = down_far w s ok.width≥ g.x.from g.x.to;
        top = up-near h s ok.height≥ g.y.from g.y.to;
        bottom = up-far h s ok.height≥ g.y.from g.y.to;
      })

  -- the columns as one
  abbrev least : ℤ
  least = near w s 0

  abbrev most : ℤ
  most = far w s (columns d - 1)

  across_all : {column : ℕ} {top bottom : ℤ} → column < columns d → Touches shape (from_to (near w s column) (far w s column) top bottom)
      → Touches shape (from_to least most top bottom)
  across_all l = wider (record { left = near_rises w s (omega arith); right = far_rises w s (omega arith); top = ≤ℤ_refl _; bottom = ≤ℤ_refl _ })

  at_height : (v : Vertex) → OnGlass d v → Holds (from_to least most v.y v.y) v
  at_height v g =
      let l = down< w s ok.width≥ g.x.from g.x.to in
      record {
        left = ≤ℤ_trans (near_rises w s (omega arith)) (down_near w s ok.width≥ g.x.from g.x.to);
        right = ≤ℤ_trans (down_far w s ok.width≥ g.x.from g.x.to) (far_rises w s (omega arith));
        top = ≤ℤ_refl _;
        bottom = ≤ℤ_refl _;
      }

  bottom_touched : Touches shape (from_to least most (bounds (three shape)).bottom (bounds (three shape)).bottom)
  bottom_touched =
      let t = three shape in
      at_bottom (λ z. Touches shape (from_to least most z z)) t
      (record {
        a = (vertex-touches shape).a (at_height t.a glass.a);
        b = (vertex-touches shape).b (at_height t.b glass.b);
        c = (vertex-touches shape).c (at_height t.c glass.c);
      })

  record Column (top bottom : ℤ) : Type 0 where
    column : ℕ
    before : column < columns d
    touched : Touches shape (from_to (near w s column) (far w s column) top bottom)

  -- of the columns that are touched as one, one is touched
  one_of : {top bottom : ℤ} → Touches shape (from_to least most top bottom) → Column top bottom
  one_of t =
      let m = t.mean in
      let c = columns≥ d ok in
      let x = between_tiles w s (total t.weights) _ {first = 0} {last = columns d - 1} (omega arith) (omega arith) m.left m.right in
      let l = x.≤last in
      record {
        column = x.tile;
        before = omega arith;
        touched =
            record {
              weights = t.weights;
              mean = record { one_each = m.one_each; some = m.some; left = x.from; right = x.to; top = m.top; bottom = m.bottom };
            };
      }

  -- on the side between two rows a tile is touched, where the upper row is touched and the shape reaches the lower
  between : (row column : ℕ) → column < columns d → row + 1 < rows d → near h s (row + 1) ≤ℤ (bounds (three shape)).bottom → Hit d shape row column
      → Column (far h s row) (far h s row)
  between row column l r reaches t =
      one_of
      (column_has_no_gap shape (≤ℤ_refl (far h s row)) (≤ℤ_refl (far h s row))
      (subst (λ (z : ℤ). z ≤ℤ (bounds (three shape)).bottom) (sym (far-near h s row r)) reaches)
      (across_all l t) bottom_touched)

  -- below a run that has all touched columns of its row there is a touched tile, where the shape reaches the next row
  pub below_is_touched : (row : ℕ) (run : Span) → run.start < run.end → run.end ≤ columns d → Hit d shape row run.start
      → ((k : ℕ) → k < columns d → Hit d shape row k → In run k)
      → row + 1 < rows d → near h s (row + 1) ≤ℤ (bounds (three shape)).bottom → HitIn d shape (row + 1) run
  below_is_touched row run some within t all r reaches =
      let c = between row run.start (omega arith) r reaches t in
      let e = far-near h s row r in
      let row< : row < rows d = omega arith in
      record {
        column = c.column;
        inside =
            all c.column c.before
            (wider (record { left = ≤ℤ_refl _; right = ≤ℤ_refl _; top = near-far h s ok.height≤ ok.s≥ ok.s≤ row<; bottom = ≤ℤ_refl _ }) c.touched);
        hit =
            wider
            (record {
              left = ≤ℤ_refl _;
              right = ≤ℤ_refl _;
              top = subst (λ (z : ℤ). z ≤ℤ far h s row) e (≤ℤ_refl _);
              bottom = subst (λ (z : ℤ). z ≤ℤ far h s (row + 1)) (sym e) (near-far h s ok.height≤ ok.s≥ ok.s≤ r);
            })
            c.touched;
      }
