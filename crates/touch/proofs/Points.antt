-- A point of a shape is what touches as a rectangle of one point. What touches a rectangle touches one that holds it, so what covers wholly touches.
use mathlib.Core.Path.{◌≡◌, sym, subst}
use mathlib.Core.Logic.{◌↔◌}
use native.Mathlib.Omega.{arith}
use lib.IntN.{ℤ}
use lib.Signed.{◌≤ℤ◌}
use Rattle.numbers.proofs.Diff.{diff_any, diff_le, le_diff, diff_eq, ≤ℤ_trans, times_rises}
use Rattle.screen.specs.declared.Rectangle.{Rectangle}
use Rattle.screen.specs.Rectangle.{Proper}
use Rattle.shape.specs.declared.Shape.{Shape}
use Rattle.touch.specs.Touches.{Touches}
use Rattle.touch.specs.Cover.{one_point, HasPoint, Wholly}

-- ---- orders of integers

pub ≤ℤ_refl : (x : ℤ) → x ≤ℤ x
≤ℤ_refl x = diff_le (diff_any x) (diff_any x) (omega arith)

pub ≤ℤ_of : {x y : ℤ} → x ≡ y → x ≤ℤ y
≤ℤ_of {x} e = subst (λ (z : ℤ). x ≤ℤ z) e (≤ℤ_refl x)

≤ℤ_antisym : {x y : ℤ} → x ≤ℤ y → y ≤ℤ x → x ≡ y
≤ℤ_antisym {x} {y} h k =
    let p = le_diff (diff_any x) (diff_any y) h in
    let q = le_diff (diff_any y) (diff_any x) k in
    diff_eq (diff_any x) (diff_any y) (omega arith)

-- ---- points

pub point_is_touched : (shape : Shape) {x y : ℤ} → HasPoint shape x y ↔ Touches shape (one_point x y)
point_is_touched shape = (
  λ h. record {
    weights = h.weights;
    mean =
        record {
          one_each = h.mean.one_each;
          some = h.mean.some;
          left = ≤ℤ_of (sym h.mean.across);
          right = ≤ℤ_of h.mean.across;
          top = ≤ℤ_of (sym h.mean.down);
          bottom = ≤ℤ_of h.mean.down;
        };
  },
  λ t. record {
    weights = t.weights;
    mean =
        record {
          one_each = t.mean.one_each;
          some = t.mean.some;
          across = ≤ℤ_antisym t.mean.right t.mean.left;
          down = ≤ℤ_antisym t.mean.bottom t.mean.top;
        };
  },
)

-- what has all points of a shape covers all that it covers
pub wholly_by_points : {first second : Shape} {q : Rectangle} → ((x y : ℤ) → HasPoint first x y → HasPoint second x y) → Wholly first q → Wholly second q
wholly_by_points h w =
    record {
      left_top = h _ _ w.left_top;
      right_top = h _ _ w.right_top;
      left_bottom = h _ _ w.left_bottom;
      right_bottom = h _ _ w.right_bottom;
    }

-- ---- rectangles

pub touches_wider : {shape : Shape} {p q : Rectangle} → q.left ≤ℤ p.left → p.right ≤ℤ q.right → q.top ≤ℤ p.top → p.bottom ≤ℤ q.bottom
    → Touches shape p → Touches shape q
touches_wider l r t b h =
    record {
      weights = h.weights;
      mean =
          record {
            one_each = h.mean.one_each;
            some = h.mean.some;
            left = ≤ℤ_trans (times_rises _ l) h.mean.left;
            right = ≤ℤ_trans h.mean.right (times_rises _ r);
            top = ≤ℤ_trans (times_rises _ t) h.mean.top;
            bottom = ≤ℤ_trans h.mean.bottom (times_rises _ b);
          };
    }

pub wholly_touches : {shape : Shape} {q : Rectangle} → Proper q → Wholly shape q → Touches shape q
wholly_touches {shape} {q} ok w =
    touches_wider (≤ℤ_refl q.left) ok.wide (≤ℤ_refl q.top) ok.high ((point_is_touched shape).0 w.left_top)
