-- The closed rectangle of a tile, in sixteenths of a pixel, x to the right and y down. It ends where the screen ends.
use Rattle.std.specs.Prelude.{ℕ, ◌+◌, ◌*◌, ◌^◌, ◌<◌, ◌≤◌, min, ℤ, pos, ◌≤ℤ◌, ◌<ℤ◌}
use Rattle.screen.specs.declared.Screen.{Screen}
use Rattle.screen.specs.declared.Rectangle.{Rectangle}
use Rattle.screen.specs.declared.Span.{Span}
use Rattle.screen.specs.Screen.{across, column_of, row_of}

-- T, the side of a tile
abbrev pub side : ℕ → ℕ
side s = 16 * 2 ^ s

-- along either axis, of a screen of that extent: where tile k begins
unfoldable pub near : (extent s k : ℕ) → ℤ
near extent s k = pos (k * side s)

-- and where it ends: after a side, or with the screen
unfoldable pub far : (extent s k : ℕ) → ℤ
far extent s k = pos (min ((k + 1) * side s) (16 * extent))

abbrev pub rectangle_at : Screen → (column row : ℕ) → Rectangle
rectangle_at d column row =
    record {
      left = near d.width d.s column;
      right = far d.width d.s column;
      top = near d.height d.s row;
      bottom = far d.height d.s row;
    }

-- the rectangle of a tile
abbrev pub rectangle : Screen → ℕ → Rectangle
rectangle d t = rectangle_at d (column_of d t) (row_of d t)

-- the glass: the whole screen
abbrev pub glass : Screen → Rectangle
glass d =
    record {
      left = pos 0;
      right = pos (16 * d.width);
      top = pos 0;
      bottom = pos (16 * d.height);
    }

-- the first of two rectangles lies within the second
pub record Inside (p q : Rectangle) : Type 0 where
  pub left : q.left ≤ℤ p.left
  pub right : p.right ≤ℤ q.right
  pub top : q.top ≤ℤ p.top
  pub bottom : p.bottom ≤ℤ q.bottom

-- a rectangle whose sides are in order, none negative and none past 524,288: all that the geometry may assume of a tile's
pub record Proper (q : Rectangle) : Type 0 where
  pub left≥ : pos 0 ≤ℤ q.left
  pub wide : q.left ≤ℤ q.right
  pub right≤ : q.right ≤ℤ pos 524288
  pub top≥ : pos 0 ≤ℤ q.top
  pub high : q.top ≤ℤ q.bottom
  pub bottom≤ : q.bottom ≤ℤ pos 524288

-- a rectangle that is wider and higher than nothing, as a tile's is
pub record HasArea (q : Rectangle) : Type 0 where
  pub wide : q.left <ℤ q.right
  pub high : q.top <ℤ q.bottom

-- along an axis, tile k and the closed interval from low to high have a point in common
pub record Meets (extent s : ℕ) (low high : ℤ) (k : ℕ) : Type 0 where
  pub from : near extent s k ≤ℤ high
  pub to : low ≤ℤ far extent s k

pub record In (span : Span) (k : ℕ) : Type 0 where
  pub from : span.start ≤ k
  pub before : k < span.end

-- the span has exactly the tiles along the axis that meet the interval
pub record Meeting (extent s : ℕ) (low high : ℤ) (span : Span) : Type 0 where
  pub within : span.end ≤ across extent s
  pub sound : (k : ℕ) → In span k → Meets extent s low high k
  pub whole : (k : ℕ) → k < across extent s → Meets extent s low high k → In span k
