-- The test whether a point is one of a shape: by the bounding box, and by one edge value for each edge.
use Rattle.std.specs.Prelude.{ℤ, ◌-ℤ◌, ◌*ℤ◌}
use Rattle.touch.specs.declared.Bounds.{Bounds}
use Rattle.touch.specs.declared.Edge.{Edge}
use Rattle.touch.specs.Corner.{Overlap}
use Rattle.touch.specs.Cover.{one_point}
use Rattle.touch.specs.Inner.{Outer}

-- the box, its sides included, has the point (x, y)
abbrev pub InBox : Bounds → (x y : ℤ) → Type 0
InBox p x y = Overlap p (one_point x y)

-- the edge value at (x, y)
abbrev pub value_at : Edge → (x y : ℤ) → ℤ
value_at e x y = (x -ℤ e.x) *ℤ e.dy -ℤ (y -ℤ e.y) *ℤ e.dx

-- (x, y) lies strictly on a side of the edge on which the third vertex does not lie
abbrev pub BeyondEdge : Edge → (x y : ℤ) → Type 0
BeyondEdge e x y = Outer e.third (record { least = value_at e x y; greatest = value_at e x y })
