-- The two tests for touching: by the bounding box, which may say yes wrongly, and by the corners of the rectangle, which answers as `Touches` does.
use Rattle.std.specs.Prelude.{cond, ℤ, pos, ◌-ℤ◌, ◌*ℤ◌, ◌≤ℤ◌, ◌<ℤ◌}
use Rattle.std.specs.Int.Signed.{le_z}
use Rattle.screen.specs.declared.Rectangle.{Rectangle}
use Rattle.shape.specs.declared.Vertex.{Vertex}
use Rattle.shape.specs.declared.Shape.{Shape}
use Rattle.shape.specs.declared.Shape.TheVariants.{Point, Line, Triangle}
use Rattle.touch.specs.declared.Three.{Three}
use Rattle.touch.specs.declared.Bounds.{Bounds}

-- the vertices of a shape as those of a triangle: of a line the second stands for the third too, of a point the first for all
abbrev pub three : Shape → Three
three (Point a) = record { a = a; b = a; c = a }
three (Line a b) = record { a = a; b = b; c = b }
three (Triangle a b c) = record { a = a; b = b; c = c }

-- and back: the triangle of three vertices
abbrev pub triangle : Three → Shape
triangle t = Triangle t.a t.b t.c

abbrev pub lesser : ℤ → ℤ → ℤ
lesser x y = cond (le_z x y) x y

abbrev pub greater : ℤ → ℤ → ℤ
greater x y = cond (le_z x y) y x

-- the least and the greatest coordinates of three vertices
unfoldable pub bounds : Three → Bounds
bounds t =
    record {
      left = lesser t.a.x (lesser t.b.x t.c.x);
      right = greater t.a.x (greater t.b.x t.c.x);
      top = lesser t.a.y (lesser t.b.y t.c.y);
      bottom = greater t.a.y (greater t.b.y t.c.y);
    }

-- the box and the rectangle, both closed, have a point in common
pub record Overlap (p : Bounds) (q : Rectangle) : Type 0 where
  pub left : q.left ≤ℤ p.right
  pub right : p.left ≤ℤ q.right
  pub top : q.top ≤ℤ p.bottom
  pub bottom : p.top ≤ℤ q.bottom

-- the rectangle meets the shape's bounding box
abbrev pub Box : Shape → Rectangle → Type 0
Box shape q = Overlap (bounds (three shape)) q

-- the edge value at (x, y) of the edge from a to b; its sign says the side
abbrev pub edge_value : (a b : Vertex) → (x y : ℤ) → ℤ
edge_value a b x y = (x -ℤ a.x) *ℤ (b.y -ℤ a.y) -ℤ (y -ℤ a.y) *ℤ (b.x -ℤ a.x)

-- four edge values lie strictly on one side, and that of the third vertex does not. Where it is 0, there is no inner side
pub data Apart (third p q r s : ℤ) : Type 0 where
  above : third ≤ℤ pos 0 → pos 0 <ℤ p → pos 0 <ℤ q → pos 0 <ℤ r → pos 0 <ℤ s → Apart third p q r s
  below : pos 0 ≤ℤ third → p <ℤ pos 0 → q <ℤ pos 0 → r <ℤ pos 0 → s <ℤ pos 0 → Apart third p q r s

-- the edge between a and b has all four corners strictly on its outer side
abbrev pub Separates : (a b c : Vertex) → Rectangle → Type 0
Separates a b c q =
    Apart (edge_value a b c.x c.y)
    (edge_value a b q.left q.top)
    (edge_value a b q.right q.top)
    (edge_value a b q.left q.bottom)
    (edge_value a b q.right q.bottom)

-- the corner test: box, and no edge separates
pub record Corner (shape : Shape) (q : Rectangle) : Type 0 where
  pub box : Box shape q
  pub ab : Separates (three shape).a (three shape).b (three shape).c q → ⊥
  pub bc : Separates (three shape).b (three shape).c (three shape).a q → ⊥
  pub ca : Separates (three shape).c (three shape).a (three shape).b q → ⊥
