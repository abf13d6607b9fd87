-- A vertex and a shape in units, by cases on the answers for the coordinates in order: the first refusal decides.
use Rattle.std.specs.Prelude.{ℕ, ℤ, List, [], ◌∷◌, Float, Result, Ok, Err}
use Rattle.numbers.specs.declared.Refusal.{Refusal}
use Rattle.numbers.specs.Refusal.{number_of}
use Rattle.shape.specs.declared.Shape.{Shape}
use Rattle.shape.specs.declared.Vertex.{Vertex}
use Rattle.snap.specs.Unit.{unit_of}
use Rattle.snap.specs.declared.PixelVertex.{PixelVertex}
use Rattle.snap.specs.declared.PixelShape.{PixelShape}

-- ---- a vertex: x before y

abbrev pub vertex_by : Result ℤ Refusal → Result ℤ Refusal → Result Vertex Refusal
vertex_by (Err r) y = Err r
vertex_by (Ok a) (Err r) = Err r
vertex_by (Ok a) (Ok b) = Ok (record { x = a; y = b })

abbrev pub vertex_of : PixelVertex → Result Vertex Refusal
vertex_of v = vertex_by (unit_of v.x) (unit_of v.y)

-- ---- a shape: vertices in order

abbrev pub point_by : Result Vertex Refusal → Result Shape Refusal
point_by (Err r) = Err r
point_by (Ok a) = Ok (Shape.Point a)

abbrev pub line_by : Result Vertex Refusal → Result Vertex Refusal → Result Shape Refusal
line_by (Err r) b = Err r
line_by (Ok a) (Err r) = Err r
line_by (Ok a) (Ok b) = Ok (Shape.Line a b)

abbrev pub triangle_by : Result Vertex Refusal → Result Vertex Refusal → Result Vertex Refusal → Result Shape Refusal
triangle_by (Err r) b c = Err r
triangle_by (Ok a) (Err r) c = Err r
triangle_by (Ok a) (Ok b) (Err r) = Err r
triangle_by (Ok a) (Ok b) (Ok c) = Ok (Shape.Triangle a b c)

abbrev pub point_of : PixelVertex → Result Shape Refusal
point_of a = point_by (vertex_of a)

abbrev pub line_of : PixelVertex → PixelVertex → Result Shape Refusal
line_of a b = line_by (vertex_of a) (vertex_of b)

abbrev pub triangle_of : PixelVertex → PixelVertex → PixelVertex → Result Shape Refusal
triangle_of a b c = triangle_by (vertex_of a) (vertex_of b) (vertex_of c)

abbrev pub shape_of : PixelShape → Result Shape Refusal
shape_of (PixelShape.Point a) = point_of a
shape_of (PixelShape.Line a b) = line_of a b
shape_of (PixelShape.Triangle a b c) = triangle_of a b c

-- ---- the number of the first refusal, by the coordinates as one list

abbrev pub coordinates : PixelShape → List Float
coordinates (PixelShape.Point a) = a.x ∷ a.y ∷ []
coordinates (PixelShape.Line a b) = a.x ∷ a.y ∷ b.x ∷ b.y ∷ []
coordinates (PixelShape.Triangle a b c) = a.x ∷ a.y ∷ b.x ∷ b.y ∷ c.x ∷ c.y ∷ []

-- the number of x where it is a refusal, and else n
abbrev pub refused_or : ℕ → Result ℤ Refusal → ℕ
refused_or n (Err r) = number_of r
refused_or n (Ok z) = n

-- the number of the first refusal, and 0 where there is none
abbrev pub first_refusal : List Float → ℕ
first_refusal [] = 0
first_refusal (v ∷ vs) = refused_or (first_refusal vs) (unit_of v)
