-- The vertices of a shape, and the range of their units.
use Rattle.std.specs.Prelude.{Bool, true, ◌&&◌, List, [], ◌∷◌, ℤ, pos, negsuc, ◌≤ℤ◌}
use Rattle.std.specs.Int.Signed.{le_z}
use Rattle.shape.specs.declared.Vertex.{Vertex}
use Rattle.shape.specs.declared.Shape.{Shape}
use Rattle.shape.specs.declared.Shape.TheVariants.{Point, Line, Triangle}

abbrev pub vertices : Shape → List Vertex
vertices (Point a) = a ∷ []
vertices (Line a b) = a ∷ b ∷ []
vertices (Triangle a b c) = a ∷ b ∷ c ∷ []

-- from −262,144 to 262,143
pub record InUnits (z : ℤ) : Type 0 where
  pub low : negsuc 262143 ≤ℤ z
  pub high : z ≤ℤ pos 262143

pub record Placed (v : Vertex) : Type 0 where
  pub x : InUnits v.x
  pub y : InUnits v.y

-- what every vertex has to satisfy
abbrev pub Every : (Vertex → Type 0) → List Vertex → Type 0
Every P [] = Unit {0}
Every P (v ∷ vs) = P v × Every P vs

-- number 7 is given for a whole-number shape exactly where this fails
abbrev pub InRange : Shape → Type 0
InRange s = Every Placed (vertices s)

-- ---- the same, computed

abbrev pub in_units : ℤ → Bool
in_units z = le_z (negsuc 262143) z && le_z z (pos 262143)

abbrev pub placed : Vertex → Bool
placed v = in_units v.x && in_units v.y

abbrev pub every : (Vertex → Bool) → List Vertex → Bool
every f [] = true
every f (v ∷ vs) = f v && every f vs

abbrev pub in_range : Shape → Bool
in_range s = every placed (vertices s)
