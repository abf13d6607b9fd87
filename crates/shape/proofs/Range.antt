-- The range of a shape's units as a function to Bool, which answers as `InRange` does.
use mathlib.Core.List.{List, [], ◌∷◌}
use lib.IntN.{ℤ, pos, negsuc}
use Rattle.numbers.specs.Says.{Says}
use Rattle.numbers.proofs.Says.{says_yes, says_iff, says_and}
use Rattle.numbers.proofs.Deciding.{says_leℤ}
use Rattle.shape.specs.declared.Vertex.{Vertex}
use Rattle.shape.specs.declared.Shape.{Shape}
use Rattle.shape.specs.Shape.{vertices, InUnits, Placed, Every, InRange, in_units, placed, every, in_range}

pub in_units_test : (z : ℤ) → Says (in_units z) (InUnits z)
in_units_test z =
    says_iff (λ h. record { low = h.0; high = h.1 }) (λ h. (h.low, h.high)) (says_and (says_leℤ (negsuc 262143) z) (says_leℤ z (pos 262143)))

placed-test : (v : Vertex) → Says (placed v) (Placed v)
placed-test v = says_iff (λ h. record { x = h.0; y = h.1 }) (λ h. (h.x, h.y)) (says_and (in_units_test v.x) (in_units_test v.y))

every-test : (vs : List Vertex) → Says (every placed vs) (Every Placed vs)
every-test [] = says_yes tt
every-test (v ∷ vs) = says_and (placed-test v) (every-test vs)

pub in_range_test : (s : Shape) → Says (in_range s) (InRange s)
in_range_test s = every-test (vertices s)
