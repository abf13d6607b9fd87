-- What callers know of the answer for a shape: a whole shape is in range, a refusal is 6 or 7, and its number is that of the first coordinate refused.
use mathlib.Core.Path.{◌≡◌, refl, subst}
use mathlib.Core.Logic.{◌⊎◌, inl, inr}
use mathlib.Core.Bool.{Bool, true, false, cond}
use Prim.Native.Nat.{ℕ, ◌*◌}
use lib.IntN.{ℤ}
use lib.Ieee.{Float, nan, inf, fin, up, down}
use lib.Ieee.Nearest.{closest}
use Rattle.std.proofs.Common.{Result, Ok, Err, MatchResult}
use Rattle.numbers.specs.Says.{Says}
use Rattle.numbers.specs.Refusal.{number_of, number_in}
use Rattle.numbers.specs.declared.Refusal.TheVariants.{OutOfRange}
use Rattle.shape.specs.Shape.{InUnits, Placed, InRange, in_units}
use Rattle.shape.proofs.Range.{in_units_test}
use Rattle.shape.specs.declared.Shape.{Shape}
use Rattle.shape.specs.declared.Vertex.{Vertex}
use Rattle.snap.specs.Unit.{signed, accept, unit_of}
use Rattle.snap.specs.Shapes.{vertex_by, vertex_of, point_by, line_by, triangle_by, shape_of, coordinates, refused_or, first_refusal}
use Rattle.numbers.specs.declared.Refusal.{Refusal}
use Rattle.snap.specs.declared.PixelVertex.{PixelVertex}
use Rattle.snap.specs.declared.PixelShape.{PixelShape}

-- ---- a value in range, or one of the two numbers

abbrev pub SixOrSeven : ℕ → Type 0
SixOrSeven n = (n ≡ 6) ⊎ (n ≡ 7)

-- a right value, or one of the two refusals
abbrev Allowed : {A : Type 0} → (A → Type 0) → Result A Refusal → Type 0
Allowed Right r = MatchResult r Right (λ e. SixOrSeven (number_of e))

accept_allowed : (z : ℤ) → Allowed InUnits (accept z)
accept_allowed z = go (in_units z) (in_units_test z)
  where
    go : (b : Bool) → Says b (InUnits z) → Allowed InUnits (cond b (Ok z) (Err OutOfRange))
    go true h = h.yes refl
    go false h = inr refl

unit_allowed : (v : Float) → Allowed InUnits (unit_of v)
unfolding unit_of
unit_allowed nan = inl refl
unit_allowed (inf s) = inl refl
unit_allowed (fin s m e) = accept_allowed (signed s (closest (16 * (m * up e)) (down e)))

vertex_by_allowed : (x y : Result ℤ Refusal) → Allowed InUnits x → Allowed InUnits y → Allowed Placed (vertex_by x y)
vertex_by_allowed (Err r) y p q = p
vertex_by_allowed (Ok a) (Err r) p q = q
vertex_by_allowed (Ok a) (Ok b) p q = record { x = p; y = q }

vertex_allowed : (v : PixelVertex) → Allowed Placed (vertex_of v)
vertex_allowed v = vertex_by_allowed (unit_of v.x) (unit_of v.y) (unit_allowed v.x) (unit_allowed v.y)

point_allowed : (a : Result Vertex Refusal) → Allowed Placed a → Allowed InRange (point_by a)
point_allowed (Err r) p = p
point_allowed (Ok a) p = (p, tt)

line_allowed : (a b : Result Vertex Refusal) → Allowed Placed a → Allowed Placed b → Allowed InRange (line_by a b)
line_allowed (Err r) b p q = p
line_allowed (Ok a) (Err r) p q = q
line_allowed (Ok a) (Ok b) p q = (p, (q, tt))

triangle_allowed : (a b c : Result Vertex Refusal) → Allowed Placed a → Allowed Placed b → Allowed Placed c → Allowed InRange (triangle_by a b c)
triangle_allowed (Err n) b c p q r = p
triangle_allowed (Ok a) (Err n) c p q r = q
triangle_allowed (Ok a) (Ok b) (Err n) p q r = r
triangle_allowed (Ok a) (Ok b) (Ok c) p q r = (p, (q, (r, tt)))

shape_allowed : (s : PixelShape) → Allowed InRange (shape_of s)
shape_allowed (PixelShape.Point a) = point_allowed (vertex_of a) (vertex_allowed a)
shape_allowed (PixelShape.Line a b) = line_allowed (vertex_of a) (vertex_of b) (vertex_allowed a) (vertex_allowed b)
shape_allowed (PixelShape.Triangle a b c) =
    triangle_allowed (vertex_of a) (vertex_of b) (vertex_of c) (vertex_allowed a) (vertex_allowed b) (vertex_allowed c)

pub unit_in_range : (v : Float) {z : ℤ} → unit_of v ≡ Ok z → InUnits z
unit_in_range v e = subst (Allowed InUnits) e (unit_allowed v)

pub unit_refused : (v : Float) {r : Refusal} → unit_of v ≡ Err r → SixOrSeven (number_of r)
unit_refused v e = subst (Allowed InUnits) e (unit_allowed v)

pub whole_in_range : (s : PixelShape) {w : Shape} → shape_of s ≡ Ok w → InRange w
whole_in_range s e = subst (Allowed InRange) e (shape_allowed s)

pub refused_six_or_seven : (s : PixelShape) {r : Refusal} → shape_of s ≡ Err r → SixOrSeven (number_of r)
refused_six_or_seven s e = subst (Allowed InRange) e (shape_allowed s)

-- ---- the first refusal

point_first : (x y : Result ℤ Refusal) → number_in (point_by (vertex_by x y)) ≡ refused_or (refused_or 0 y) x
point_first (Err r) y = refl
point_first (Ok a) (Err r) = refl
point_first (Ok a) (Ok b) = refl

line_first : (x y u v : Result ℤ Refusal) → number_in (line_by (vertex_by x y) (vertex_by u v)) ≡ refused_or (refused_or (refused_or (refused_or 0 v) u) y) x
line_first (Err r) y u v = refl
line_first (Ok a) (Err r) u v = refl
line_first (Ok a) (Ok b) (Err r) v = refl
line_first (Ok a) (Ok b) (Ok c) (Err r) = refl
line_first (Ok a) (Ok b) (Ok c) (Ok d) = refl

triangle_first : (x y u v s t : Result ℤ Refusal) → number_in (triangle_by (vertex_by x y) (vertex_by u v) (vertex_by s t)) ≡ refused_or (refused_or (refused_or (refused_or (refused_or (refused_or 0 t) s) v) u) y) x
triangle_first (Err r) y u v s t = refl
triangle_first (Ok a) (Err r) u v s t = refl
triangle_first (Ok a) (Ok b) (Err r) v s t = refl
triangle_first (Ok a) (Ok b) (Ok c) (Err r) s t = refl
triangle_first (Ok a) (Ok b) (Ok c) (Ok d) (Err r) t = refl
triangle_first (Ok a) (Ok b) (Ok c) (Ok d) (Ok f) (Err r) = refl
triangle_first (Ok a) (Ok b) (Ok c) (Ok d) (Ok f) (Ok g) = refl

pub first_refusal_decides : (s : PixelShape) → number_in (shape_of s) ≡ first_refusal (coordinates s)
first_refusal_decides (PixelShape.Point a) = point_first (unit_of a.x) (unit_of a.y)
first_refusal_decides (PixelShape.Line a b) = line_first (unit_of a.x) (unit_of a.y) (unit_of b.x) (unit_of b.y)
first_refusal_decides (PixelShape.Triangle a b c) =
    triangle_first (unit_of a.x) (unit_of a.y) (unit_of b.x) (unit_of b.y) (unit_of c.x) (unit_of c.y)
