-- What is meant by covering: which points are a shape's, by the weights of touching, and when a shape covers a rectangle wholly.
use Rattle.std.specs.Prelude.{ℕ, ◌<◌, ◌≡◌, Bool, true, false, List, length, ℤ, pos, ◌*ℤ◌}
use Rattle.screen.specs.declared.Rectangle.{Rectangle}
use Rattle.shape.specs.declared.Vertex.{Vertex}
use Rattle.shape.specs.declared.Shape.{Shape}
use Rattle.shape.specs.Shape.{vertices}
use Rattle.touch.specs.declared.Cover as answer
use Rattle.touch.specs.Touches.{total, weighted, Touches}
use Rattle.touch.specs.Corner.{Box}

-- whole weights, one for each vertex and not all zero, whose weighted mean is the point (x, y)
pub record MeanAt (ws : List ℕ) (vs : List Vertex) (x y : ℤ) : Type 0 where
  pub one_each : length ws ≡ length vs
  pub some : 0 < total ws
  pub across : weighted (λ v. v.x) ws vs ≡ pos (total ws) *ℤ x
  pub down : weighted (λ v. v.y) ws vs ≡ pos (total ws) *ℤ y

-- (x, y) is a point of the shape
pub record HasPoint (shape : Shape) (x y : ℤ) : Type 0 where
  pub weights : List ℕ
  pub mean : MeanAt weights (vertices shape) x y

-- the rectangle that is one point
abbrev pub one_point : (x y : ℤ) → Rectangle
one_point x y = record { left = x; right = x; top = y; bottom = y }

-- all four corners of the rectangle are points of the shape
pub record Wholly (shape : Shape) (q : Rectangle) : Type 0 where
  pub left_top : HasPoint shape q.left q.top
  pub right_top : HasPoint shape q.right q.top
  pub left_bottom : HasPoint shape q.left q.bottom
  pub right_bottom : HasPoint shape q.right q.bottom

-- what each answer says of a shape and a rectangle
abbrev pub CoverSays : answer.Cover → Shape → Rectangle → Type 0
CoverSays answer.TheVariants.Apart shape q = Touches shape q → ⊥
CoverSays answer.TheVariants.Partly shape q = Touches shape q × (Wholly shape q → ⊥)
CoverSays answer.TheVariants.Wholly shape q = Wholly shape q

-- what each answer says of a shape's bounding box and a rectangle; it never says wholly
abbrev pub BoxCoverSays : answer.Cover → Shape → Rectangle → Type 0
BoxCoverSays answer.TheVariants.Apart shape q = Box shape q → ⊥
BoxCoverSays answer.TheVariants.Partly shape q = Box shape q
BoxCoverSays answer.TheVariants.Wholly shape q = ⊥

-- whether an answer is not apart, and whether it is wholly
abbrev pub is_touched : answer.Cover → Bool
is_touched answer.TheVariants.Apart = false
is_touched answer.TheVariants.Partly = true
is_touched answer.TheVariants.Wholly = true

abbrev pub is_whole : answer.Cover → Bool
is_whole answer.TheVariants.Apart = false
is_whole answer.TheVariants.Partly = false
is_whole answer.TheVariants.Wholly = true
