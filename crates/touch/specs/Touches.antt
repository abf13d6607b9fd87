-- What is meant by touching: some weighted mean of the shape's vertices lies in the closed rectangle. Over the integers, and no search.
use Rattle.std.specs.Prelude.{ℕ, ◌+◌, ◌<◌, ◌≡◌, List, [], ◌∷◌, length, ℤ, pos, ◌+ℤ◌, ◌*ℤ◌, ◌≤ℤ◌}
use Rattle.screen.specs.declared.Rectangle.{Rectangle}
use Rattle.shape.specs.declared.Vertex.{Vertex}
use Rattle.shape.specs.declared.Shape.{Shape}
use Rattle.shape.specs.Shape.{vertices}

-- the sum of the weights
abbrev pub total : List ℕ → ℕ
total [] = 0
total (w ∷ ws) = w + total ws

-- the weighted sum of a coordinate of the vertices
abbrev pub weighted : (Vertex → ℤ) → List ℕ → List Vertex → ℤ
weighted f [] vs = pos 0
weighted f (w ∷ ws) [] = pos 0
weighted f (w ∷ ws) (v ∷ vs) = pos w *ℤ f v +ℤ weighted f ws vs

-- whole weights, one for each vertex and not all zero, whose weighted sums lie within their sum times the sides
pub record MeanIn (ws : List ℕ) (vs : List Vertex) (q : Rectangle) : Type 0 where
  pub one_each : length ws ≡ length vs
  pub some : 0 < total ws
  pub left : (pos (total ws) *ℤ q.left) ≤ℤ weighted (λ v. v.x) ws vs
  pub right : weighted (λ v. v.x) ws vs ≤ℤ (pos (total ws) *ℤ q.right)
  pub top : (pos (total ws) *ℤ q.top) ≤ℤ weighted (λ v. v.y) ws vs
  pub bottom : weighted (λ v. v.y) ws vs ≤ℤ (pos (total ws) *ℤ q.bottom)

pub record Touches (shape : Shape) (q : Rectangle) : Type 0 where
  pub weights : List ℕ
  pub mean : MeanIn weights (vertices shape) q

-- the point (x, y), at a scale of n, lies in the rectangle; of touching it is the mean, at the sum of the weights
pub record PointIn (q : Rectangle) (n : ℕ) (x y : ℤ) : Type 0 where
  pub left : (pos n *ℤ q.left) ≤ℤ x
  pub right : x ≤ℤ (pos n *ℤ q.right)
  pub top : (pos n *ℤ q.top) ≤ℤ y
  pub bottom : y ≤ℤ (pos n *ℤ q.bottom)
