-- How many numbers satisfy a condition, and how many tiles of a screen a shape has by box and by touching.
use Rattle.std.specs.Prelude.{◌≡◌, Bool, ℕ, ◌<◌}
use Rattle.numbers.specs.Says.{Says}
use Rattle.numbers.specs.Sum.{sum_to, one}
use Rattle.screen.specs.declared.Screen.{Screen}
use Rattle.screen.specs.Screen.{tiles}
use Rattle.screen.specs.Rectangle.{rectangle}
use Rattle.shape.specs.declared.Shape.{Shape}
use Rattle.touch.specs.Touches.{Touches}
use Rattle.touch.specs.Corner.{Box}

-- c of the numbers below n satisfy P: the sum of 1 for each that does and 0 for each that does not
pub record HowMany (n : ℕ) (P : ℕ → Type 0) (c : ℕ) : Type 0 where
  pub test : ℕ → Bool
  pub says : (i : ℕ) → i < n → Says (test i) (P i)
  pub sum : c ≡ sum_to n (λ i. one (test i))

-- c tiles of the screen meet the shape's bounding box
abbrev pub TilesByBox : Screen → Shape → (c : ℕ) → Type 0
TilesByBox d shape c = HowMany (tiles d) (λ t. Box shape (rectangle d t)) c

-- the shape touches c tiles of the screen
abbrev pub TilesByTouching : Screen → Shape → (c : ℕ) → Type 0
TilesByTouching d shape c = HowMany (tiles d) (λ t. Touches shape (rectangle d t)) c
