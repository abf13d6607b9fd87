-- The totals over n shapes, each by a definition of its own. `shape i` is the shape at place i.
use Rattle.std.specs.Prelude.{◌≡◌, ℕ, ◌+◌, ◌≤◌, ◌<◌}
use Rattle.numbers.specs.Sum.{sum_to}
use Rattle.screen.specs.declared.Screen.{Screen}
use Rattle.shape.specs.declared.Shape.{Shape}
use Rattle.shape.specs.Shape.{InRange}
use Rattle.overlaps.specs.declared.Totals.{Totals}
use Rattle.overlaps.specs.HowMany.{HowMany, TilesByBox, TilesByTouching}

-- where the shape at place i is in range, f i is its number, by Is; where it is not, f i is 0
pub record OfEach (Is : Shape → ℕ → Type 0) (shape : ℕ → Shape) (n : ℕ) (f : ℕ → ℕ) : Type 0 where
  pub in_range : (i : ℕ) → i < n → InRange (shape i) → Is (shape i) (f i)
  pub out_of_range : (i : ℕ) → i < n → (InRange (shape i) → ⊥) → f i ≡ 0

-- the largest f i of the shapes in range, and the first place where it occurs; both 0 where no shape is in range
pub data Largest (shape : ℕ → Shape) (n : ℕ) (f : ℕ → ℕ) (largest place : ℕ) : Type 0 where
  none : ((i : ℕ) → i < n → InRange (shape i) → ⊥) → largest ≡ 0 → place ≡ 0 → Largest shape n f largest place
  some : place < n → InRange (shape place) → f place ≡ largest → ((i : ℕ) → i < n → InRange (shape i) → f i ≤ largest)
      → ((i : ℕ) → i < place → InRange (shape i) → f i < largest) → Largest shape n f largest place

pub record TotalsOf (d : Screen) (shape : ℕ → Shape) (n : ℕ) (a : Totals) : Type 0 where
  -- the tiles of each shape
  pub boxes : ℕ → ℕ
  pub touches : ℕ → ℕ
  pub boxes_are : OfEach (TilesByBox d) shape n boxes
  pub touches_are : OfEach (TilesByTouching d) shape n touches
  -- the totals
  pub shapes_is : HowMany n (λ i. InRange (shape i)) a.shapes
  pub out_of_range_is : HowMany n (λ i. InRange (shape i) → ⊥) a.out_of_range
  pub box_tiles_is : a.box_tiles ≡ sum_to n boxes
  pub touched_tiles_is : a.touched_tiles ≡ sum_to n touches
  pub difference_is : a.difference + a.touched_tiles ≡ a.box_tiles
  pub largest_is : Largest shape n touches a.largest a.place
