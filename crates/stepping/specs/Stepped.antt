-- What a walk answers: the touched tiles, and how many tests they took.
use Rattle.std.specs.Prelude.{ℕ, suc, ◌<◌, ◌≡◌, List, length, get_or}
use Rattle.screen.specs.declared.Screen.{Screen}
use Rattle.screen.specs.Screen.{row_of}
use Rattle.shape.specs.declared.Shape.{Shape}
use Rattle.walk.specs.Touched.{Walked}
use Rattle.stepping.specs.declared.Stepped.{Stepped}
use Rattle.stepping.specs.Stepping.{OnScreen, Walk}

-- the tests that a shape takes: those of the stepping walk's definition where every vertex lies on the screen, and else none
pub data TestsSay (d : Screen) (shape : Shape) (tests : ℕ) : Type 0 where
  on_screen : OnScreen d shape → (listed tested : List ℕ) → Walk d shape listed tested → tests ≡ length tested → TestsSay d shape tests
  off_screen : (OnScreen d shape → ⊥) → tests ≡ 0 → TestsSay d shape tests

-- rs are exactly the rows in which the tiles ts stand, once each, from the top
pub record RowsOf (d : Screen) (ts rs : List ℕ) : Type 0 where
  pub rising : (i : ℕ) → suc i < length rs → get_or rs i 0 < get_or rs (suc i) 0
  pub row : (i : ℕ) → i < length rs → (j : ℕ) × (j < length ts) × (row_of d (get_or ts j 0) ≡ get_or rs i 0)
  pub all : (j : ℕ) → j < length ts → (i : ℕ) × (i < length rs) × (get_or rs i 0 ≡ row_of d (get_or ts j 0))

-- the touched tiles stand at the front of the slice, rising, with their flags, and every other place is as it was; the tests are those that the shape takes
pub record WalkedThrough (d : Screen) (shape : Shape) (answer : Stepped) (old new : List ℕ) : Type 0 where
  pub walked : Walked d shape answer.count old new
  pub tests : TestsSay d shape answer.tests
