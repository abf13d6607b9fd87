-- The tiles of a screen that a shape touches, as one list.
use Rattle.std.specs.Prelude.{ℕ, suc, ◌≤◌, ◌<◌, ◌≡◌, Bool, List, length, get_or, take}
use Rattle.numbers.specs.Flag.{plains}
use Rattle.numbers.specs.Says.{Says}
use Rattle.screen.specs.declared.Screen.{Screen}
use Rattle.screen.specs.Screen.{tiles}
use Rattle.screen.specs.Rectangle.{rectangle}
use Rattle.shape.specs.declared.Shape.{Shape}
use Rattle.touch.specs.Touches.{Touches}
use Rattle.touch.specs.Cover.{Wholly}
use Rattle.walk.specs.Lists.{Flagged}

-- ts are exactly the tiles that the shape touches, once each, in rising number
pub record TouchedTiles (d : Screen) (shape : Shape) (ts : List ℕ) : Type 0 where
  pub rising : (i : ℕ) → suc i < length ts → get_or ts i 0 < get_or ts (suc i) 0
  pub touched : (i : ℕ) → i < length ts → (get_or ts i 0 < tiles d) × Touches shape (rectangle d (get_or ts i 0))
  pub all : (t : ℕ) → t < tiles d → Touches shape (rectangle d t) → (i : ℕ) × (i < length ts) × (get_or ts i 0 ≡ t)

-- the first n words of a slice name those tiles, the flag of each says whether the shape covers its tile wholly, and every other place is as it was
pub record Walked (d : Screen) (shape : Shape) (n : ℕ) (old new : List ℕ) : Type 0 where
  pub touched : TouchedTiles d shape (plains (take n new))
  pub flags : (i : ℕ) → i < n → Flagged d shape (get_or new i 0)
  pub few : n ≤ tiles d
  pub size : length new ≡ length old
  pub rest : (i : ℕ) → n ≤ i → get_or new i 0 ≡ get_or old i 0

-- flag t says whether the shape covers tile t wholly
abbrev pub FlagsOf : Screen → Shape → (flag : ℕ → Bool) → Type 0
FlagsOf d shape flag = (t : ℕ) → t < tiles d → Says (flag t) (Wholly shape (rectangle d t))
