-- How the list of touched tiles stands at the front of a slice while the walk goes on.
use Rattle.std.specs.Prelude.{ℕ, ◌*◌, ◌≤◌, ◌<◌, ◌≡◌, List, length, get_or}
use Rattle.numbers.specs.Flag.{plain, is_flagged, plains}
use Rattle.numbers.specs.Says.{Says}
use Rattle.screen.specs.declared.Screen.{Screen}
use Rattle.screen.specs.Screen.{columns, tiles}
use Rattle.screen.specs.Rectangle.{rectangle}
use Rattle.shape.specs.declared.Shape.{Shape}
use Rattle.touch.specs.Touches.{Touches}
use Rattle.touch.specs.Cover.{Wholly}

-- t is the number of a tile of the screen, and the shape touches the tile
abbrev pub IsTouched : Screen → Shape → ℕ → Type 0
IsTouched d shape t = (t < tiles d) × Touches shape (rectangle d t)

-- the flag of a word says whether the shape covers the tile wholly whose number the word has
abbrev pub Flagged : Screen → Shape → ℕ → Type 0
Flagged d shape w = Says (is_flagged w) (Wholly shape (rectangle d (plain w)))

-- of P, the numbers below m
abbrev pub Below : ℕ → (ℕ → Type 0) → ℕ → Type 0
Below m P t = (t < m) × P t

-- t stands at one of the first n places
pub record Place (xs : List ℕ) (n t : ℕ) : Type 0 where
  pub index : ℕ
  pub before : index < n
  pub there : get_or xs index 0 ≡ t

-- the first n places list the numbers that satisfy P, rising; every other place is as it was
pub record Lists (P : ℕ → Type 0) (n : ℕ) (old new : List ℕ) : Type 0 where
  pub size : length new ≡ length old
  pub rest : (i : ℕ) → n ≤ i → get_or new i 0 ≡ get_or old i 0
  pub rising : (i j : ℕ) → i < j → j < n → get_or new i 0 < get_or new j 0
  pub sound : (i : ℕ) → i < n → P (get_or new i 0)
  pub whole : (t : ℕ) → P t → Place new n t

-- the touched tiles of the rows before a row
abbrev pub ListsBefore : Screen → Shape → (row n : ℕ) → (old new : List ℕ) → Type 0
ListsBefore d shape row n old new = Lists (Below (row * columns d) (IsTouched d shape)) n old new

-- ---- the words that name them, with their flags

-- F holds of the words from place `from` on and before place n; every other place is as it was
pub record Words (F : ℕ → Type 0) (from n : ℕ) (old new : List ℕ) : Type 0 where
  pub size : length new ≡ length old
  pub each : (i : ℕ) → from ≤ i → i < n → F (get_or new i 0)
  pub under : (i : ℕ) → i < from → get_or new i 0 ≡ get_or old i 0
  pub over : (i : ℕ) → n ≤ i → get_or new i 0 ≡ get_or old i 0

-- the numbers of the words are the touched tiles of the rows before a row, and their flags say which of these are wholly covered
abbrev pub Before : Screen → Shape → (row n : ℕ) → (old new : List ℕ) → Type 0
Before d shape row n old new = ListsBefore d shape row n (plains old) (plains new) × Words (Flagged d shape) 0 n old new
