-- The map of a shape: a byte for each tile, 1 where the shape touches it and 0 elsewhere; and the table of the call that writes it.
use Rattle.std.specs.Prelude.{◌≡◌, List, ℕ, ◌+◌, ◌*◌, ◌≤◌, ◌<◌, length, get_or}
use Rattle.screen.specs.declared.Screen.{Screen}
use Rattle.screen.specs.Screen.{Allowed, columns, tiles}
use Rattle.screen.specs.Rectangle.{rectangle}
use Rattle.shape.specs.declared.Shape.{Shape}
use Rattle.shape.specs.Shape.{InRange}
use Rattle.touch.specs.Touches.{Touches}
use Rattle.quarters.specs.declared.Square.{Square}
use Rattle.quarters.specs.Square.{past_of}

-- the byte of each tile says whether it is touched, and every byte past the tiles is as it was
pub record Mapped (d : Screen) (shape : Shape) (old new : List ℕ) : Type 0 where
  pub size : length new ≡ length old
  pub touched : (t : ℕ) → t < tiles d → Touches shape (rectangle d t) → get_or new t 0 ≡ 1
  pub apart : (t : ℕ) → t < tiles d → (Touches shape (rectangle d t) → ⊥) → get_or new t 0 ≡ 0
  pub rest : (i : ℕ) → tiles d ≤ i → get_or new i 0 ≡ get_or old i 0

-- A row for each number in the order in which it is given: 1, 7, 11. A row has its cause, with no earlier one applying, and then the whole outcome: the number
-- a, and the bytes q that are left of the bytes p.
pub data MapSays (d : Screen) (shape : Shape) (p : List ℕ) (a : ℕ) (q : List ℕ) : Type 0 where
  bad_screen : (Allowed d → ⊥) → a ≡ 1 → q ≡ p → MapSays d shape p a q
  out_of_range : Allowed d → (InRange shape → ⊥) → a ≡ 7 → q ≡ p → MapSays d shape p a q
  too_short : Allowed d → InRange shape → length p < tiles d → a ≡ 11 → q ≡ p → MapSays d shape p a q
  done : Allowed d → InRange shape → tiles d ≤ length p → a ≡ 0 → Mapped d shape p q → MapSays d shape p a q

-- ---- on the way

-- the bytes from `from` on and before `to` are v, and every other byte is as it was
pub record BytesSet (v from to : ℕ) (old new : List ℕ) : Type 0 where
  pub size : length new ≡ length old
  pub within : (i : ℕ) → from ≤ i → i < to → get_or new i 0 ≡ v
  pub under : (i : ℕ) → i < from → get_or new i 0 ≡ get_or old i 0
  pub over : (i : ℕ) → from ≤ i → to ≤ i → get_or new i 0 ≡ get_or old i 0

-- the bytes of a square's tiles in a row are 1, and every other byte is as it was
abbrev pub RowSet : Screen → Square → (row : ℕ) → (old new : List ℕ) → Type 0
RowSet d q row = BytesSet 1 (row * columns d + q.column) (row * columns d + past_of (columns d) q.column q.exponent)

-- the bytes at P are 1, no 1 is lost, and every other byte is as it was
pub record WithOnes (P : ℕ → Type 0) (old new : List ℕ) : Type 0 where
  pub size : length new ≡ length old
  pub ones : (t : ℕ) → P t → get_or new t 0 ≡ 1
  pub kept : (t : ℕ) → get_or old t 0 ≡ 1 → get_or new t 0 ≡ 1
  pub rest : (t : ℕ) → (P t → ⊥) → get_or new t 0 ≡ get_or old t 0
