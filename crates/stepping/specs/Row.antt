-- What the functions of the stepping walk answer of a row.
use Rattle.std.specs.Prelude.{ℕ, suc, ◌+◌, ◌≤◌, ◌<◌, min, max, ◌≡◌, List, ◌↔◌, length}
use Rattle.numbers.specs.Flag.{plain, is_flagged}
use Rattle.numbers.specs.Says.{Says}
use Rattle.screen.specs.declared.Screen.{Screen}
use Rattle.screen.specs.declared.Span.{Span}
use Rattle.screen.specs.Rectangle.{rectangle_at, In}
use Rattle.shape.specs.declared.Shape.{Shape}
use Rattle.touch.specs.declared.Cover as answer
use Rattle.touch.specs.Cover.{Wholly}
use Rattle.stepping.specs.declared.Step.{Step}
use Rattle.stepping.specs.Stepping.{Hit, Find, InRow}

-- ---- the tests to one side

-- P holds from a column on and before stop, which is n or the first with which it does not hold
pub record Reach (P : ℕ → Type 0) (n column stop : ℕ) : Type 0 where
  pub from : column ≤ stop
  pub within : stop ≤ n
  pub all : (k : ℕ) → column ≤ k → k < stop → P k
  pub ends : stop < n → P stop → ⊥

-- P holds from first on and before a column, and first is n or P does not hold of the one before it
pub record Back (P : ℕ → Type 0) (n column first : ℕ) : Type 0 where
  pub within : n ≤ first
  pub to : first ≤ column
  pub all : (k : ℕ) → first ≤ k → k < column → P k
  pub ends : (k : ℕ) → suc k ≡ first → n ≤ k → P k → ⊥

-- ---- the wholly covered tiles of a run

-- the columns with P from `from` on and before `to` are in the span, whose first and last have P; one without columns starts with n and ends with 0
pub record Hull (P : ℕ → Type 0) (n from to : ℕ) (span : Span) : Type 0 where
  pub first : span.start < n → P span.start
  pub last : (k : ℕ) → suc k ≡ span.end → P k
  pub all : (k : ℕ) → from ≤ k → k < to → P k → In span k

-- the least span that has the columns of a span and one column more
abbrev pub joined : Span → (column : ℕ) → Span
joined span column = record { start = min span.start column; end = max span.end (column + 1) }

-- with the column where an answer says wholly
abbrev pub grown : Span → (column : ℕ) → answer.Cover → Span
grown span column answer.TheVariants.Apart = span
grown span column answer.TheVariants.Partly = span
grown span column answer.TheVariants.Wholly = joined span column

-- of the columns of a run, those whose tiles the shape covers wholly are those of `whole`
abbrev pub WholeIn : Screen → Shape → (row : ℕ) → (run whole : Span) → Type 0
WholeIn d shape row run whole = (k : ℕ) → In run k → In whole k ↔ Wholly shape (rectangle_at d k row)

-- the word w names a tile of the run, and its flag says whether that stands in a column of `whole`; base is the number of the row's first tile
pub record Named (base : ℕ) (run whole : Span) (w : ℕ) : Type 0 where
  pub column : ℕ
  pub inside : In run column
  pub number : plain w ≡ base + column
  pub says : Says (is_flagged w) (In whole column)

-- ---- a row

-- a column of the run is touched in that row
pub record HitIn (d : Screen) (shape : Shape) (row : ℕ) (run : Span) : Type 0 where
  pub column : ℕ
  pub inside : In run column
  pub hit : Hit d shape row column

-- the row from the run above it, and how many tests that takes
pub record FromAbove (d : Screen) (shape : Shape) (row : ℕ) (above : Span) (step : Step) : Type 0 where
  pub found : ℕ
  pub below : List ℕ
  pub beside : List ℕ
  pub find : Find d shape row above.end above.start found below
  pub row_tests : InRow d shape row found step.run beside
  pub many : step.tests ≡ length below + length beside
  pub whole : WholeIn d shape row step.run step.whole
