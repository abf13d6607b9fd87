-- The decision table of the question how a whole-number shape covers a tile of a screen, a row for each number in the order in which it is given:
-- 1, 9, 7. A row has its cause, with no earlier one applying, and then the whole answer a.
use Rattle.std.specs.Prelude.{◌≡◌, Result, Ok, Err, ℕ, ◌≤◌, ◌<◌}
use Rattle.numbers.specs.declared.Refusal.{Refusal}
use Rattle.numbers.specs.Refusal.{number_of}
use Rattle.screen.specs.declared.Screen.{Screen}
use Rattle.screen.specs.declared.Rectangle.{Rectangle}
use Rattle.screen.specs.Screen.{Allowed, tiles}
use Rattle.screen.specs.Rectangle.{rectangle}
use Rattle.shape.specs.declared.Shape.{Shape}
use Rattle.shape.specs.Shape.{InRange}
use Rattle.touch.specs.declared.Cover.{Cover}
use Rattle.touch.specs.declared.Cover.TheVariants.{Apart}
use Rattle.touch.specs.Cover.{CoverSays, BoxCoverSays}
use Rattle.calls.specs.Told.{Answered}

-- the number n that the question is refused with
pub data RefusedWith (d : Screen) (t : ℕ) (shape : Shape) (n : ℕ) : Type 0 where
  bad_screen : (Allowed d → ⊥) → n ≡ 1 → RefusedWith d t shape n
  no_tile : Allowed d → tiles d ≤ t → n ≡ 9 → RefusedWith d t shape n
  out_of_range : Allowed d → t < tiles d → (InRange shape → ⊥) → n ≡ 7 → RefusedWith d t shape n

-- no cause applies
pub record InOrder (d : Screen) (t : ℕ) (shape : Shape) : Type 0 where
  pub screen : Allowed d
  pub tile : t < tiles d
  pub in_range : InRange shape

-- the question may be put to the rectangle of the tile; or it is refused
abbrev pub QuestionSays : (d : Screen) (t : ℕ) (shape : Shape) → Result Rectangle Refusal → Type 0
QuestionSays d t shape (Ok q) = InOrder d t shape × (q ≡ rectangle d t)
QuestionSays d t shape (Err r) = RefusedWith d t shape (number_of r)

-- refused, with nothing else said; or answered as P says
pub data AnswerSays (P : Cover → Type 0) (d : Screen) (t : ℕ) (shape : Shape) (a : Answered) : Type 0 where
  refused : (n : ℕ) → RefusedWith d t shape n → a ≡ record { number = n; cover = Apart } → AnswerSays P d t shape a
  done : InOrder d t shape → (r : Cover) → P r → a ≡ record { number = 0; cover = r } → AnswerSays P d t shape a

-- by box, which says apart or partly only
abbrev pub BoxSays : (d : Screen) (t : ℕ) (shape : Shape) → Answered → Type 0
BoxSays d t shape a = AnswerSays (λ r. BoxCoverSays r shape (rectangle d t)) d t shape a

-- by corner, which says apart, partly or wholly exactly as the weights do
abbrev pub CornerSays : (d : Screen) (t : ℕ) (shape : Shape) → Answered → Type 0
CornerSays d t shape a = AnswerSays (λ r. CoverSays r shape (rectangle d t)) d t shape a
