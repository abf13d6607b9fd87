-- A question that is answered as P says is answered as Q says, where P says no less.
use Prim.Native.Nat.{ℕ}
use Rattle.screen.specs.declared.Screen.{Screen}
use Rattle.shape.specs.declared.Shape.{Shape}
use Rattle.touch.specs.declared.Cover.{Cover}
use Rattle.calls.specs.Told.{Answered}
use Rattle.calls.specs.Questions.{AnswerSays, refused, done}

pub answered_as : {P Q : Cover → Type 0} {d : Screen} {t : ℕ} {shape : Shape} {a : Answered} → ((r : Cover) → P r → Q r) → AnswerSays P d t shape a → AnswerSays Q d t shape a
answered_as f (AnswerSays.refused n w e) = refused n w e
answered_as f (AnswerSays.done o r p e) = done o r (f r p) e
