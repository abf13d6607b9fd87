-- `calls::answer` meets its contract: a refusal is handed on, and the answer is that of the test.
use mathlib.Core.Path.{refl}
use borrow.Author.Rules.{rules}
use Rattle.calls.specs.Questions.{refused, done}
use Rattle.calls.proofs.answer.Goals as goal

pub returns-in_err-rectangle : goal.returns-in_err-rectangle
returns-in_err-rectangle g c = refused _ c.in_err-rectangle.ensures (search rules)

pub returns : goal.returns
returns g c = let told = c.in_ok-rectangle.ensures in done told.0 _ (rw told.1 at c.cover.ensures) refl
