-- `calls::box_cover` meets its contract: the answer is that of the test.
use borrow.Author.Rules.{rules}
use Rattle.calls.proofs.Asking.{answered_as}
use Rattle.calls.proofs.box_cover.Goals as goal

pub returns : goal.returns
returns c = answered_as (λ r p. search rules) c.answer.ensures
