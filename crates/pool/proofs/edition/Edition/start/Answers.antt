-- `Edition::start`: the start of the definition.
use native.Mathlib.Omega.{arith}
use borrow.Author.Rules.{rules}
use Rattle.pool.specs.Words.{start}
use Rattle.pool.proofs.edition.Edition.start.Goals as goal

pub overflow_add-result : goal.overflow_add-result
overflow_add-result c = omega (arith, c.requires.0.header≤)

pub returns : goal.returns
unfolding start
returns c = search rules
