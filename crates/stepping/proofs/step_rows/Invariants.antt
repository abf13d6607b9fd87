-- `stepping::step_rows` meets its contract. The invariant: the rows passed are walked as the definition says, and their touched tiles are listed.
use Rattle.walk.specs.Row.{outlined}
use Rattle.stepping.proofs.Going.{Walking}
use Rattle.stepping.proofs.step_rows.Given as goal

abbrev pub invariant-loop-row : goal.invariant-loop-row
invariant-loop-row l = Walking l.grid.screen (outlined l.figure.edges) l.row l.run l.tests l.count l.initial.list l.list
