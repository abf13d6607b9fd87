-- `walk::walk_rows` meets its contract. The invariant: the touched tiles of the rows passed are listed.
use Rattle.walk.specs.Lists.{Before}
use Rattle.walk.specs.Row.{outlined}
use Rattle.walk.proofs.walk_rows.Given as goal

abbrev pub invariant-loop-row : goal.invariant-loop-row
invariant-loop-row l = Before l.grid.screen (outlined l.figure.edges) l.row l.count l.initial.list l.list
