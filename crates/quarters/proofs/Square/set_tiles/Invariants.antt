-- `quarters::Square::set_tiles` meets its contract: the bytes of the square's rows before `row` are written.
use Rattle.quarters.specs.Map.{WithOnes}
use Rattle.quarters.proofs.Ones.{RowsBefore}
use Rattle.quarters.proofs.Square.set_tiles.Given as goal

abbrev pub invariant-loop-row : goal.invariant-loop-row
invariant-loop-row l = WithOnes (RowsBefore l.grid.screen l.self l.row) l.initial.map l.map
