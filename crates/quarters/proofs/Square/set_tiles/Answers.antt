-- `quarters::Square::set_tiles` meets its contract: the bytes of the square's rows before `row` are written.
use native.Mathlib.Omega.{arith}
use Rattle.quarters.proofs.Ones.{row_more}
use Rattle.quarters.proofs.Square.set_tiles.Goals as goal

pub loop-row-preserved : goal.loop-row-preserved
loop-row-preserved c =
    let l = c.loop-row in
    let e = c.past-row-end.ensures in
    let n = c.rows.ensures in
    row_more c.args.grid.screen c.args.grid.allowed c.args.self l.row (omega arith) (omega arith) l.invariant c.set_row.ensures
