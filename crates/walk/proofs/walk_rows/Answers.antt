-- `walk::walk_rows` meets its contract. The invariant: the touched tiles of the rows passed are listed.
use native.Mathlib.Omega.{arith}
use Rattle.screen.specs.Rectangle.{In}
use Rattle.numbers.specs.Flag.{plains}
use Rattle.walk.proofs.Lists.{lists_few, words_none}
use Rattle.walk.proofs.Grid.{rows_none, rows_all}
use Rattle.walk.proofs.walk_rows.Goals as goal

pub loop-row-init : goal.loop-row-init
loop-row-init c =
    let g = c.args.grid in
    (rows_none g.screen g.allowed c.args.figure.edges c.args.spans.rows c.requires.meeting.rows (plains c.args.list.now), words_none 0 c.args.list.now)

pub walk_row-count-requires : goal.walk_row-count-requires
walk_row-count-requires c =
    let l = c.loop-row in
    let rows = c.requires.meeting.rows in
    let in_rows : In c.args.spans.rows l.row = record { from = omega arith; before = omega arith } in
    let within = rows.within in
    let size = l.invariant.0.size in record {
      columns_meet = c.requires.meeting.columns;
      row_bound = (omega arith, rows.sound l.row in_rows);
      count_bound = (lists_few l.count l.invariant.0 (λ t p. p.0), omega arith);
    }

pub loop-row-preserved : goal.loop-row-preserved
loop-row-preserved c = c.walk_row-count.ensures _ c.loop-row.invariant

pub returns : goal.returns
returns c =
    let g = c.args.grid in
    record {
      numbers = rows_all g.screen g.allowed c.args.figure.edges c.args.spans.rows c.requires.meeting.rows (omega arith) c.loop-row.invariant.0;
      words = c.loop-row.invariant.1;
    }
