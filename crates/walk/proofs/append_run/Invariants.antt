-- `walk::append_run` meets its contract. The invariant: the columns passed are a run, and each of its words was tested.
use Rattle.numbers.specs.Flag.{plains}
use Rattle.walk.specs.Lists.{Words}
use Rattle.walk.specs.Row.{ClearIn, Tested, Run}
use Rattle.walk.proofs.append_run.Given as goal

abbrev pub invariant-loop-column : goal.invariant-loop-column
invariant-loop-column l =
    let d = l.grid.screen in
    let e = l.row.edges in
    Run (ClearIn d e) l.base l.fn.span.start l.column l.count l.n (plains l.initial.list) (plains l.list) × Words (Tested d e l.base) l.count l.n l.initial.list l.list
