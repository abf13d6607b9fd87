-- `stepping::step_rows` meets its contract. The invariant: the rows passed are walked as the definition says, and their touched tiles are listed.
use Prim.Native.Nat.{ℕ, ◌*◌}
use mathlib.Core.Path.{ap}
use native.Mathlib.Omega.{arith}
use Rattle.walk.specs.Row.{outlined}
use Rattle.walk.proofs.Grid.{row_room}
use Rattle.stepping.proofs.Points.{start_column<}
use Rattle.stepping.proofs.Rows.{columns≤, row_some, row_end≤}
use Rattle.stepping.proofs.Going.{start_row_inside, walking_from, walking_size, walking_inside, walking_below, walking_count, walking_few, walking_on, walking_counted, walking_ends, above_few}
use Rattle.stepping.proofs.step_rows.Goals as goal

pub overflow_add-run : goal.overflow_add-run
overflow_add-run c =
    let k = start_column< c.args.grid.screen c.args.grid.allowed (outlined c.args.figure.edges) c.requires.on_screen in
    let f = c.requires.start.1 in
    omega (arith, columns≤ c.args.grid.screen c.args.grid.allowed)

pub step_row-step-requires : goal.step_row-step-requires
step_row-step-requires c =
    let l = c.loop-row in
    let d = c.args.grid.screen in
    let ok = c.args.grid.allowed in
    let e = c.args.figure.edges in
    let on = c.requires.on_screen in
    let columns = c.requires.meeting.columns in
    let rows = c.requires.meeting.rows in
    let w = l.invariant in
    let i = (start_row_inside d ok e on rows).from in
    let b = walking_from d ok e on w in
    let within = rows.within in
    let m = rows.sound l.row (record { from = omega arith; before = omega arith }) in
    let n = walking_inside d ok e on columns w in
    record { meeting_columns = columns; row_bound = (omega arith, m, n.0, n.1); hit_in = walking_below d ok e on (omega arith) m w }

pub overflow_add-tests : goal.overflow_add-tests
overflow_add-tests c =
    let d = c.args.grid.screen in
    let ok = c.args.grid.allowed in
    let e = c.args.figure.edges in
    let on = c.requires.on_screen in
    let w = c.loop-row.invariant in
    let columns = c.requires.meeting.columns in
    let a = walking_few d ok e on w in
    let i = (walking_inside d ok e on columns w).1 in
    let within = columns.within in
    let b = above_few d ok e on (omega arith) c.step_row-step.ensures in
    omega arith

pub append-count-requires : goal.append-count-requires
append-count-requires c =
    let l = c.loop-row in
    let d = c.args.grid.screen in
    let ok = c.args.grid.allowed in
    let e = c.args.figure.edges in
    let on = c.requires.on_screen in
    let w = c.requires.meeting.rows.within in
    let m = ap (λ (x : ℕ). l.row * x) c.columns-columns.ensures in
    let r = row_room d ok {row = l.row} (omega arith) in
    let f = c.step_row-step.ensures.row_tests in
    let a = row_some d ok (outlined e) f in
    let b = row_end≤ d ok (outlined e) f in
    let n = walking_count d ok e on l.invariant in
    let y = walking_size d ok e on l.invariant in
    (omega arith, omega arith, omega arith, omega arith)

pub loop-row-preserved : goal.loop-row-preserved
loop-row-preserved c =
    let l = c.loop-row in
    let w = c.requires.meeting.rows.within in
    let append = c.append-count.ensures in
    walking_on c.args.grid.screen c.args.grid.allowed c.args.figure.edges c.requires.on_screen c.columns-columns.ensures (omega arith) c.step_row-step.ensures
    append.run append.words l.invariant

pub overflow_sub-result : goal.overflow_sub-result
overflow_sub-result c =
    let d = c.args.grid.screen in
    let ok = c.args.grid.allowed in
    let e = c.args.figure.edges in
    let on = c.requires.on_screen in
    let rows = c.requires.meeting.rows in
    let i = (start_row_inside d ok e on rows).before in
    walking_counted d ok e on c.args.spans.rows rows (omega arith) c.loop-row.invariant

pub returns : goal.returns
returns c =
    let d = c.args.grid.screen in
    let ok = c.args.grid.allowed in
    let e = c.args.figure.edges in
    let on = c.requires.on_screen in
    let rows = c.requires.meeting.rows in
    let i = (start_row_inside d ok e on rows).before in
    let t = ok.tiles≤ in
    walking_ends d ok e on c.args.spans.rows rows (omega arith) (omega arith) c.loop-row.invariant
