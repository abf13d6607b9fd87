-- `stepping::step_row` meets its contract: one test for each column of the run above up to the one found, one for each other tile of the run, and one for
-- each miss beside it; the wholly covered tiles are those that the tests told of.
use Prim.Native.Nat.{◌+◌, ◌<◌}
use mathlib.Core.Path.{sym, subst}
use mathlib.Core.Logic.{inl, inr}
use native.Mathlib.Omega.{arith}
use Rattle.walk.specs.Row.{EnclosedIn}
use Rattle.stepping.specs.Row.{Hull}
use Rattle.stepping.proofs.Hulls.{hull_of_one, hull_of_none}
use Rattle.stepping.proofs.Rows.{columns≤}
use Rattle.stepping.proofs.Tests.{found_before, row_found}
use Rattle.stepping.proofs.step_row.Goals as goal
use Rattle.stepping.proofs.step_row.Goals.{After-first_touched-column, Joined-whole, else-whole, else-above-column, then-whole, then-above-column}

-- the search ends before the run above does, and so in the row
found : (c : After-first_touched-column) → c.first_touched-column.result.column < c.args.above.end
found c =
    let s = c.args in
    let r = c.requires in
    found_before s.grid.screen s.grid.allowed s.figure.edges s.figure.outline s.span r.meeting_columns s.row r.row_bound.0 r.row_bound.1
    c.edges_in_row-in_row.ensures s.above r.row_bound.2 r.row_bound.3 r.hit_in c.first_touched-column.result.column c.first_touched-column.ensures.column

-- what is known of the tile that is found
known : (c : Joined-whole) → c.first_touched-column.result.column < c.args.above.end
    → Hull (EnclosedIn c.args.grid.screen c.edges_in_row-in_row.result.edges) c.args.span.end
    c.first_touched-column.result.column (c.first_touched-column.result.column + 1) c.if-whole.known
known c inside =
    let s = c.args in
    let P = EnclosedIn s.grid.screen c.edges_in_row-in_row.result.edges in
    let n = s.span.end in
    let first = c.first_touched-column in
    let k = first.result.column in
    let says = first.ensures.whole inside in
    elim c.if-whole.branch [ then-whole u ↦ subst (Hull P n k (k + 1)) (sym u.known-is) (hull_of_one P n k (says.yes u.if-whole.true)) | else-whole u ↦ subst (Hull P n k (k + 1)) (sym u.known-is) (hull_of_none P n k (says.no u.if-whole.false)) ]

pub overflow_add-known : goal.overflow_add-known
overflow_add-known c =
    let w = c.requires.meeting_columns.within in
    omega (arith, columns≤ c.args.grid.screen c.args.grid.allowed, found (goal.at.overflow_add-known c).After-first_touched-column)

pub overflow_add-column : goal.overflow_add-column
overflow_add-column c =
    let w = c.requires.meeting_columns.within in
    omega (arith, columns≤ c.args.grid.screen c.args.grid.allowed, found (goal.at.overflow_add-column c).After-first_touched-column)

pub right_from-right-requires : goal.right_from-right-requires
right_from-right-requires c =
    let f = found (goal.at.right_from-right-requires c).After-first_touched-column in
    (c.requires.meeting_columns.within, omega arith)

pub returns : goal.returns
returns c =
    let s = c.args in
    let r = c.requires in
    let n = s.span.end in
    let first = c.first_touched-column in
    let right = c.right_from-right in
    let left = c.left_from-left in
    let low = c.if-above-column in
    rw c.columns.ensures
    (row_found s.grid.screen s.grid.allowed s.figure.edges s.figure.outline s.span r.meeting_columns s.row r.row_bound.0 r.row_bound.1
    c.edges_in_row-in_row.ensures s.above r.row_bound.2 r.row_bound.3 r.hit_in first.result.column first.ensures.column
    right.ensures.reach
    (elim low.branch [ then-above-column u ↦ inl (u.if-above-column.true, u.low-is) | else-above-column u ↦ inr (u.if-above-column.false, u.low-is) ])
    left.ensures.back
    (left.ensures.whole n right.result.end
    (right.ensures.whole n first.result.column (known (goal.at.returns c).Joined-whole (found (goal.at.returns c).After-first_touched-column)))))
