-- `walk::walk_row` meets its contract. The edges in the row decide of each column of the span; the first touched one and the run from it are all the touched tiles
-- of the row.
use Prim.Native.Nat.{ℕ, ◌*◌, ◌+◌}
use mathlib.Core.Path.{ap, subst, ◌∙◌}
use native.Mathlib.Omega.{arith}
use lib.ListN.{set, length-set}
use Rattle.numbers.specs.Flag.{flagged, plains}
use Rattle.numbers.specs.Says.{Says}
use Rattle.screen.proofs.Laws.{columns≥}
use Rattle.touch.specs.declared.RowEdges.{RowEdges}
use Rattle.walk.specs.Lists.{Words}
use Rattle.walk.specs.Row.{ClearIn, EnclosedIn, Tested, First, RunIn}
use Rattle.walk.proofs.Grid.{row_room, row_without, row_named}
use borrow.Author.Rules.{rules}
use Rattle.walk.proofs.walk_row.Goals as goal

pub first_touched-first-requires : goal.first_touched-first-requires
first_touched-first-requires c = c.requires.columns_meet.within

pub returns-then-span-first : goal.returns-then-span-first
returns-then-span-first c =
    let d = c.args.grid.screen in
    let f = c.args.figure in
    let at = c.requires.row_bound in
    let found = c.first_touched-first in
    let first = subst (λ (e : RowEdges). First (ClearIn d e) c.args.span found.result.column) c.edges_in_row-in_row.ensures.is found.ensures.column in
    λ old g. (row_without d c.args.grid.allowed f.edges f.outline c.args.row at.0 at.1 c.args.span c.requires.columns_meet first (search rules) g.0, g.1)

pub overflow_mul-base : goal.overflow_mul-base
overflow_mul-base c =
    let e = ap (λ (x : ℕ). c.args.row * x) c.columns.ensures in
    omega (arith, row_room c.args.grid.screen c.args.grid.allowed c.requires.row_bound.0)

pub overflow_add-base : goal.overflow_add-base
overflow_add-base c =
    let e = ap (λ (x : ℕ). c.args.row * x) c.columns.ensures in
    omega (arith, row_room c.args.grid.screen c.args.grid.allowed c.requires.row_bound.0, c.requires.columns_meet.within)

pub flagged-requires : goal.flagged-requires
flagged-requires c =
    let e = ap (λ (x : ℕ). c.args.row * x) c.columns.ensures in
    omega (arith, row_room c.args.grid.screen c.args.grid.allowed c.requires.row_bound.0, c.requires.columns_meet.within)

pub bounds-list-wide : goal.bounds-list-wide
bounds-list-wide c =
    omega (arith, row_room c.args.grid.screen c.args.grid.allowed c.requires.row_bound.0, columns≥ c.args.grid.screen c.args.grid.allowed)

pub overflow_add-count : goal.overflow_add-count
overflow_add-count c = omega (arith, row_room c.args.grid.screen c.args.grid.allowed c.requires.row_bound.0)

pub append_run-requires : goal.append_run-requires
append_run-requires c =
    let e = ap (λ (x : ℕ). c.args.row * x) c.columns.ensures in
    let within = c.requires.columns_meet.within in
    let few = row_room c.args.grid.screen c.args.grid.allowed c.requires.row_bound.0 in record {
      in_columns = (within, omega arith);
      count_bound = (omega arith, omega arith, simp length-set (omega arith));
    }

pub returns : goal.returns
returns c =
    let d = c.args.grid.screen in
    let ok = c.args.grid.allowed in
    let f = c.args.figure in
    let row = c.args.row in
    let in-row = c.requires.row_bound in
    let found = c.first_touched-first in
    let column = found.result.column in
    let edges = c.edges_in_row-in_row.ensures.is in
    let columns = c.columns.ensures in
    let at = c.wide.ensures in
    let word = c.flagged.ensures ∙ (λ i. flagged (row * columns i + column) found.result.whole) in
    let run = c.append_run in
    let exit = run.new.list in
    λ old.
    row_named d ok f.edges f.outline row in-row.0 in-row.1 c.args.span c.requires.columns_meet old c.args.list.now exit
    (subst (λ (e : RowEdges). First (ClearIn d e) c.args.span column) edges found.ensures.column) (search rules)
    (subst (λ (e : RowEdges). Says found.result.whole (EnclosedIn d e column)) edges (found.ensures.whole (search rules)))
    (omega (arith, row_room d ok in-row.0, columns≥ d ok))
    (subst (λ (P : Type 0). P)
    (λ i. RunIn (ClearIn d (edges i)) (row * columns i) (record { start = column + 1; end = c.args.span.end }) (c.args.count + 1) run.result
    (plains (set c.args.list.now (at i) (word i))) (plains exit))
    run.ensures.run)
    (subst (λ (P : Type 0). P)
    (λ i. Words (Tested d (edges i) (row * columns i)) (c.args.count + 1) run.result (set c.args.list.now (at i) (word i)) exit)
    run.ensures.words)
