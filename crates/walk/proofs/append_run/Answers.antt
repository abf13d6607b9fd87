-- `walk::append_run` meets its contract. The invariant: the columns passed are a run, and each of its words was tested.
use Prim.Native.Nat.{◌+◌, ◌<◌}
use mathlib.Core.Path.{sym, subst, ◌∙◌}
use mathlib.Core.Bool.{Bool}
use native.Mathlib.Omega.{arith}
use lib.ListN.{length}
use Rattle.numbers.specs.Flag.{flag}
use Rattle.numbers.specs.Says.{Says}
use Rattle.touch.proofs.Covering.{cover_says_clear, cover_says_enclosed}
use Rattle.walk.specs.Row.{ClearIn, EnclosedIn}
use Rattle.walk.proofs.Lists.{run_none, words_none, words_more}
use Rattle.walk.proofs.Grid.{tested, run_named}
use Rattle.walk.proofs.append_run.Goals as goal

pub loop-column-init : goal.loop-column-init
loop-column-init c = (run_none _ _ _ _ _, words_none _ _)

pub returns-then-not-is_touched : goal.returns-then-not-is_touched
returns-then-not-is_touched c =
    let l = c.loop-column in
    let cover = c.cover_in-next in record {
      run = record {
        stop = l.column;
        within = omega arith;
        run = l.invariant.0;
        ends = λ h. (cover_says_clear cover.result cover.ensures).no (sym c.is_touched.ensures ∙ c.if-not-is_touched.true);
      };
      words = l.invariant.1;
    }

pub bounds-list-wide : goal.bounds-list-wide
bounds-list-wide c = let r = c.loop-column.invariant.0 in omega (arith, r.as_many, r.from≤)

pub overflow_add-n : goal.overflow_add-n
overflow_add-n c = let r = c.loop-column.invariant.0 in omega (arith, r.as_many, r.from≤)

pub loop-column-preserved : goal.loop-column-preserved
loop-column-preserved c =
    let l = c.loop-column in
    let s = c.args in
    let d = s.grid.screen in
    let e = s.row.edges in
    let r = l.invariant.0 in
    let size = l.invariant.1.size in
    let cover = c.cover_in-next in
    let clear = (cover_says_clear cover.result cover.ensures).yes (sym c.is_touched.ensures ∙ c.if-not-is_touched.false) in
    let whole : Says c.is_whole.result (EnclosedIn d e l.column)
    = subst (λ (a : Bool). Says a (EnclosedIn d e l.column)) (sym c.is_whole.ensures) (cover_says_enclosed cover.result cover.ensures) in
    let at : l.n < length l.list = omega (arith, r.as_many, r.from≤) in
    let small : s.base + l.column < flag = omega arith in
    let w = c.flagged.ensures in (
      rw (c.wide.ensures, w) (run_named (ClearIn d e) s.list.now l.list r clear at small c.is_whole.result),
      rw (c.wide.ensures, w) (words_more (omega (arith, r.as_many, r.from≤)) l.invariant.1 _ (tested d e small (omega arith) whole) at),
    )

pub returns : goal.returns
returns c =
    let l = c.loop-column in
    record { run = record { stop = l.column; within = omega arith; run = l.invariant.0; ends = λ h. absurd (omega arith) }; words = l.invariant.1 }
