-- `stepping::append` meets its contract. The invariant: the columns passed are a run, and each of its words is named.
use Prim.Native.Nat.{◌+◌, ◌<◌}
use mathlib.Core.Bool.{◌&&◌}
use native.Mathlib.Omega.{arith}
use lib.Dec.{leb, ltb}
use lib.ListN.{length}
use Rattle.numbers.specs.Flag.{flag}
use Rattle.walk.proofs.Grid.{run_named}
use Rattle.walk.proofs.Lists.{words_more}
use Rattle.stepping.proofs.Hulls.{named}
use Rattle.stepping.proofs.append.Goals as goal

pub loop-column-preserved : goal.loop-column-preserved
loop-column-preserved c =
    let l = c.loop-column in
    let s = c.args in
    let r = l.invariant.run in
    let f = r.from≤ in
    let size = l.invariant.words.size in
    let at : l.n < length l.list = omega (arith, r.as_many) in
    let small : s.base + l.column < flag = omega arith in
    let w = c.flagged.ensures in
    record {
      run =
          rw (c.wide.ensures, w)
          (run_named _ s.list.now l.list r (omega arith, omega arith) at small (leb s.whole.start l.column && ltb l.column s.whole.end));
      words =
          rw (c.wide.ensures, w)
          (words_more (omega (arith, r.as_many)) l.invariant.words _ (named s.run s.whole small (omega arith) (omega arith)) at);
    }
