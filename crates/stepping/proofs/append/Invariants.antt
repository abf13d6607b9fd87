-- `stepping::append` meets its contract. The invariant: the columns passed are a run, and each of its words is named.
use Prim.Native.Nat.{◌≤◌, ◌<◌}
use Rattle.numbers.specs.Flag.{plains}
use Rattle.walk.specs.Lists.{Words}
use Rattle.walk.specs.Row.{Run}
use Rattle.stepping.specs.Row.{Named}
use Rattle.stepping.proofs.append.Given as goal

abbrev pub invariant-loop-column : goal.invariant-loop-column
invariant-loop-column l =
    let r = l.fn.run in
    record {
      run : Run (λ k. (r.start ≤ k) × (k < r.end)) l.base r.start l.column l.count l.n (plains l.initial.list) (plains l.list);
      words : Words (Named l.base r l.whole) l.count l.n l.initial.list l.list;
    }
