-- `copy`: the first `done` words are written; the next eight begin no later than these end.
use mathlib.Core.Path.{◌≡◌}
use Prim.Native.Nat.{◌-◌, ◌≤◌}
use lib.ListN.{length, take}
use Rattle.pool.specs.Written.{written}
use Rattle.frame.proofs.copy.Given as goal

abbrev pub invariant-loop-done : goal.invariant-loop-done
invariant-loop-done l =
    (l.list ≡ written l.initial.list l.at (take l.done l.words)) × (l.done ≤ l.count) × (length l.list ≡ length l.initial.list)

abbrev pub decreases-loop-done : goal.decreases-loop-done
decreases-loop-done l = l.count - l.done
