-- `total_entries`: after t tiles, the total is the length of their lists, one after the other.
use mathlib.Core.Path.{◌≡◌}
use Prim.Native.Nat.{◌+◌, ◌<◌}
use native.Mathlib.Omega.{arith}
use lib.ListN.{length}
use Rattle.pool.specs.Editions.{layout_for}
use Rattle.frame.specs.Frame.{lists_of}
use Rattle.frame.proofs.Lists.{lists_longer, lists_fit}
use Rattle.frame.proofs.total_entries.Goals as goal
use Rattle.frame.proofs.total_entries.Goals.{After-entries-total}

-- the total with the next list
with-next : (c : After-entries-total) → let a = c.args in
    c.loop-t.total + c.entries-total.result ≡ length (lists_of (layout_for a.lists.layout) a.lists.tiles a.pool.now (c.loop-t.t + 1))
with-next c =
    let a = c.args in
    omega (arith, c.loop-t.invariant, c.entries-total.ensures.list, lists_longer (layout_for a.lists.layout) a.lists.tiles a.pool.now c.loop-t.t)

pub overflow_add-total : goal.overflow_add-total
overflow_add-total c =
    let h : c.loop-t.t < c.args.lists.tiles = omega (arith, c.loop-t-test.true, c.narrow-t-end.ensures) in
    omega (arith, with-next (goal.at.overflow_add-total c).After-entries-total, lists_fit c.requires.0 c.requires.1 c.requires.2 (c.loop-t.t + 1) (omega arith))
