-- `total_entries`: after t tiles, the total is the length of their lists, one after the other.
use mathlib.Core.Path.{◌≡◌}
use lib.ListN.{length}
use Rattle.pool.specs.Editions.{layout_for}
use Rattle.frame.specs.Frame.{lists_of}
use Rattle.frame.proofs.total_entries.Given as goal

abbrev pub invariant-loop-t : goal.invariant-loop-t
invariant-loop-t l = l.total ≡ length (lists_of (layout_for l.lists.layout) l.lists.tiles l.pool l.t)
