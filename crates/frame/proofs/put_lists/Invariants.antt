-- `put_lists`: tile after tile its start is written and its list put behind the others; the last start is where the last list ends.
use Rattle.pool.specs.Editions.{layout_for}
use Rattle.frame.proofs.Lists.{Framing}
use Rattle.frame.proofs.put_lists.Given as goal

abbrev pub invariant-loop-t : goal.invariant-loop-t
invariant-loop-t l =
    Framing (layout_for l.lists.layout) l.lists.tiles l.pool l.initial.starts l.initial.entries l.starts l.entries l.next l.t
