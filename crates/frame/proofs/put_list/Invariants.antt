-- `put_list`: stretch after stretch of the list is copied behind the other, and with none left all of it is.
use mathlib.Core.Path.{◌≡◌}
use Prim.Native.Nat.{ℕ, ◌+◌, ◌-◌}
use lib.ListN.{length}
use Rattle.pool.specs.Words.{tile_word}
use Rattle.pool.specs.Editions.{layout_for}
use Rattle.pool.specs.Lists.{list_of}
use Rattle.lists.specs.Reach.{Among}
use Rattle.frame.proofs.Copying.{Copying}
use Rattle.frame.proofs.put_list.Given as goal

abbrev pub invariant-loop-next : goal.invariant-loop-next
invariant-loop-next l =
    let L = layout_for l.lists.layout in
    (t : ℕ) → Among L l.pool l.lists.tiles t → l.initial.link ≡ tile_word L l.pool t 1 → l.end ≡ l.at + length (list_of L l.lists.tiles l.pool t) → Copying L l.lists.tiles l.pool t l.initial.list l.at l.list l.link l.next

abbrev pub decreases-loop-next : goal.decreases-loop-next
decreases-loop-next l = l.end - l.next
