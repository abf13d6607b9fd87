-- `entry_at`: of the chain that is left, the id at the place that is left is the one asked for.
use mathlib.Core.Path.{◌≡◌}
use Prim.Native.Nat.{ℕ, ◌<◌}
use lib.ListN.{get_or}
use Rattle.pool.specs.Words.{tile_word}
use Rattle.pool.specs.Editions.{layout_for}
use Rattle.pool.specs.Sound.{blocks_of}
use Rattle.pool.specs.Lists.{list_of}
use Rattle.lists.specs.Reach.{Among}
use Rattle.lists.proofs.ReadLoop.{Reading}
use Rattle.lists.proofs.Lists.entry_at.Given as goal

abbrev pub invariant-loop-left : goal.invariant-loop-left
invariant-loop-left l =
    (t : ℕ) → Among (layout_for l.self.layout) l.pool l.self.tiles t → l.initial.link ≡ tile_word (layout_for l.self.layout) l.pool t 1 → l.place < tile_word (layout_for l.self.layout) l.pool t 0
    → Reading (layout_for l.self.layout) l.self.tiles (blocks_of l.pool) l.pool l.link l.left (get_or (list_of (layout_for l.self.layout) l.self.tiles l.pool t) l.place 0)

abbrev pub decreases-loop-left : goal.decreases-loop-left
decreases-loop-left l = l.left
