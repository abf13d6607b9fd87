-- `release`: to give back the chain that is left ends in the words that are promised, and what is left and what was given back are all of its blocks.
-- Then the tile's words are set, but for its mark.
use mathlib.Core.Path.{◌≡◌}
use Prim.Native.Nat.{◌-◌}
use lib.ListN.{length}
use Rattle.numbers.specs.Ceil.{ceil}
use Rattle.pool.specs.Words.{tile_word}
use Rattle.pool.specs.Editions.{layout_for}
use Rattle.pool.specs.Sound.{blocks_of}
use Rattle.lists.specs.Releasing.{give_chain}
use Rattle.lists.proofs.ReleaseLoop.{Giving}
use Rattle.lists.proofs.Lists.release.Given as goal

abbrev pub invariant-loop-link : goal.invariant-loop-link
invariant-loop-link l =
    (length l.pool ≡ length l.initial.pool)
    × Giving (layout_for l.self.layout) l.self.tiles (blocks_of l.initial.pool) l.pool l.link l.given (give_chain (layout_for l.self.layout) l.self.tiles (tile_word (layout_for l.self.layout) l.initial.pool l.tile.0 0) (tile_word (layout_for l.self.layout) l.initial.pool l.tile.0 1) l.initial.pool)
    (ceil (tile_word (layout_for l.self.layout) l.initial.pool l.tile.0 0) l.self.layout.ids)

abbrev pub decreases-loop-link : goal.decreases-loop-link
decreases-loop-link l = ceil (tile_word (layout_for l.self.layout) l.initial.pool l.tile.0 0) l.self.layout.ids - l.given
