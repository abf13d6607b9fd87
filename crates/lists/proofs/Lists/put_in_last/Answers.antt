-- `put_in_last`: its stores are those of `append_in`.
use Prim.Native.Nat.{◌-◌}
use native.Mathlib.Nat.{mod-lt}
use Rattle.pool.specs.Editions.{layout_for}
use Rattle.lists.specs.Reach.{BlockIn}
use Rattle.lists.proofs.Reaches.{block_reach}
use Rattle.pool.specs.Words.{tile_set, block_set}
use Rattle.lists.specs.Appending.{append_in}
use native.Mathlib.Omega.{arith}
use Rattle.lists.proofs.Lists.put_in_last.Goals as goal
use Rattle.lists.proofs.Lists.put_in_last.Goals.{After-remainder}

-- the place of the id lies in the pool
place_in : (c : After-remainder) → let a = c.args in
    BlockIn (layout_for a.self.layout) a.self.tiles a.pool.now (c.tile_word-last.result - 1) c.remainder.result
place_in c =
    rw (c.tile_word-last.ensures, c.remainder.ensures)
    (block_reach _ _ c.args.pool.now _ _ c.requires.block (omega (arith, mod-lt c.wide.result c.requires.sized.fair.ids>)))

pub returns : goal.returns
unfolding append_in tile_set block_set
returns c =
    rw (c.set_entries.ensures, c.block_index.ensures, c.remainder.ensures, c.wide.ensures, c.tile_word-last.ensures, c.tile_word-entries.ensures)
