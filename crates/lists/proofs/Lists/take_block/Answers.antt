-- `take_block`: its stores are those of `take_block`.
use Rattle.pool.specs.Words.{tile_set, block_set}
use Rattle.lists.specs.Appending.{take_block}
use Rattle.lists.proofs.Lists.take_block.Goals as goal

pub returns : goal.returns
unfolding take_block tile_set block_set
returns c =
    rw (c.set_entries.ensures, c.tile_index.ensures, c.block_index.ensures, c.take_head.ensures, c.tile_word-entries.ensures)
