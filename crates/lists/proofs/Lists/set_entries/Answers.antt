-- `set_entries`: its two stores are those of `counted`.
use Rattle.pool.specs.Words.{tile_set}
use Rattle.lists.specs.Appending.{counted}
use Rattle.lists.proofs.Lists.set_entries.Goals as goal

pub returns : goal.returns
unfolding counted tile_set
returns c = rw (c.tile_index-2.ensures, c.tile_index.ensures, c.max.ensures, c.tile_word-mark.ensures)
