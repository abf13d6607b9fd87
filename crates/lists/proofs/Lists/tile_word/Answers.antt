-- `tile_word`: the word stands at its index.
use Rattle.pool.specs.Words.{tile_word}
use Rattle.lists.proofs.Lists.tile_word.Goals as goal

pub returns : goal.returns
unfolding tile_word
returns c = rw c.tile_index.ensures
