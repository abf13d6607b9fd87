-- `block_word`: the word stands at its index.
use Rattle.pool.specs.Words.{block_word}
use Rattle.lists.proofs.Lists.block_word.Goals as goal

pub returns : goal.returns
unfolding block_word
returns c = rw c.block_index.ensures
