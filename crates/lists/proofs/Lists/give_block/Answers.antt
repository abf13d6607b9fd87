-- `give_block`: its stores are those of `give_block`.
use native.Mathlib.Omega.{arith}
use Rattle.pool.specs.Words.{header_word, header_set, block_set}
use Rattle.lists.specs.Releasing.{give_block}
use Rattle.lists.proofs.Lists.give_block.Goals as goal

pub overflow_add-pool-2 : goal.overflow_add-pool-2
unfolding header_word
overflow_add-pool-2 c = omega arith

pub returns : goal.returns
unfolding give_block header_word header_set block_set
returns c = rw (c.block_index.ensures, c.poison.ensures)
