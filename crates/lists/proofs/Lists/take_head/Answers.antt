-- `take_head`: its three stores are those of `take_head`.
use native.Mathlib.Omega.{arith}
use Rattle.pool.specs.Words.{header_word, block_word, header_set, block_set}
use Rattle.lists.specs.Appending.{take_head}
use Rattle.lists.proofs.Lists.take_head.Goals as goal

pub overflow_sub-pool : goal.overflow_sub-pool
unfolding header_word
overflow_sub-pool c = omega arith

pub returns : goal.returns
unfolding take_head block_set header_set header_word block_word
returns c = rw c.block_index-link.ensures
