-- `stretch_at`: the words of the block that the link names lie in the pool.
use mathlib.Core.Path.{◌∙◌}
use native.Mathlib.Omega.{arith}
use Rattle.frame.proofs.stretch_at.Goals as goal

pub returns : goal.returns
returns c = record { at_is = c.block_index.ensures ∙ omega arith; count_is = c.min.ensures; link_is = c.block_word.ensures }
