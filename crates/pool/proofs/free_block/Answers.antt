-- `free_block`: the link to the next block, and then poison in its places, are the words of the definition.
use mathlib.Core.Path.{ap, ◌∙◌}
use native.Mathlib.Numerals.{add-one}
use lib.ListN.{length, length-set}
use Rattle.pool.specs.Editions.{layout_for}
use Rattle.pool.proofs.Written.{length-written, free_block_lem}
use Rattle.pool.proofs.free_block.Goals as goal

pub shape_of-pool : goal.shape_of-pool
shape_of-pool c = ap length c.fill.ensures ∙ length-written _ _ _ ∙ simp length-set

pub returns : goal.returns
returns c =
    free_block_lem (layout_for c.args.layout) _ _ _ _ _ _ (rw add-one at c.rising_link.ensures) c.fill.ensures
