-- `entry_at`: of the chain that is left, the id at the place that is left is the one asked for.
use mathlib.Core.Path.{◌∙◌}
use native.Mathlib.Omega.{arith}
use Rattle.lists.proofs.Reaches.{tile_in}
use Rattle.lists.proofs.ReadLoop.{reading_start, reading_block, reading_step, reading_end}
use Rattle.lists.proofs.Lists.entry_at.Goals as goal

pub tile_word-link-requires : goal.tile_word-link-requires
tile_word-link-requires c = tile_in c.requires.among (omega arith)

pub loop-left-init : goal.loop-left-init
loop-left-init c = λ t M e h. rw (e, c.wide-left.ensures) (reading_start M _ h)

pub block_word-link-requires : goal.block_word-link-requires
block_word-link-requires c =
    let G = c.loop-left.invariant c.args.tile.0 c.requires.among c.tile_word-link.ensures c.requires.place_bound in
    (reading_block G).1

pub loop-left-preserved : goal.loop-left-preserved
loop-left-preserved c = λ t M e h. reading_step (c.loop-left.invariant t M e h) _ c.block_word-link.ensures (omega (arith, c.loop-left-test.true))

pub block_word-requires : goal.block_word-requires
block_word-requires c =
    let G = c.loop-left.invariant c.args.tile.0 c.requires.among c.tile_word-link.ensures c.requires.place_bound in
    omega (arith, reading_block G, c.loop-left-test.false)

pub returns : goal.returns
returns c =
    let G = c.loop-left.invariant c.args.tile.0 c.requires.among c.tile_word-link.ensures c.requires.place_bound in
    c.block_word.ensures ∙ reading_end G (omega (arith, c.loop-left-test.false))
