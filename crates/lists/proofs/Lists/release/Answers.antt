-- `release`: to give back the chain that is left ends in the words that are promised, and what is left and what was given back are all of its blocks.
-- Then the tile's words are set, but for its mark.
use mathlib.Core.Path.{refl}
use native.Mathlib.Omega.{arith}
use borrow.Author.Rules.{rules}
use lib.ListN.{length-set}
use Rattle.lists.proofs.Reaches.{tile_in}
use Rattle.lists.proofs.ReleaseLoop.{giving_start, giving_block, giving_step, giving_end, release_stores}
use Rattle.lists.proofs.Lists.release.Goals as goal

pub tile_word-link-requires : goal.tile_word-link-requires
tile_word-link-requires c = tile_in c.requires (omega arith)

pub loop-link-init : goal.loop-link-init
loop-link-init c = (refl, rw c.tile_word-link.ensures (giving_start c.requires))

pub block_word-link-requires : goal.block_word-link-requires
block_word-link-requires c =
    let g = giving_block c.loop-link.invariant.1 c.loop-link-test.true in
    g.1.block

pub give_block-requires : goal.give_block-requires
give_block-requires c =
    let g = giving_block c.loop-link.invariant.1 c.loop-link-test.true in
    g.1

pub loop-link-preserved : goal.loop-link-preserved
loop-link-preserved c =
    (search rules, giving_step c.loop-link.invariant.1 c.loop-link-test.true _ _ _ (omega arith) c.give_block.ensures c.block_word-link.ensures)

pub bounds-pool-tile_index : goal.bounds-pool-tile_index
bounds-pool-tile_index c = omega (arith, tile_in c.requires {i = 3} (omega arith), c.tile_index.ensures, c.loop-link.invariant.0)

pub bounds-pool-tile_index-2 : goal.bounds-pool-tile_index-2
bounds-pool-tile_index-2 c = simp length-set (omega (arith, tile_in c.requires {i = 3} (omega arith), c.tile_index-2.ensures, c.loop-link.invariant.0))

pub bounds-pool-tile_index-3 : goal.bounds-pool-tile_index-3
bounds-pool-tile_index-3 c = simp length-set (omega (arith, tile_in c.requires {i = 3} (omega arith), c.tile_index-3.ensures, c.loop-link.invariant.0))

pub returns-clause-words : goal.returns-clause-words
returns-clause-words c =
    release_stores _ _ _ _ _ _ _ _ (giving_end c.loop-link.invariant.1 c.loop-link-test.false).0 c.tile_index.ensures c.tile_index-2.ensures c.tile_index-3.ensures
