-- `append`: a tile with room in its last block takes the id there; any other takes the head of the free chain, as its first block or after its last.
-- That the words lie in the pool and the counts fit is what a sound pool says.
use mathlib.Core.Path.{◌≡◌, refl, ap, ◌∙◌, sym}
use Prim.Native.Nat.{ℕ, ◌-◌, ◌%◌, ◌<◌}
use native.Mathlib.Omega.{arith}
use Rattle.pool.specs.Words.{header_word, tile_word, tile_set, block_set}
use Rattle.pool.specs.Editions.{layout_for}
use Rattle.lists.specs.Reach.{BlockIn}
use Rattle.lists.proofs.Reaches.{tile_in, header_in, last_reach, roomy, takeable}
use Rattle.lists.proofs.Appends.{append_in_lem, append_first_lem, append-next}
use Rattle.lists.proofs.Lists.append.Goals as goal
use Rattle.lists.proofs.Lists.append.Goals.{After-remainder, Else-entries-eq0}

-- what is tested is the remainder of the tile's entries
left_is : (c : After-remainder) → let a = c.args in
    c.remainder.result ≡ tile_word (layout_for a.self.layout) a.pool.now a.tile.0 0 % a.self.layout.ids
left_is c = let a = c.args in c.remainder.ensures ∙ ap (λ (n : ℕ). n % a.self.layout.ids) (c.wide.ensures ∙ c.tile_word-entries.ensures)

-- where the tile has entries, the link of its last block lies in the pool
last_in : (c : Else-entries-eq0) → let a = c.args in
    (0 < c.tile_word-last.result) × BlockIn (layout_for a.self.layout) a.self.tiles a.pool.now (c.tile_word-last.result - 1) a.self.layout.ids
last_in c = rw c.tile_word-last.ensures (last_reach c.requires.among (λ z. c.if-entries-eq0.false (c.tile_word-entries.ensures ∙ z)))

pub tile_word-entries-requires : goal.tile_word-entries-requires
tile_word-entries-requires c = tile_in c.requires.among (omega arith)

pub put_in_last-requires : goal.put_in_last-requires
put_in_last-requires c = roomy c.requires.among (λ z. c.if-remainder-ne0.true (left_is (goal.at.put_in_last-requires c).After-remainder ∙ z))

pub returns-then-remainder-ne0 : goal.returns-then-remainder-ne0
returns-then-remainder-ne0 c =
    append_in_lem (layout_for c.args.self.layout) _ _ _ _ _ (λ z. c.if-remainder-ne0.true (left_is (goal.at.returns-then-remainder-ne0 c).After-remainder ∙ z)) c.put_in_last.ensures

pub bounds-pool-5 : goal.bounds-pool-5
bounds-pool-5 c = omega (arith, header_in c.requires.among.sound, c.requires.among.sized.fair.header>)

pub tile_word-last-requires : goal.tile_word-last-requires
tile_word-last-requires c = tile_in c.requires.among (omega arith)

pub overflow_sub-head : goal.overflow_sub-head
unfolding header_word
overflow_sub-head c = omega (arith, (takeable c.requires.among c.requires.tile_bound (sym (left_is (goal.at.overflow_sub-head c).After-remainder) ∙ c.if-remainder-ne0.false)).0)

pub take_block-requires : goal.take_block-requires
unfolding header_word
take_block-requires c = (takeable c.requires.among c.requires.tile_bound (sym (left_is (goal.at.take_block-requires c).After-remainder) ∙ c.if-remainder-ne0.false)).1

pub bounds-pool-tile_index : goal.bounds-pool-tile_index
bounds-pool-tile_index c = omega (arith, tile_in c.requires.among {i = 1} (omega arith), c.tile_index.ensures)

pub overflow_sub-last : goal.overflow_sub-last
overflow_sub-last c = omega (arith, (last_in (goal.at.overflow_sub-last c).Else-entries-eq0).0)

pub block_index-requires : goal.block_index-requires
block_index-requires c = omega (arith, (last_in (goal.at.block_index-requires c).Else-entries-eq0).1)

pub offset_bounds-pool-block_index : goal.offset_bounds-pool-block_index
offset_bounds-pool-block_index c = omega (arith, (last_in (goal.at.offset_bounds-pool-block_index c).Else-entries-eq0).1, c.block_index.ensures)

pub bounds-pool-block_index : goal.bounds-pool-block_index
bounds-pool-block_index c = omega (arith, (last_in (goal.at.bounds-pool-block_index c).Else-entries-eq0).1, c.block_index.ensures)

pub returns-then-entries-eq0 : goal.returns-then-entries-eq0
unfolding header_word tile_set
returns-then-entries-eq0 c =
    append_first_lem (layout_for c.args.self.layout) _ _ _ _ _ _ _ refl c.take_block.ensures (sym c.tile_word-entries.ensures ∙ c.if-entries-eq0.true) (rw c.tile_index.ensures)

pub returns-else-entries-eq0 : goal.returns-else-entries-eq0
unfolding header_word block_set
returns-else-entries-eq0 c =
    append-next (layout_for c.args.self.layout) _ _ _ _ _ _ _ refl c.take_block.ensures _ c.tile_word-last.ensures
    (sym (left_is (goal.at.returns-else-entries-eq0 c).After-remainder) ∙ c.if-remainder-ne0.false) (λ w. c.if-entries-eq0.false (c.tile_word-entries.ensures ∙ w)) (rw c.block_index.ensures)
