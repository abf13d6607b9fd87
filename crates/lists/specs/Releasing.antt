-- What a release does to the words.
use Rattle.std.specs.Prelude.{List, ℕ, zero, suc, ◌+◌}
use Rattle.pool.specs.Words.{Layout, header_word, tile_word, block_word, header_set, tile_set, block_set}

-- poison in the first n places of block b
unfoldable pub fill : Layout → (T : ℕ) → List ℕ → (b n : ℕ) → List ℕ
fill L T p b zero = p
fill L T p b (suc n) = block_set L T (fill L T p b n) b n L.poison

-- block b is poisoned and made the head of the free chain
unfoldable pub give_block : Layout → (T : ℕ) → List ℕ → (b : ℕ) → List ℕ
give_block L T p b =
    header_set (header_set (block_set L T (fill L T p b L.ids) b L.ids (header_word p 5)) 5 (b + 1)) 4 (header_word p 4 + 1)

-- so are the blocks of a chain, in its order, from the block that a link leads to until the link 0, at most n blocks
unfoldable pub give_chain : Layout → (T n link : ℕ) → List ℕ → List ℕ
give_chain L T zero link p = p
give_chain L T (suc n) zero p = p
give_chain L T (suc n) (suc b) p = give_chain L T n (block_word L T p b L.ids) (give_block L T p b)

-- tile t's blocks are given back, and its words are those of an empty tile; its mark stays
unfoldable pub release : Layout → (T : ℕ) → List ℕ → (t : ℕ) → List ℕ
release L T p t =
    tile_set L (tile_set L (tile_set L (give_chain L T (tile_word L p t 0) (tile_word L p t 1) p) t 0 0) t 1 0) t 2 0
