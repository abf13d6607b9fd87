-- The list of a tile: its entries in order, read off the words. An entry is an id with its flag, in one word.
use Rattle.std.specs.Prelude.{List, [], ◌∷◌, ◌++◌, ℕ, zero, suc, take}
use Rattle.pool.specs.Words.{Layout, tile_word, block_word}

-- f 0, f 1, .. : n numbers
abbrev pub table : (n : ℕ) → (ℕ → ℕ) → List ℕ
table zero f = []
table (suc n) f = f zero ∷ table n (λ k. f (suc k))

-- the places of a chain, one block after the other, from the block that a link names to the link 0, at most n blocks
abbrev pub gather : (ids : ℕ) (word : ℕ → ℕ → ℕ) (n link : ℕ) → List ℕ
gather ids word zero link = []
gather ids word (suc n) zero = []
gather ids word (suc n) (suc b) = table ids (word b) ++ gather ids word n (word b ids)

-- of the places of tile t's chain, as many from the front as it has entries
unfoldable pub list_of : Layout → (T : ℕ) → List ℕ → (t : ℕ) → List ℕ
list_of L T p t = take (tile_word L p t 0) (gather L.ids (block_word L T p) (tile_word L p t 0) (tile_word L p t 1))
