-- The pool as a list of words, and its three kinds of word: of the header, of a tile, of a block.
use Rattle.std.specs.Prelude.{Bool, true, false, cond, List, ℕ, suc, ◌+◌, ◌*◌, ◌-◌, ◌<◌, eqb, get_or, set}
use Rattle.numbers.specs.Flag.{flag}

-- What one edition of the pool differs from another in.
pub record Layout : Type 0 where
  -- words of the header
  pub header : ℕ
  -- words of a tile: entries, first block + 1, last block + 1, mark
  pub tile : ℕ
  -- entries in a block; a block has one word more, its link
  pub ids : ℕ
  -- entries are below this
  pub limit : ℕ
  -- what stands where no entry is
  pub poison : ℕ

-- ids are below this; an entry is an id, plus as much where the tile is wholly covered
abbrev pub id_limit : ℕ
id_limit = flag

-- the first edition
abbrev pub edition : Layout
edition = record { header = 8; tile = 4; ids = 31; limit = 33554432; poison = 0xDEADBEEF }

-- the second edition, by the words of a block: the header has ten, and all but the last of a block are for entries
abbrev pub second : (words : ℕ) → Layout
second words = record { header = 10; tile = edition.tile; ids = words - 1; limit = edition.limit; poison = edition.poison }

-- the layouts that there are
pub data Known : Layout → Type 0 where
  one : Known edition
  two_32 : Known (second 32)
  two_64 : Known (second 64)

-- whether a header of so many words and blocks with so many ids are those of a layout that there is: 8 and 31, 10 and 31, or 10 and 63
abbrev pub is_edition : (header ids : ℕ) → Bool
is_edition header ids = cond (eqb header 8) (eqb ids 31) (cond (eqb header 10) (cond (eqb ids 31) true (eqb ids 63)) false)

-- what the laws ask of a layout
pub record Fair (L : Layout) : Type 0 where
  pub header> : 7 < L.header
  pub tile> : 3 < L.tile
  pub ids> : 0 < L.ids

-- where the blocks start, after T tiles
unfoldable pub start : Layout → (T : ℕ) → ℕ
start L T = L.header + L.tile * T

-- the room that T tiles and N blocks need
unfoldable pub room : Layout → (T N : ℕ) → ℕ
room L T N = start L T + suc L.ids * N

-- word k of the header
unfoldable pub header_word : List ℕ → (k : ℕ) → ℕ
header_word p k = get_or p k 0

-- the layout of given words: word 6 tells the editions apart, and in the second one word 8 the block sizes
unfoldable pub layout_of : List ℕ → Layout
layout_of p = cond (eqb (header_word p 6) 10) (cond (eqb (header_word p 8) 64) (second 64) (second 32)) edition

-- word i of tile t
unfoldable pub tile_word : Layout → List ℕ → (t i : ℕ) → ℕ
tile_word L p t i = get_or p (L.header + L.tile * t + i) 0

-- word k of block b, in a pool of T tiles; word `ids` is the link
unfoldable pub block_word : Layout → (T : ℕ) → List ℕ → (b k : ℕ) → ℕ
block_word L T p b k = get_or p (start L T + suc L.ids * b + k) 0

-- the words with another in one such place
unfoldable pub header_set : List ℕ → (k v : ℕ) → List ℕ
header_set p k v = set p k v

unfoldable pub tile_set : Layout → List ℕ → (t i v : ℕ) → List ℕ
tile_set L p t i v = set p (L.header + L.tile * t + i) v

unfoldable pub block_set : Layout → (T : ℕ) → List ℕ → (b k v : ℕ) → List ℕ
block_set L T p b k v = set p (start L T + suc L.ids * b + k) v
