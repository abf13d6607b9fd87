-- What an append does to the words, and how many blocks it takes.
use Rattle.std.specs.Prelude.{◌≡◌, Bool, true, false, List, [], ◌∷◌, ℕ, ◌+◌, ◌-◌, ◌%◌, ◌≤◌, ◌<◌, max, eqb}
use Rattle.numbers.specs.Flag.{flagged, plain, is_flagged}
use Rattle.numbers.specs.Sum.{one}
use Rattle.pool.specs.Words.{Layout, header_word, tile_word, block_word, header_set, tile_set, block_set}
use Rattle.pool.specs.State.{times}

abbrev pub pick : {A : Type 0} → Bool → A → A → A
pick true a b = a
pick false a b = b

-- whether q entries fill their blocks, so that one more takes a block: q is a multiple of `ids`, zero included
abbrev pub multiple : (ids q : ℕ) → Bool
multiple ids q = eqb (q % ids) 0

-- how many of the tiles ts take a block with their next entry
unfoldable pub need : Layout → List ℕ → (ts : List ℕ) → ℕ
need L p [] = 0
need L p (t ∷ ts) = one (multiple L.ids (tile_word L p t 0)) + need L p ts

-- tile t has q entries, and its mark is what it was, or q where that is greater
unfoldable pub counted : Layout → List ℕ → (t q : ℕ) → List ℕ
counted L p t q = tile_set L (tile_set L p t 3 (max (tile_word L p t 3) q)) t 0 q

-- an entry goes into the last block of tile t, which has room
unfoldable pub append_in : Layout → (T : ℕ) → List ℕ → (t entry : ℕ) → List ℕ
append_in L T p t entry =
    counted L (block_set L T p (tile_word L p t 2 - 1) (tile_word L p t 0 % L.ids) entry) t (tile_word L p t 0 + 1)

-- block b, the head of the free chain, leaves it
unfoldable pub take_head : Layout → (T : ℕ) → List ℕ → (b : ℕ) → List ℕ
take_head L T p b = block_set L T (header_set (header_set p 5 (block_word L T p b L.ids)) 4 (header_word p 4 - 1)) b L.ids 0

-- it is taken for tile t, and the entry stands in it
unfoldable pub take_block : Layout → (T : ℕ) → List ℕ → (t b entry : ℕ) → List ℕ
take_block L T p t b entry = counted L (tile_set L (block_set L T (take_head L T p b) b 0 entry) t 2 (b + 1)) t (tile_word L p t 0 + 1)

-- it is the tile's first block
unfoldable pub append_first : Layout → (T : ℕ) → List ℕ → (t entry : ℕ) → List ℕ
append_first L T p t entry = tile_set L (take_block L T p t (header_word p 5 - 1) entry) t 1 (header_word p 5)

-- or the link of the tile's last block leads to it
unfoldable pub append_next : Layout → (T : ℕ) → List ℕ → (t entry : ℕ) → List ℕ
append_next L T p t entry =
    block_set L T (take_block L T p t (header_word p 5 - 1) entry) (tile_word L p t 2 - 1) L.ids (header_word p 5)

-- one entry more at the end of tile t's list
unfoldable pub append : Layout → (T : ℕ) → List ℕ → (t entry : ℕ) → List ℕ
append L T p t entry =
    pick (multiple L.ids (tile_word L p t 0))
    (pick (eqb (tile_word L p t 0) 0) (append_first L T p t entry) (append_next L T p t entry))
    (append_in L T p t entry)

-- the same for each of the tiles ts, in order; entry t is what tile t gains
unfoldable pub append_all : Layout → (T : ℕ) → List ℕ → (ts : List ℕ) → (entry : ℕ → ℕ) → List ℕ
append_all L T p [] entry = p
append_all L T p (t ∷ ts) entry = append_all L T (append L T p t (entry t)) ts entry

-- the same for tiles that words name, each with a flag: what such a tile gains is the id with that flag
unfoldable pub append_named : Layout → (T : ℕ) → List ℕ → (named : List ℕ) → (id : ℕ) → List ℕ
append_named L T p [] id = p
append_named L T p (w ∷ ws) id = append_named L T (append L T p (plain w) (flagged id (is_flagged w))) ws id

-- what such tiles gain, by their numbers
abbrev pub Gained : (entry : ℕ → ℕ) (id : ℕ) (named : List ℕ) → Type 0
Gained entry id [] = Unit {0}
Gained entry id (w ∷ ws) = (entry (plain w) ≡ flagged id (is_flagged w)) × Gained entry id ws

-- ts are tiles among T, none of them twice
pub record Distinct (T : ℕ) (ts : List ℕ) : Type 0 where
  pub once : (t : ℕ) → times t ts ≤ 1
  pub below : (t : ℕ) → 0 < times t ts → t < T
