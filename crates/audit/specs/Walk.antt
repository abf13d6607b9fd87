-- What the parts of the audit find in the words of a pool, whose blocks start at `from`.
use Rattle.std.specs.Prelude.{◌≡◌, Option, Some, None, Bool, true, false, List, ℕ, suc, ◌+◌, ◌*◌, ◌<◌, ◌≤◌, get_or}
use Rattle.numbers.specs.Ceil.{ceil}
use Rattle.pool.specs.Words.{Layout, header_word, tile_word}
use Rattle.pool.specs.State.{last_link, times}
use Rattle.audit.specs.Chain.{follow, next, Run, times_in_first}

-- where tile t starts
abbrev pub tile_start : Layout → (t : ℕ) → ℕ
tile_start L t = L.header + L.tile * t

-- where block b starts
abbrev pub block_start : Layout → (from b : ℕ) → ℕ
block_start L from b = from + suc L.ids * b

-- word k of block b
abbrev pub block_word_from : Layout → List ℕ → (from b k : ℕ) → ℕ
block_word_from L p from b k = get_or p (block_start L from b + k) 0

-- no block is marked twice, by the marks v and as often as `count` says
abbrev pub Apart : (n : ℕ) (v : List ℕ) (count : ℕ → ℕ) → Type 0
Apart n v count = (b : ℕ) → b < n → get_or v b 0 + count b ≤ 1

-- w has the marks of v, and for each block as many more as `count` says
abbrev pub Marked : (v w : List ℕ) (count : ℕ → ℕ) → Type 0
Marked v w count = (b : ℕ) → get_or w b 0 ≡ get_or v b 0 + count b

-- the answer r of a test that marks blocks: P holds, and each was not marked and now is; or not both
pub record Passes (r : Bool) (P : Type 0) (n : ℕ) (v w : List ℕ) (count : ℕ → ℕ) : Type 0 where
  pub yes : r ≡ true → P × Marked v w count
  pub no : r ≡ false → P → Apart n v count → ⊥

-- tile t's mark is at least its entries, and at most what n blocks hold
pub record MarkRight (L : Layout) (p : List ℕ) (n t : ℕ) : Type 0 where
  pub above : tile_word L p t 0 ≤ tile_word L p t 3
  pub below : tile_word L p t 3 ≤ L.ids * n

module _ (L : Layout) (p : List ℕ) (from : ℕ) where
  -- the s blocks that the links lead to from `link` on
  abbrev pub chain_from : (s link : ℕ) → List ℕ
  chain_from s link = follow (next L (block_word_from L p from)) s link

  module _ (n link q s : ℕ) (v w : List ℕ) where
    pub record Walks (last : ℕ) : Type 0 where
      pub run : Run L (block_word_from L p from) n link q s
      pub last_is : last ≡ last_link 0 (chain_from s link)
      pub marked : Marked v w (λ b. times b (chain_from s link))

    -- the s blocks from `link` on are a chain with q entries, whose blocks were not marked and now are; or they are none
    abbrev pub WalkSays : Option ℕ → Type 0
    WalkSays None = Run L (block_word_from L p from) n link q s → Apart n v (λ b. times b (chain_from s link)) → ⊥
    WalkSays (Some last) = Walks last

  -- the blocks of tile t, as many as its entries need
  abbrev pub chain_of : (t : ℕ) → List ℕ
  chain_of t = chain_from (ceil (tile_word L p t 0) L.ids) (tile_word L p t 1)

  -- the free blocks, as many as word 4 says
  abbrev pub free_of : List ℕ
  free_of = chain_from (header_word p 4) (header_word p 5)

  -- tile t has its chain, names its last block, and its mark is right
  pub record TileRight (n t : ℕ) : Type 0 where
    pub run : Run L (block_word_from L p from) n (tile_word L p t 1) (tile_word L p t 0) (ceil (tile_word L p t 0) L.ids)
    pub last : tile_word L p t 2 ≡ last_link 0 (chain_of t)
    pub mark : MarkRight L p n t

  abbrev pub TilesRight : (n count : ℕ) → Type 0
  TilesRight n count = (t : ℕ) → t < count → TileRight n t

  abbrev pub FreeRight : (n : ℕ) → Type 0
  FreeRight n = Run L (block_word_from L p from) n (header_word p 5) 0 (header_word p 4)

  -- the tiles and the free blocks have their chains, and each of the n blocks stands in one of them, once
  pub record ChainsRight (n count : ℕ) : Type 0 where
    pub tiles : TilesRight n count
    pub free : FreeRight n
    pub once : (b : ℕ) → b < n → times_in_first b chain_of count + times b free_of ≡ 1
