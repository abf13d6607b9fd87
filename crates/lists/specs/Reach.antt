-- What the functions on words ask of numbers: that the words that they name lie in the pool, and that what they count fits a word.
use Rattle.std.specs.Prelude.{ℕ, suc, ◌+◌, ◌*◌, ◌-◌, ◌^◌, ◌≤◌, ◌<◌, ◌≡◌, Bool, List, length}
use Rattle.numbers.specs.Flag.{flagged}
use Rattle.pool.specs.Words.{Layout, start, header_word, tile_word}
use Rattle.pool.specs.Sound.{Sound, tiles_of}
use Rattle.pool.specs.Editions.{Sized}
use Rattle.lists.specs.Appending.{need, Distinct}

-- word i of tile t lies in the pool
abbrev pub TileIn : Layout → List ℕ → (t i : ℕ) → Type 0
TileIn L p t i = L.header + L.tile * t + i < length p

-- word k of block b does
abbrev pub BlockIn : Layout → (T : ℕ) → List ℕ → (b k : ℕ) → Type 0
BlockIn L T p b k = start L T + suc L.ids * b + k < length p

-- a sound pool of T tiles, and one of its tiles
pub record Among (L : Layout) (p : List ℕ) (T t : ℕ) : Type 0 where
  pub sound : Sound L p
  pub sized : Sized L
  pub tiles : T ≡ tiles_of p
  pub tile : t < T

-- a sound pool of T tiles, and some of its tiles, none of them twice
pub record AllAmong (L : Layout) (p : List ℕ) (T : ℕ) (ts : List ℕ) : Type 0 where
  pub sound : Sound L p
  pub sized : Sized L
  pub tiles : T ≡ tiles_of p
  pub distinct : Distinct T ts

-- such tiles, to which an id can be appended, with a flag or without
pub record Appendable (L : Layout) (p : List ℕ) (T : ℕ) (ts : List ℕ) (id : ℕ) : Type 0 where
  pub among : AllAmong L p T ts
  pub in_range : (whole : Bool) → flagged id whole < L.limit
  pub enough : need L p ts ≤ header_word p 4

-- a tile whose last block has room
pub record Roomy (L : Layout) (p : List ℕ) (T t : ℕ) : Type 0 where
  pub sized : Sized L
  pub tile : TileIn L p t 3
  pub last : 0 < tile_word L p t 2
  pub block : BlockIn L T p (tile_word L p t 2 - 1) L.ids
  pub fits : tile_word L p t 0 + 1 < 2 ^ 32

-- a block that is to be taken for a tile
pub record Takeable (L : Layout) (p : List ℕ) (T t b : ℕ) : Type 0 where
  pub sized : Sized L
  pub tile : TileIn L p t 3
  pub block : BlockIn L T p b L.ids
  pub free : 0 < header_word p 4
  pub number : b + 1 < 2 ^ 32
  pub fits : tile_word L p t 0 + 1 < 2 ^ 32

-- a block that is to be given back
pub record Givable (L : Layout) (p : List ℕ) (T b : ℕ) : Type 0 where
  pub sized : Sized L
  pub block : BlockIn L T p b L.ids
  pub number : b + 1 < 2 ^ 32
  pub fits : header_word p 4 + 1 < 2 ^ 32
