-- What an append to several tiles and a release promise, said of the words before and after.
use Rattle.std.specs.Prelude.{◌≡◌, ◌≢◌, List, [], ◌∷◌, ◌++◌, ℕ, ◌+◌, ◌≤◌, ◌<◌, max, length, get_or}
use Rattle.numbers.specs.Ceil.{ceil}
use Rattle.pool.specs.Words.{Layout, room, header_word, tile_word, block_word}
use Rattle.pool.specs.State.{State, tile_of, times}
use Rattle.pool.specs.Sound.{Sound, tiles_of, blocks_of}
use Rattle.pool.specs.Lists.{list_of}
use Rattle.lists.specs.Appending.{need}
use Rattle.lists.specs.Steps.{append_all_state, release_state}

-- The words p, which say s, and q, which say r, differ at most in words 4 and 5 of the header, in the words of the tiles ts and of their blocks,
-- and in blocks that were free or are so now and not both.
pub record Kept (L : Layout) (T N : ℕ) (p q : List ℕ) (s r : State) (ts : List ℕ) : Type 0 where
  pub long : length q ≡ length p
  pub header : (k : ℕ) → k < L.header → k ≢ 4 → k ≢ 5 → header_word q k ≡ header_word p k
  pub tiles : (u : ℕ) → u < T → times u ts ≡ 0 → (i : ℕ) → i < L.tile → tile_word L q u i ≡ tile_word L p u i
  pub blocks : (u : ℕ) → u < T → times u ts ≡ 0 → (b : ℕ) → 0 < times b (tile_of s u).blocks
      → (k : ℕ) → k ≤ L.ids → block_word L T q b k ≡ block_word L T p b k
  pub free : (b : ℕ) → 0 < times b s.free → 0 < times b r.free → (k : ℕ) → k ≤ L.ids → block_word L T q b k ≡ block_word L T p b k
  -- the tail of the slice
  pub tail : (i : ℕ) → room L T N ≤ i → get_or q i 0 ≡ get_or p i 0

-- q is the sound pool p with one entry more at the end of the list of each of the tiles ts
pub record Appended (L : Layout) (p : List ℕ) (S : Sound L p) (q ts : List ℕ) (entry : ℕ → ℕ) : Type 0 where
  pub sound : Sound L q
  pub says : sound.state ≡ append_all_state L.ids S.state ts entry
  pub gains : (t : ℕ) → 0 < times t ts → list_of L (tiles_of p) q t ≡ list_of L (tiles_of p) p t ++ (entry t ∷ [])
  pub others : (u : ℕ) → u < tiles_of p → times u ts ≡ 0 → list_of L (tiles_of p) q u ≡ list_of L (tiles_of p) p u
  -- each mark is what it was, or the length of the list where that is greater
  pub marks : (u : ℕ) → u < tiles_of p → tile_word L q u 3 ≡ max (tile_word L p u 3) (length (list_of L (tiles_of p) q u))
  pub taken : header_word q 4 + need L p ts ≡ header_word p 4
  pub kept : Kept L (tiles_of p) (blocks_of p) p q S.state sound.state ts

-- q is the sound pool p with tile t empty
pub record Released (L : Layout) (p : List ℕ) (S : Sound L p) (q : List ℕ) (t : ℕ) : Type 0 where
  pub sound : Sound L q
  -- the blocks of the tile are free, each in the order of its chain made the new head
  pub says : sound.state ≡ release_state S.state t
  pub emptied : list_of L (tiles_of p) q t ≡ []
  pub others : (u : ℕ) → u < tiles_of p → u ≢ t → list_of L (tiles_of p) q u ≡ list_of L (tiles_of p) p u
  pub marks : (u : ℕ) → u < tiles_of p → tile_word L q u 3 ≡ tile_word L p u 3
  pub given : header_word q 4 ≡ header_word p 4 + ceil (length (list_of L (tiles_of p) p t)) L.ids
  pub poisoned : (b : ℕ) → 0 < times b (tile_of S.state t).blocks → (k : ℕ) → k < L.ids → block_word L (tiles_of p) q b k ≡ L.poison
  pub kept : Kept L (tiles_of p) (blocks_of p) p q S.state sound.state (t ∷ [])
