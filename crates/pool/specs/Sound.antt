-- When a slice of words is a sound pool.
use Rattle.std.specs.Prelude.{◌≡◌, List, [], ℕ, suc, ◌*◌, ◌≤◌, ◌<◌, length, get_or}
use Rattle.numbers.specs.Ceil.{ceil}
use Rattle.screen.specs.declared.Screen.{Screen}
use Rattle.screen.specs.Screen.{Allowed, tiles}
use Rattle.pool.specs.Words.{Layout, start, room, header_word, tile_word, block_word}
use Rattle.pool.specs.State.{Chained, State, tile_of, link_to, last_link, times_in_all, Holds}

-- words 0 to 2: the screen
abbrev pub screen_of : List ℕ → Screen
screen_of p = record { width = header_word p 0; height = header_word p 1; s = header_word p 2 }

abbrev pub tiles_of : List ℕ → ℕ
tiles_of p = tiles (screen_of p)

-- word 3: how many blocks there are
abbrev pub blocks_of : List ℕ → ℕ
blocks_of p = header_word p 3

-- words 0 to 3, 6 and 7 are as an accepted opening would write them, and 8 and 9 where the header has them; and the slice is long enough
pub record Opened (L : Layout) (p : List ℕ) : Type 0 where
  pub screen : Allowed (screen_of p)
  pub blocks≤ : blocks_of p ≤ 2048
  pub table_at : header_word p 6 ≡ L.header
  pub blocks_at : header_word p 7 ≡ start L (tiles_of p)
  pub size_at : 8 < L.header → header_word p 8 ≡ suc L.ids
  pub zero_at : 9 < L.header → header_word p 9 ≡ 0
  pub long : room L (tiles_of p) (blocks_of p) ≤ length p

-- the words of tile t say x
pub record TileShows (L : Layout) (T N : ℕ) (p : List ℕ) (t : ℕ) (x : Chained) : Type 0 where
  pub entries : tile_word L p t 0 ≡ length x.list
  pub first : tile_word L p t 1 ≡ link_to x.blocks
  pub last : tile_word L p t 2 ≡ last_link 0 x.blocks
  -- a chain of as many blocks as the entries need
  pub many : length x.blocks ≡ ceil (length x.list) L.ids
  pub in_range : (i : ℕ) → i < length x.list → get_or x.list i 0 < L.limit
  pub held : Holds L.ids L.poison (block_word L T p) x.blocks x.list
  -- the mark is at least the entries, and at most what all blocks hold
  pub mark : tile_word L p t 3 ≡ x.mark
  pub mark≥ : length x.list ≤ x.mark
  pub mark≤ : x.mark ≤ L.ids * N

-- the words of a pool with T tiles and N blocks say the state s
pub record Shows (L : Layout) (T N : ℕ) (p : List ℕ) (s : State) : Type 0 where
  pub count : header_word p 4 ≡ length s.free
  pub first : header_word p 5 ≡ link_to s.free
  -- the free blocks are a chain and hold nothing but poison
  pub poisoned : Holds L.ids L.poison (block_word L T p) s.free []
  pub tiled : length s.tiles ≡ T
  pub tile : (t : ℕ) → t < T → TileShows L T N p t (tile_of s t)
  -- every block stands in exactly one chain, once, and nothing else does
  pub once : (b : ℕ) → b < N → times_in_all b s ≡ 1
  pub none : (b : ℕ) → N ≤ b → times_in_all b s ≡ 0

pub record Sound (L : Layout) (p : List ℕ) : Type 0 where
  pub opened : Opened L p
  pub state : State
  pub shows : Shows L (tiles_of p) (blocks_of p) p state
