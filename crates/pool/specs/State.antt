-- What a pool says: for each tile the blocks of its chain and the entries of its list, and the blocks of the free chain.
use Rattle.std.specs.Prelude.{◌≡◌, List, [], ◌∷◌, ℕ, suc, ◌+◌, ◌<◌, get_or, drop, eqb}
use Rattle.numbers.specs.Sum.{one}

-- A tile: its blocks in the order of the chain, its entries in the order of the list, and its mark, the most entries that it had since the opening.
pub record Chained : Type 0 where
  pub blocks : List ℕ
  pub list : List ℕ
  pub mark : ℕ

-- without blocks and entries, by its mark
abbrev pub emptied : (mark : ℕ) → Chained
emptied mark = record { blocks = []; list = []; mark = mark }

abbrev pub empty : Chained
empty = emptied 0

pub record State : Type 0 where
  pub free : List ℕ
  pub tiles : List Chained

abbrev pub tile_of : State → (t : ℕ) → Chained
tile_of s t = get_or s.tiles t empty

-- the link to a chain: its first block + 1, or 0 where it has none
abbrev pub link_to : List ℕ → ℕ
link_to [] = 0
link_to (b ∷ bs) = suc b

-- a chain's last block + 1, and d where it has none
abbrev pub last_link : (d : ℕ) → List ℕ → ℕ
last_link d [] = d
last_link d (b ∷ bs) = last_link (suc b) bs

-- how often b stands in a list
abbrev pub times : (b : ℕ) → List ℕ → ℕ
times b [] = 0
times b (c ∷ cs) = one (eqb b c) + times b cs

-- how often b stands in the chains of the tiles, and in all chains
abbrev pub times_in_tiles : (b : ℕ) → List Chained → ℕ
times_in_tiles b [] = 0
times_in_tiles b (x ∷ xs) = times b x.blocks + times_in_tiles b xs

abbrev pub times_in_all : (b : ℕ) → State → ℕ
times_in_all b s = times b s.free + times_in_tiles b s.tiles

-- The blocks of a chain hold a list, `ids` to a block and from the front, with poison in every place after its end; and each block's link leads to
-- the next. word b k is word k of block b. Of a list that is longer than the blocks nothing is said past them: only with `TileShows.many` do they hold
-- all of it.
abbrev pub Holds : (ids poison : ℕ) (word : ℕ → ℕ → ℕ) (blocks list : List ℕ) → Type 0
Holds ids poison word [] list = Unit {0}
Holds ids poison word (b ∷ bs) list =
    (word b ids ≡ link_to bs) × ((k : ℕ) → k < ids → word b k ≡ get_or list k poison) × Holds ids poison word bs (drop ids list)
