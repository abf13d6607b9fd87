-- What append and release mean for what a pool says.
use Rattle.std.specs.Prelude.{List, [], ◌∷◌, ◌++◌, ℕ, suc, ◌+◌, max, length, set}
use Rattle.numbers.specs.Sum.{one}
use Rattle.pool.specs.State.{Chained, emptied, State, tile_of}
use Rattle.lists.specs.Appending.{pick, multiple}

abbrev pub head_or : (d : ℕ) → List ℕ → ℕ
head_or d [] = d
head_or d (x ∷ xs) = x

abbrev pub tail : List ℕ → List ℕ
tail [] = []
tail (x ∷ xs) = xs

-- the mark of a tile that gains an entry
abbrev pub raised : Chained → ℕ
raised x = max x.mark (suc (length x.list))

-- one entry more
abbrev pub with_entry : Chained → (entry : ℕ) → Chained
with_entry x entry = record { blocks = x.blocks; list = x.list ++ (entry ∷ []); mark = raised x }

-- one entry more, and one block more
abbrev pub with_block : Chained → (b entry : ℕ) → Chained
with_block x b entry = record { blocks = x.blocks ++ (b ∷ []); list = x.list ++ (entry ∷ []); mark = raised x }

abbrev pub in_last : State → (t entry : ℕ) → State
in_last s t entry = record { free = s.free; tiles = set s.tiles t (with_entry (tile_of s t) entry) }

abbrev pub in_new : State → (t entry : ℕ) → State
in_new s t entry = record { free = tail s.free; tiles = set s.tiles t (with_block (tile_of s t) (head_or 0 s.free) entry) }

-- tile t's list gains the entry; the head of the free chain joins the tile's chain exactly where its entries are a multiple of `ids`
abbrev pub append_state : (ids : ℕ) → State → (t entry : ℕ) → State
append_state ids s t entry = pick (multiple ids (length (tile_of s t).list)) (in_new s t entry) (in_last s t entry)

unfoldable pub append_all_state : (ids : ℕ) → State → (ts : List ℕ) → (entry : ℕ → ℕ) → State
append_all_state ids s [] entry = s
append_all_state ids s (t ∷ ts) entry = append_all_state ids (append_state ids s t (entry t)) ts entry

unfoldable pub need_state : (ids : ℕ) → State → (ts : List ℕ) → ℕ
need_state ids s [] = 0
need_state ids s (t ∷ ts) = one (multiple ids (length (tile_of s t).list)) + need_state ids s ts

-- the blocks bs, one after the other, each made the head of the free chain
abbrev pub onto : (bs free : List ℕ) → List ℕ
onto [] free = free
onto (b ∷ bs) free = onto bs (b ∷ free)

-- tile t is empty and keeps its mark, and its blocks are free
abbrev pub release_state : State → (t : ℕ) → State
release_state s t = record { free = onto (tile_of s t).blocks s.free; tiles = set s.tiles t (emptied (tile_of s t).mark) }
