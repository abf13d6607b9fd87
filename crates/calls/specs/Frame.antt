-- The tables of the calls that read lists as a whole: one tile's, all tiles', and how much the pool holds in sum. They change no word of the pool. A row has
-- its cause, with no earlier one applying, and then the whole outcome: the answer a, and what is left of the words that were lent for starts and entries.
use Rattle.std.specs.Prelude.{◌≡◌, ◌⊎◌, List, ℕ, ◌≤◌, ◌<◌, length}
use Rattle.pool.specs.Words.{layout_of}
use Rattle.pool.specs.Sound.{Sound, tiles_of, blocks_of}
use Rattle.pool.specs.Written.{written}
use Rattle.frame.specs.Frame.{lists_of, starts_of}
use Rattle.calls.specs.Told.{Copied}
use Rattle.calls.specs.Told.{PoolCounts}
use Rattle.calls.specs.Tables.{list_in, free_in}

-- the lists of all tiles in the words p, one after the other
abbrev pub lists_in : List ℕ → List ℕ
lists_in p = lists_of (layout_of p) (tiles_of p) p (tiles_of p)

-- where each of them starts, and where the last one ends: a word more than there are tiles
abbrev pub starts_in : List ℕ → List ℕ
starts_in p = starts_of (layout_of p) (tiles_of p) p

abbrev pub not_copied : (number : ℕ) → Copied
not_copied n = record { number = n; count = 0 }

-- one tile's list: 4, 9, 11; else it stands at the start of the words e₀, which are e then
pub data ReadListSays (p : List ℕ) (t : ℕ) (e₀ : List ℕ) (a : Copied) (e : List ℕ) : Type 0 where
  damaged : (Sound (layout_of p) p → ⊥) → a ≡ not_copied 4 → e ≡ e₀ → ReadListSays p t e₀ a e
  no_tile : Sound (layout_of p) p → tiles_of p ≤ t → a ≡ not_copied 9 → e ≡ e₀ → ReadListSays p t e₀ a e
  too_short : Sound (layout_of p) p → t < tiles_of p → length e₀ < length (list_in p t) → a ≡ not_copied 11 → e ≡ e₀ → ReadListSays p t e₀ a e
  done : Sound (layout_of p) p → t < tiles_of p → length (list_in p t) ≤ length e₀
      → a ≡ record { number = 0; count = length (list_in p t) }
      → e ≡ written e₀ 0 (list_in p t)
      → ReadListSays p t e₀ a e

-- all lists: 4, 11; else they stand at the start of the words e₀, and where they start at that of the words s₀, which are e and s then
pub data ReadAllSays (p s₀ e₀ : List ℕ) (a : Copied) (s e : List ℕ) : Type 0 where
  damaged : (Sound (layout_of p) p → ⊥) → a ≡ not_copied 4 → s ≡ s₀ → e ≡ e₀ → ReadAllSays p s₀ e₀ a s e
  too_short : Sound (layout_of p) p → (length s₀ ≤ tiles_of p) ⊎ (length e₀ < length (lists_in p)) → a ≡ not_copied 11 → s ≡ s₀ → e ≡ e₀ → ReadAllSays p s₀ e₀ a s e
  done : Sound (layout_of p) p → tiles_of p < length s₀ → length (lists_in p) ≤ length e₀
      → a ≡ record { number = 0; count = length (lists_in p) }
      → s ≡ written s₀ 0 (starts_in p)
      → e ≡ written e₀ 0 (lists_in p)
      → ReadAllSays p s₀ e₀ a s e

-- how much the pool holds: 4
pub data CountsSays (p : List ℕ) (a : PoolCounts) : Type 0 where
  damaged : (Sound (layout_of p) p → ⊥) → a ≡ record { number = 4; tiles = 0; blocks = 0; free = 0; entries = 0 } → CountsSays p a
  done : Sound (layout_of p) p
      → a ≡ record { number = 0; tiles = tiles_of p; blocks = blocks_of p; free = free_in p; entries = length (lists_in p) }
      → CountsSays p a
