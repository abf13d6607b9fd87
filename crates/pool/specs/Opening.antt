-- The words that an accepted opening leaves, and what a call of open answers.
use Rattle.std.specs.Prelude.{◌≡◌, ◌⊎◌, List, [], ◌∷◌, ◌++◌, ℕ, zero, suc, ◌*◌, ◌-◌, ◌≤◌, ◌<◌, length, take, drop, replicate}
use Rattle.screen.specs.declared.Screen.{Screen}
use Rattle.screen.specs.Screen.{Allowed, tiles}
use Rattle.pool.specs.Words.{Layout, Known, start, room}
use Rattle.pool.specs.State.{empty, State, link_to}

-- b, b + 1, .. : n numbers
abbrev pub rising : (b n : ℕ) → List ℕ
rising b zero = []
rising b (suc n) = b ∷ rising (suc b) n

-- what the header has after eight words: the words of a block, and 0
abbrev pub header_rest : Layout → List ℕ
header_rest L = take (L.header - 8) (suc L.ids ∷ 0 ∷ [])

-- width, height, s; N blocks, N free, the first of them; where the tile table starts, and where the blocks do; and the rest
unfoldable pub header_for : Layout → Screen → (N : ℕ) → List ℕ
header_for L d N = d.width ∷ d.height ∷ d.s ∷ N ∷ N ∷ link_to (rising 0 N) ∷ L.header ∷ start L (tiles d) ∷ header_rest L

-- the words of block b, which n blocks follow: poison, and a link to the next
unfoldable pub free_block : Layout → (b n : ℕ) → List ℕ
free_block L b n = replicate L.ids L.poison ++ (link_to (rising (suc b) n) ∷ [])

-- the words of n blocks from b on
abbrev pub free_blocks : Layout → (b n : ℕ) → List ℕ
free_blocks L b zero = []
free_blocks L b (suc n) = free_block L b n ++ free_blocks L (suc b) n

-- the header, empty tiles, all blocks poisoned and free in rising order, and the tail of the slice as it was
unfoldable pub opening : Layout → Screen → (N : ℕ) → List ℕ → List ℕ
opening L d N p =
    header_for L d N ++ (replicate (L.tile * tiles d) 0 ++ (free_blocks L 0 N ++ drop (room L (tiles d) N) p))

-- what it says: every tile empty, every block free
abbrev pub opening_state : (T N : ℕ) → State
opening_state T N = record { free = rising 0 N; tiles = replicate T empty }

-- What open answers for a layout L, a screen d and N blocks over the words p: a number a, and the words q that it leaves. Each row has its cause, with no
-- earlier one applying, and then the whole outcome. The first edition's layout is there, so that its second row is for too many blocks alone.
pub data OpenSays (L : Layout) (p : List ℕ) (d : Screen) (N a : ℕ) (q : List ℕ) : Type 0 where
  bad_screen : (Allowed d → ⊥) → a ≡ 1 → q ≡ p → OpenSays L p d N a q
  bad_blocks : Allowed d → (2048 < N) ⊎ (Known L → ⊥) → a ≡ 2 → q ≡ p → OpenSays L p d N a q
  too_short : Allowed d → N ≤ 2048 → Known L → length p < room L (tiles d) N → a ≡ 3 → q ≡ p → OpenSays L p d N a q
  done : Allowed d → N ≤ 2048 → Known L → room L (tiles d) N ≤ length p → a ≡ 0 → q ≡ opening L d N p → OpenSays L p d N a q
