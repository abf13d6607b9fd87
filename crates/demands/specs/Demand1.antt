-- Demand 1: whatever the words are, a refusal gives one of its numbers, zero in every other field, and leaves the words unchanged; an accepted call writes
-- nothing outside the room. That each call ends, stays inside its buffers and asks nothing is what the public functions of `calls` are proved for,
-- having no `requires`.
use Rattle.std.specs.Prelude.{◌≡◌, ◌≢◌, ◌⊎◌, false, List, [], ◌∷◌, ℕ, ◌≤◌, length, get_or}
use Rattle.screen.specs.declared.Screen.{Screen}
use Rattle.touch.specs.declared.Cover.TheVariants.{Apart}
use Rattle.screen.specs.Screen.{tiles}
use Rattle.pool.specs.Words.{Layout, layout_of, room}
use Rattle.pool.specs.Sound.{tiles_of, blocks_of}
use Rattle.calls.specs.Told.{HighWater}
use Rattle.calls.specs.Told.{Answered}
use Rattle.demands.specs.History.{Entry, binned, binned_pixels, found, released, number_of}

abbrev pub Among : ℕ → List ℕ → Type 0
Among n [] = ⊥
Among n (m ∷ ms) = (n ≡ m) ⊎ Among n ms

-- the numbers that a call may be refused with
abbrev pub refusals : Entry → List ℕ
refusals (binned shape id a) = 4 ∷ 5 ∷ 7 ∷ 8 ∷ []
refusals (binned_pixels shape id a) = 4 ∷ 5 ∷ 6 ∷ 7 ∷ 8 ∷ []
refusals (found tile place a) = 4 ∷ 9 ∷ 10 ∷ []
refusals (released tile a) = 4 ∷ 9 ∷ []

-- every field of the answer but its number is zero
abbrev pub RestZero : Entry → Type 0
RestZero (binned shape id a) = (a.tiles ≡ 0) × (a.blocks ≡ 0) × (a.tests ≡ 0)
RestZero (binned_pixels shape id a) = (a.tiles ≡ 0) × (a.blocks ≡ 0) × (a.tests ≡ 0)
RestZero (found tile place a) = (a.id ≡ 0) × (a.whole ≡ false)
RestZero (released tile a) = a.blocks ≡ 0

-- q has as many words as p, and the same from `end` on
pub record Outside (end : ℕ) (p q : List ℕ) : Type 0 where
  pub long : length q ≡ length p
  pub tail : (i : ℕ) → end ≤ i → get_or q i 0 ≡ get_or p i 0

-- of a call with its answer, on the words p, which leaves the words q
pub record Demand1 (p : List ℕ) (e : Entry) (q : List ℕ) : Type 0 where
  pub number_is : (number_of e ≡ 0) ⊎ Among (number_of e) (refusals e)
  pub refused : number_of e ≢ 0 → (q ≡ p) × RestZero e
  pub accepted : number_of e ≡ 0 → Outside (room (layout_of p) (tiles_of p) (blocks_of p)) p q

-- of an opening in a layout, which answers a number
pub record Demand1Open (L : Layout) (p : List ℕ) (d : Screen) (blocks number : ℕ) (q : List ℕ) : Type 0 where
  pub number_is : (number ≡ 0) ⊎ Among number (1 ∷ 2 ∷ 3 ∷ [])
  pub refused : number ≢ 0 → q ≡ p
  pub accepted : number ≡ 0 → Outside (room L (tiles d) blocks) p q

-- of an audit, which only reads the words and answers a number
abbrev pub Demand1Audit : (number : ℕ) → Type 0
Demand1Audit number = (number ≡ 0) ⊎ Among number (4 ∷ [])

-- of a question about a tile's mark, which only reads the words
pub record Demand1HighWater (a : HighWater) : Type 0 where
  pub number_is : (a.number ≡ 0) ⊎ Among a.number (4 ∷ 9 ∷ [])
  pub refused : a.number ≢ 0 → a.entries ≡ 0

-- of a question how a shape covers a tile, which is lent no words
pub record Demand1Question (a : Answered) : Type 0 where
  pub number_is : (a.number ≡ 0) ⊎ Among a.number (1 ∷ 9 ∷ 7 ∷ [])
  pub refused : a.number ≢ 0 → a.cover ≡ Apart
