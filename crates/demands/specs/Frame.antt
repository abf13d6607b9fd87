-- The calls that read lists as a whole: demand 1 of them, where each list stands, how many entries there are at most, that they agree with single reads, that
-- two pools of demand 3 get the same answers, and that words past the room do not matter.
use Rattle.std.specs.Prelude.{◌≡◌, ◌≢◌, ◌⊎◌, List, [], ◌∷◌, ℕ, suc, ◌+◌, ◌*◌, ◌-◌, ◌≤◌, ◌<◌, get_or, take, drop}
use Rattle.screen.specs.declared.Screen.{Screen}
use Rattle.pool.specs.Words.{Layout, layout_of}
use Rattle.pool.specs.Sound.{tiles_of}
use Rattle.calls.specs.Told.{Found}
use Rattle.calls.specs.Told.{Copied}
use Rattle.calls.specs.Told.{PoolCounts}
use Rattle.calls.specs.Tables.{list_in, not_found, found_in, ReadSays}
use Rattle.calls.specs.Frame.{ReadListSays, ReadAllSays, CountsSays}
use Rattle.demands.specs.History.{Entry, Run, calls_of, less_room}
use Rattle.demands.specs.Demand1.{Among, Outside}
use Rattle.demands.specs.Demand3.{Openings}
use Rattle.demands.specs.Room.{SameRoom}

-- ---- demand 1: a refusal gives one of its numbers, counts nothing and leaves every word; an accepted call writes no word past the entries and the starts

pub record Demand1ReadList (e₀ : List ℕ) (a : Copied) (e : List ℕ) : Type 0 where
  pub number_is : (a.number ≡ 0) ⊎ Among a.number (4 ∷ 9 ∷ 11 ∷ [])
  pub refused : a.number ≢ 0 → (a.count ≡ 0) × (e ≡ e₀)
  pub accepted : a.number ≡ 0 → Outside a.count e₀ e

pub record Demand1ReadAll (p s₀ e₀ : List ℕ) (a : Copied) (s e : List ℕ) : Type 0 where
  pub number_is : (a.number ≡ 0) ⊎ Among a.number (4 ∷ 11 ∷ [])
  pub refused : a.number ≢ 0 → (a.count ≡ 0) × (s ≡ s₀) × (e ≡ e₀)
  pub accepted : a.number ≡ 0 → Outside (suc (tiles_of p)) s₀ s × Outside a.count e₀ e

pub record Demand1Counts (a : PoolCounts) : Type 0 where
  pub number_is : (a.number ≡ 0) ⊎ Among a.number (4 ∷ [])
  pub refused : a.number ≢ 0 → (a.tiles ≡ 0) × (a.blocks ≡ 0) × (a.free ≡ 0) × (a.entries ≡ 0)

-- ---- where each list stands

-- a list stands in the entries from start t on and before start t + 1
pub record Stands (list starts entries : List ℕ) (t : ℕ) : Type 0 where
  pub order : get_or starts t 0 ≤ get_or starts (suc t) 0
  pub list_is : take (get_or starts (suc t) 0 - get_or starts t 0) (drop (get_or starts t 0) entries) ≡ list

-- the first start is 0, the last one is the count, and between two there is the list of a tile
pub record AllStand (p : List ℕ) (a : Copied) (s e : List ℕ) : Type 0 where
  pub first : get_or s 0 0 ≡ 0
  pub last : get_or s (tiles_of p) 0 ≡ a.count
  pub each : (t : ℕ) → t < tiles_of p → Stands (list_in p t) s e t

abbrev pub AllListsStand : Type 0
AllListsStand = (p s₀ e₀ : List ℕ) (a : Copied) (s e : List ℕ) → ReadAllSays p s₀ e₀ a s e → a.number ≡ 0 → AllStand p a s e

-- ---- how many words to lend

-- no more entries than the blocks that are not free have places
abbrev pub EntriesFit : Type 0
EntriesFit = (p : List ℕ) (a : PoolCounts) → CountsSays p a → a.entries + (layout_of p).ids * a.free ≤ (layout_of p).ids * a.blocks

-- ---- single reads

-- a read at a place before the count finds the entry that stands there, and one at another finds nothing
abbrev pub AgreesWithReads : Type 0
AgreesWithReads =
    (p : List ℕ) (t : ℕ) (e₀ : List ℕ) (a : Copied) (e : List ℕ) → ReadListSays p t e₀ a e → a.number ≡ 0
    → (place : ℕ) (b : Found) → ReadSays p t place b → (place < a.count → b ≡ found_in (get_or e place 0)) × (a.count ≤ place → b ≡ not_found 10)

-- ---- two pools of demand 3

-- with n blocks more, which are free
abbrev pub with_more : (n : ℕ) → PoolCounts → PoolCounts
with_more n a = record { number = a.number; tiles = a.tiles; blocks = a.blocks + n; free = a.free + n; entries = a.entries }

-- each of these calls gets the same answer from both and leaves the same words; but for what the pools hold in sum, where the second answers what `more` makes
-- of the first's answer
pub record ReadAlike (more : PoolCounts → PoolCounts) (p q : List ℕ) : Type 0 where
  pub list : (t : ℕ) (e₀ : List ℕ) (a b : Copied) (e f : List ℕ) → ReadListSays p t e₀ a e → ReadListSays q t e₀ b f → (a ≡ b) × (e ≡ f)
  pub all : (s₀ e₀ : List ℕ) (a b : Copied) (s e u f : List ℕ) → ReadAllSays p s₀ e₀ a s e → ReadAllSays q s₀ e₀ b u f → (a ≡ b) × (s ≡ u) × (e ≡ f)
  pub counts : (a b : PoolCounts) → CountsSays p a → CountsSays q b → b ≡ more a

abbrev pub Demand3Frame : Type 0
Demand3Frame =
    (L : Layout) (d : Screen) (N n : ℕ) (p₁ p₂ : List ℕ) → Openings L d N n p₁ p₂
    → (h₁ : List Entry) (q₁ : List ℕ) → Run p₁ h₁ q₁
    → (h₂ : List Entry) (q₂ : List ℕ) → calls_of h₂ ≡ calls_of (less_room h₁) → Run p₂ h₂ q₂
    → ReadAlike (with_more n) q₁ q₂

-- ---- words past the room

-- two slices with the same words in the room get the same answers
abbrev pub PastTheRoomFrame : Type 0
PastTheRoomFrame = (p₁ p₂ : List ℕ) → SameRoom p₁ p₂ → ReadAlike (λ a. a) p₁ p₂
