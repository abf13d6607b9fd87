-- Demand 3: two pools of one layout, screen and tile size, the second with at least as many blocks, given the same calls less those that the first refused for room.
use Rattle.std.specs.Prelude.{◌≡◌, ◌≢◌, ◌⊎◌, cond, List, [], ◌∷◌, ◌++◌, ℕ, ◌+◌, ◌≤◌, ◌<◌, eqb, Result, Ok, Err}
use Rattle.numbers.specs.declared.Refusal.{Refusal}
use Rattle.screen.specs.declared.Screen.{Screen}
use Rattle.screen.specs.Screen.{tiles}
use Rattle.screen.specs.Rectangle.{rectangle}
use Rattle.shape.specs.declared.Shape.{Shape}
use Rattle.touch.specs.declared.Cover.{Cover}
use Rattle.touch.specs.Cover.{CoverSays}
use Rattle.snap.specs.Shapes.{shape_of}
use Rattle.pool.specs.Words.{Layout, edition, block_word}
use Rattle.pool.specs.Opening.{OpenSays}
use Rattle.calls.specs.Tables.{list_in, mark_in, free_in}
use Rattle.demands.specs.History.{Entry, binned, binned_pixels, found, released, Run, calls_of, less_room}
use Rattle.demands.specs.Demand2.{gained}

-- what a call with its answer does to the lists: an accepted shape goes to the tiles that it touches, an accepted release empties one
pub data Effect : Type 0 where
  appends : Shape → (id : ℕ) → Effect
  empties : (tile : ℕ) → Effect
  nothing : Effect

abbrev pub appends_snapped : Result Shape Refusal → (id : ℕ) → Effect
appends_snapped (Ok shape) id = appends shape id
appends_snapped (Err r) id = nothing

abbrev pub accepted : (number : ℕ) → Effect → Effect
accepted n e = cond (eqb n 0) e nothing

abbrev pub effect_of : Entry → Effect
effect_of (binned shape id a) = accepted a.number (appends shape id)
effect_of (binned_pixels shape id a) = accepted a.number (appends_snapped (shape_of shape) id)
effect_of (found tile place a) = nothing
effect_of (released tile a) = accepted a.number (empties tile)

-- the list xs of tile t becomes ys
abbrev pub Becomes : Screen → (t : ℕ) → Effect → (xs ys : List ℕ) → Type 0
Becomes d t (appends shape id) xs ys = (r : Cover) × CoverSays r shape (rectangle d t) × (ys ≡ xs ++ gained r id)
Becomes d t (empties u) xs ys = ((u ≡ t) × (ys ≡ [])) ⊎ ((u ≢ t) × (ys ≡ xs))
Becomes d t nothing xs ys = ys ≡ xs

-- from the history alone: xs are the ids of the accepted shapes that touch tile t since its last release or the opening, in order, each flagged exactly if its
-- shape covers the tile wholly
abbrev pub ListedBy : Screen → (t : ℕ) → List Entry → (xs : List ℕ) → Type 0
ListedBy d t [] xs = xs ≡ []
ListedBy d t (e ∷ h) xs = (before : List ℕ) × ListedBy d t h before × Becomes d t (effect_of e) before xs

-- both pools were opened in one layout for one screen, the second with n blocks more, on any slices with room and with any words in them
pub record Openings (L : Layout) (d : Screen) (N n : ℕ) (p₁ p₂ : List ℕ) : Type 0 where
  pub old₁ : List ℕ
  pub old₂ : List ℕ
  pub first : OpenSays L old₁ d N 0 p₁
  pub second : OpenSays L old₂ d (N + n) 0 p₂

-- After any calls on the first pool, and the same less those that it refused for room on the second. The beginning of a history is a history, so this
-- holds after each call.
pub record Demand3 (L : Layout) (d : Screen) (N n : ℕ) (h₁ : List Entry) (q₁ : List ℕ) (h₂ : List Entry) (q₂ : List ℕ) : Type 0 where
  -- each shared call got the same answer
  pub answers : h₂ ≡ less_room h₁
  -- all lists and marks agree, and the lists are what the history says
  pub lists : (t : ℕ) → t < tiles d → list_in q₂ t ≡ list_in q₁ t
  pub marks : (t : ℕ) → t < tiles d → mark_in q₂ t ≡ mark_in q₁ t
  pub history : (t : ℕ) → t < tiles d → ListedBy d t h₁ (list_in q₁ t)
  -- the second has more free blocks by exactly the original difference
  pub free : free_in q₂ ≡ free_in q₁ + n
  -- the id places of its extra blocks hold only poison
  pub poisoned : (b : ℕ) → N ≤ b → b < N + n → (k : ℕ) → k < L.ids → block_word L (tiles d) q₂ b k ≡ edition.poison

abbrev pub Demand3Holds : Type 0
Demand3Holds =
    (L : Layout) (d : Screen) (N n : ℕ) (p₁ p₂ : List ℕ) → Openings L d N n p₁ p₂
    → (h₁ : List Entry) (q₁ : List ℕ) → Run p₁ h₁ q₁
    → (h₂ : List Entry) (q₂ : List ℕ) → calls_of h₂ ≡ calls_of (less_room h₁) → Run p₂ h₂ q₂
    → Demand3 L d N n h₁ q₁ h₂ q₂

-- and such calls on the second pool there are: it can be given them, and answers as the first did
abbrev pub Demand3Runs : Type 0
Demand3Runs =
    (L : Layout) (d : Screen) (N n : ℕ) (p₁ p₂ : List ℕ) → Openings L d N n p₁ p₂ → (h₁ : List Entry) (q₁ : List ℕ) → Run p₁ h₁ q₁
    → (q₂ : List ℕ) × Run p₂ (less_room h₁) q₂
