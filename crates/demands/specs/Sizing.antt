-- How many blocks are enough for calls that were made on a larger pool: as many as were in use at once, and so as many as the marks ask for.
use Rattle.std.specs.Prelude.{◌≡◌, ◌≢◌, List, [], ◌∷◌, ℕ, ◌≤◌}
use Rattle.numbers.specs.Ceil.{ceil}
use Rattle.numbers.specs.Sum.{sum_to}
use Rattle.screen.specs.declared.Screen.{Screen}
use Rattle.screen.specs.Screen.{tiles}
use Rattle.pool.specs.Words.{Layout}
use Rattle.calls.specs.Tables.{mark_in, free_in}
use Rattle.demands.specs.History.{Entry, number_of, Run, calls_of}
use Rattle.demands.specs.Demand3.{Openings}

-- no call of a history was refused for room
abbrev pub NoneForRoom : List Entry → Type 0
NoneForRoom [] = Unit {0}
NoneForRoom (e ∷ h) = (number_of e ≢ 8) × NoneForRoom h

-- at least n blocks were free after each call of a run
abbrev pub FreeThroughout : (n : ℕ) (p : List ℕ) (h : List Entry) (q : List ℕ) → Run p h q → Type 0
FreeThroughout n p [] q r = Unit {0}
FreeThroughout n p (e ∷ h) q r = (n ≤ free_in q) × FreeThroughout n p h r.0 r.1

-- the blocks that hold as many ids as each tile's mark says, in sum
abbrev pub blocks_by_marks : Layout → Screen → List ℕ → ℕ
blocks_by_marks L d q = sum_to (tiles d) (λ t. ceil (mark_in q t) L.ids)

-- Calls on the second pool, none refused for room, leave n blocks free throughout: then the first, which has n blocks fewer, gives them the same answers.
abbrev pub FewerAreEnough : Type 0
FewerAreEnough =
    (L : Layout) (d : Screen) (N n : ℕ) (p₁ p₂ : List ℕ) → Openings L d N n p₁ p₂
    → (h₂ : List Entry) (q₂ : List ℕ) (r₂ : Run p₂ h₂ q₂) → NoneForRoom h₂ → FreeThroughout n p₂ h₂ q₂ r₂
    → (h₁ : List Entry) (q₁ : List ℕ) → calls_of h₁ ≡ calls_of h₂ → Run p₁ h₁ q₁ → h₁ ≡ h₂

-- The same where the marks that they leave ask for no more blocks than the first has.
abbrev pub MarksAreEnough : Type 0
MarksAreEnough =
    (L : Layout) (d : Screen) (N n : ℕ) (p₁ p₂ : List ℕ) → Openings L d N n p₁ p₂
    → (h₂ : List Entry) (q₂ : List ℕ) → Run p₂ h₂ q₂ → NoneForRoom h₂ → blocks_by_marks L d q₂ ≤ N
    → (h₁ : List Entry) (q₁ : List ℕ) → calls_of h₁ ≡ calls_of h₂ → Run p₁ h₁ q₁ → h₁ ≡ h₂
