-- The words past the room do not matter: two slices with the same words in the room get the same answers, and are left with the same words there.
use Rattle.std.specs.Prelude.{◌≡◌, ◌↔◌, List, ℕ, ◌≤◌, ◌<◌, length, get_or}
use Rattle.screen.specs.declared.Screen.{Screen}
use Rattle.screen.specs.Screen.{tiles}
use Rattle.pool.specs.Words.{Layout, layout_of, room}
use Rattle.pool.specs.Sound.{tiles_of, blocks_of}
use Rattle.pool.specs.Opening.{OpenSays}
use Rattle.calls.specs.Told.{HighWater}
use Rattle.calls.specs.Tables.{AuditSays, HighWaterSays}
use Rattle.demands.specs.History.{Entry, Run, calls_of}

-- the room that the header of p says
abbrev pub room_of : List ℕ → ℕ
room_of p = room (layout_of p) (tiles_of p) (blocks_of p)

-- in that room p₂ has the words of p₁; and both slices are long enough for it, or neither is
pub record SameRoom (p₁ p₂ : List ℕ) : Type 0 where
  pub words : (i : ℕ) → i < room_of p₁ → get_or p₂ i 0 ≡ get_or p₁ i 0
  pub long : (room_of p₁ ≤ length p₁) ↔ (room_of p₁ ≤ length p₂)

-- any calls, the same on both; a single call is a history of one
abbrev pub PastTheRoom : Type 0
PastTheRoom =
    (p₁ p₂ : List ℕ) → SameRoom p₁ p₂
    → (h₁ h₂ : List Entry) (q₁ q₂ : List ℕ) → calls_of h₁ ≡ calls_of h₂ → Run p₁ h₁ q₁ → Run p₂ h₂ q₂
    → (h₁ ≡ h₂) × SameRoom q₁ q₂

-- the audit
abbrev pub PastTheRoomAudit : Type 0
PastTheRoomAudit = (p₁ p₂ : List ℕ) → SameRoom p₁ p₂ → (a₁ a₂ : ℕ) → AuditSays p₁ a₁ → AuditSays p₂ a₂ → a₁ ≡ a₂

-- the question for a mark
abbrev pub PastTheRoomHighWater : Type 0
PastTheRoomHighWater =
    (p₁ p₂ : List ℕ) → SameRoom p₁ p₂ → (t : ℕ) (a₁ a₂ : HighWater) → HighWaterSays p₁ t a₁ → HighWaterSays p₂ t a₂ → a₁ ≡ a₂

-- an opening in a layout, of slices that are both long enough for it or neither, whatever their words
abbrev pub PastTheRoomOpen : Type 0
PastTheRoomOpen =
    (L : Layout) (p₁ p₂ : List ℕ) (d : Screen) (N : ℕ) → (room L (tiles d) N ≤ length p₁) ↔ (room L (tiles d) N ≤ length p₂)
    → (a₁ a₂ : ℕ) (q₁ q₂ : List ℕ) → OpenSays L p₁ d N a₁ q₁ → OpenSays L p₂ d N a₂ q₂
    → (a₁ ≡ a₂) × (a₁ ≡ 0 → SameRoom q₁ q₂)
