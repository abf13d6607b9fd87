-- The layout of before, in which a tile had no mark: every call on such a pool answers 4, but for an opening, which does not look at the words.
use Rattle.std.specs.Prelude.{◌≡◌, List, ℕ, ℤ}
use Rattle.pool.specs.Words.{Layout, edition}
use Rattle.pool.specs.Sound.{Opened}
use Rattle.calls.specs.Told.{HighWater}
use Rattle.calls.specs.Tables.{AuditSays, HighWaterSays}
use Rattle.calls.specs.BinList.{BinListSays}
use Rattle.demands.specs.History.{Entry, number_of, Step}

-- the edition, with three words a tile
abbrev pub unmarked : Layout
unmarked =
    record { header = edition.header; tile = 3; ids = edition.ids; limit = edition.limit; poison = edition.poison }

-- of words whose header is that of a pool in the old layout
pub record Answers4 (p : List ℕ) : Type 0 where
  pub audit : (number : ℕ) → AuditSays p number → number ≡ 4
  pub step : (e : Entry) (q : List ℕ) → Step p e q → number_of e ≡ 4
  pub list : (ws : List ℤ) (old : List ℕ) (number : ℕ) (q new : List ℕ) → BinListSays p ws old number q new → number ≡ 4
  pub high_water : (t : ℕ) (a : HighWater) → HighWaterSays p t a → a.number ≡ 4

abbrev pub OldLayoutAnswers4 : Type 0
OldLayoutAnswers4 = (p : List ℕ) → Opened unmarked p → Answers4 p
