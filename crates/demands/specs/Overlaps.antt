-- Demand 1 of the totals over a list of shapes, which are lent no pool: a refusal gives one of its numbers, and zero for each total.
use Rattle.std.specs.Prelude.{◌≡◌, ◌≢◌, ◌⊎◌, [], ◌∷◌}
use Rattle.overlaps.specs.Adding.{no_totals}
use Rattle.calls.specs.Told.{Counted}
use Rattle.demands.specs.Demand1.{Among}

pub record Demand1Overlaps (a : Counted) : Type 0 where
  pub number_is : (a.number ≡ 0) ⊎ Among a.number (1 ∷ 15 ∷ [])
  pub refused : a.number ≢ 0 → a.totals ≡ no_totals
