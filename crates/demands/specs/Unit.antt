-- Demand 1 of the question for a coordinate's unit, which is lent no words: a refusal gives one of its numbers, and zero for the unit.
use Rattle.std.specs.Prelude.{◌≡◌, ◌≢◌, ◌⊎◌, [], ◌∷◌, pos}
use Rattle.calls.specs.Told.{Rounded}
use Rattle.demands.specs.Demand1.{Among}

pub record Demand1Unit (a : Rounded) : Type 0 where
  pub number_is : (a.number ≡ 0) ⊎ Among a.number (6 ∷ 7 ∷ [])
  pub refused : a.number ≢ 0 → a.unit ≡ pos 0
