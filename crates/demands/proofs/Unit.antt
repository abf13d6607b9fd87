-- The question for a coordinate's unit: demand 1 holds of it, and its contract admits one outcome only, as a coordinate has one unit.
use mathlib.Core.Path.{◌≡◌, ap, subst}
use mathlib.Core.Logic.{inl, inr}
use mathlib.Core.Bool.{not}
use lib.Dec.{T}
use lib.IntN.{ℤ}
use lib.Ieee.{Float, nan, inf, fin}
use lib.Ieee.Scale.{finite}
use Rattle.shape.specs.Shape.{InUnits}
use Rattle.snap.specs.Unit.{HasUnit}
use Rattle.snap.proofs.Unit.{one_unit}
use Rattle.calls.specs.Told.{Rounded}
use Rattle.calls.specs.Units.{UnitSays}
use Rattle.demands.specs.Unit.{Demand1Unit}

pub demand_1_unit : {v : Float} {a : Rounded} → UnitSays v a → Demand1Unit a
demand_1_unit (UnitSays.not_finite n e) = record { number_is = inr (inl (ap (λ (b : Rounded). b.number) e)); refused = λ _. ap (λ (b : Rounded). b.unit) e }
demand_1_unit (UnitSays.out_of_range z u o e) =
    record { number_is = inr (inr (inl (ap (λ (b : Rounded). b.number) e))); refused = λ _. ap (λ (b : Rounded). b.unit) e }
demand_1_unit (UnitSays.done z u i e) = let zero = ap (λ (b : Rounded). b.number) e in record { number_is = inl zero; refused = λ ne. absurd (ne zero) }

-- ---- one outcome

-- what has a unit is finite
unit_or_not_finite : (v : Float) (z : ℤ) → HasUnit v z → T (not (finite v)) → ⊥
unit_or_not_finite nan z u n = u
unit_or_not_finite (inf s) z u n = u
unit_or_not_finite (fin s m e) z u n = n

-- one coordinate has one unit, in range or out of it
in_range_or_not : (v : Float) (z y : ℤ) → HasUnit v z → HasUnit v y → InUnits z → (InUnits y → ⊥) → ⊥
in_range_or_not v z y u w i o = o (subst InUnits (one_unit v z y u w) i)

pub unit_one_outcome : {v : Float} {a b : Rounded} → UnitSays v a → UnitSays v b → a ≡ b
unit_one_outcome (UnitSays.not_finite n e) (UnitSays.not_finite n' e') = cc
unit_one_outcome {v} (UnitSays.not_finite n e) (UnitSays.out_of_range z' u' o' e') = absurd (unit_or_not_finite v z' u' n)
unit_one_outcome {v} (UnitSays.not_finite n e) (UnitSays.done z' u' i' e') = absurd (unit_or_not_finite v z' u' n)
unit_one_outcome {v} (UnitSays.out_of_range z u o e) (UnitSays.not_finite n' e') = absurd (unit_or_not_finite v z u n')
unit_one_outcome (UnitSays.out_of_range z u o e) (UnitSays.out_of_range z' u' o' e') = cc
unit_one_outcome {v} (UnitSays.out_of_range z u o e) (UnitSays.done z' u' i' e') = absurd (in_range_or_not v z' z u' u i' o)
unit_one_outcome {v} (UnitSays.done z u i e) (UnitSays.not_finite n' e') = absurd (unit_or_not_finite v z u n')
unit_one_outcome {v} (UnitSays.done z u i e) (UnitSays.out_of_range z' u' o' e') = absurd (in_range_or_not v z z' u u' i o')
unit_one_outcome {v} (UnitSays.done z u i e) (UnitSays.done z' u' i' e') = let same = one_unit v z z' u u' in cc
