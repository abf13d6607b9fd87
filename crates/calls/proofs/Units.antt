-- The answer for a coordinate's unit: of each answer of the snap, a row of the table applies.
use mathlib.Core.Path.{◌≡◌, refl, sym, ap, ◌∙◌, subst}
use mathlib.Core.Bool.{Bool, true, false, not}
use lib.Dec.{T}
use lib.IntN.{ℤ}
use lib.Ieee.{Float}
use lib.Ieee.Scale.{finite}
use Rattle.numbers.specs.Says.{Says}
use Rattle.shape.specs.Shape.{InUnits, in_units}
use Rattle.shape.proofs.Range.{in_units_test}
use Rattle.std.specs.Prelude.{Result}
use Rattle.numbers.specs.declared.Refusal.{Refusal}
use Rattle.calls.specs.Told.{told_unit}
use Rattle.snap.specs.Unit.{HasUnit, Right, unit_of}
use Rattle.snap.proofs.Unit.{has_unit, unit_of_is_right}
use Rattle.calls.specs.Units.{UnitSays, not_finite, out_of_range, done}

pub unit_told : {v : Float} {r : Result ℤ Refusal} → r ≡ unit_of v → UnitSays v (told_unit r)
unit_told {v} {r} e = go (finite v) refl
  where
    right : Right v (unit_of v)
    right = unit_of_is_right v

    at : (z : ℤ) → HasUnit v z → (b : Bool) → Says b (InUnits z) → UnitSays v (told_unit r)
    at z u true i = done z u (i.yes refl) (ap told_unit (e ∙ right.done z u (i.yes refl)))
    at z u false i = out_of_range z u (i.no refl) (ap told_unit (e ∙ right.out_of_range z u (i.no refl)))

    go : (b : Bool) → finite v ≡ b → UnitSays v (told_unit r)
    go true f = let u = has_unit v (subst T (sym f) tt) in at u.0 u.1 (in_units u.0) (in_units_test u.0)
    go false f =
        let t : T (not (finite v)) = subst (λ (b : Bool). T (not b)) (sym f) tt in
        not_finite t (ap told_unit (e ∙ right.not_finite t))
