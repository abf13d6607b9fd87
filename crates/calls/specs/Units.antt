-- The decision table of the unit of a coordinate in pixels, a row for each number: 6, 7. A row has its cause and then the whole answer a.
use Rattle.std.specs.Prelude.{◌≡◌, not, T, ℤ, pos, Float}
use Rattle.std.specs.Float.Ieee.Scale.{finite}
use Rattle.shape.specs.Shape.{InUnits}
use Rattle.snap.specs.Unit.{HasUnit}
use Rattle.calls.specs.Told.{Rounded}

pub data UnitSays (v : Float) (a : Rounded) : Type 0 where
  not_finite : T (not (finite v)) → a ≡ record { number = 6; unit = pos 0 } → UnitSays v a
  out_of_range : (z : ℤ) → HasUnit v z → (InUnits z → ⊥) → a ≡ record { number = 7; unit = pos 0 } → UnitSays v a
  done : (z : ℤ) → HasUnit v z → InUnits z → a ≡ record { number = 0; unit = z } → UnitSays v a
