-- The unit of a coordinate: the whole number nearest to sixteen times it, a half going to the even one.
use Rattle.std.specs.Prelude.{ℕ, ◌*◌, ◌≡◌, Bool, true, false, not, cond, T, ℤ, pos, neg_ℤ, Float, Result, Ok, Err}
use Rattle.std.specs.Float.{nan, inf, fin}
use Rattle.std.specs.Float.Ieee.{up, down}
use Rattle.std.specs.Float.Ieee.Nearest.{closest}
use Rattle.std.specs.Float.Ieee.Scale.{finite}
use Rattle.numbers.specs.declared.Refusal.{Refusal}
use Rattle.numbers.specs.declared.Refusal.TheVariants.{NotFinite, OutOfRange}
use Rattle.shape.specs.Shape.{InUnits, in_units}
use Rattle.snap.specs.Nearest.{Nearest}

-- the number of size u with the sign s
abbrev pub signed : Bool → ℕ → ℤ
signed false u = pos u
signed true u = neg_ℤ (pos u)

-- z is the unit of v. A finite v is ±m * 2 ^ e, and 2 ^ e is up e / down e; nothing else has a unit
abbrev pub HasUnit : Float → ℤ → Type 0
HasUnit nan z = ⊥
HasUnit (inf s) z = ⊥
HasUnit (fin s m e) z = Nearest (signed s (16 * (m * up e))) (down e) z

-- what is asked of the answer r for the coordinate v, a row for each case
pub record Right (v : Float) (r : Result ℤ Refusal) : Type 0 where
  pub not_finite : T (not (finite v)) → r ≡ Err NotFinite
  pub out_of_range : (z : ℤ) → HasUnit v z → (InUnits z → ⊥) → r ≡ Err OutOfRange
  pub done : (z : ℤ) → HasUnit v z → InUnits z → r ≡ Ok z

-- ---- the same, computed

abbrev pub accept : ℤ → Result ℤ Refusal
accept z = cond (in_units z) (Ok z) (Err OutOfRange)

-- the answer that is `Right`; `closest` is the kit's rounding of a fraction
unfoldable pub unit_of : Float → Result ℤ Refusal
unit_of nan = Err NotFinite
unit_of (inf s) = Err NotFinite
unit_of (fin s m e) = accept (signed s (closest (16 * (m * up e)) (down e)))

-- the answer for a number of units that is to be rounded; an infinity is out of range
unfoldable pub rounded_of : Float → Result ℤ Refusal
rounded_of nan = Err NotFinite
rounded_of (inf s) = Err OutOfRange
rounded_of (fin s m e) = accept (signed s (closest (m * up e) (down e)))
