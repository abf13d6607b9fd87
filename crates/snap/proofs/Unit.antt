-- The unit of a coordinate: every finite one has exactly one, at most a half away from sixteen times it; and `unit_of` is the one right answer.
use mathlib.Core.Path.{◌≡◌, refl, sym, ap, ◌∙◌, subst}
use Prim.Native.Nat.{ℕ, zero, suc, ◌*◌, ◌≤◌, ◌<◌}
use native.Mathlib.Omega.{arith}
use mathlib.Core.Bool.{Bool, true, false, not, cond}
use lib.Dec.{T, leb→le}
use lib.IntN.{ℤ, pos, negsuc}
use lib.Signed.{le_z}
use lib.Ieee.{Float, nan, inf, fin, up, down}
use lib.Ieee.Fits.{down_pos, and_i}
use lib.Ieee.Bits.{is_true}
use lib.Ieee.Nearest.{closest}
use lib.Ieee.Scale.{finite}
use Rattle.std.proofs.Common.{Result, Ok, Err}
use Rattle.numbers.specs.Says.{Says}
use Rattle.shape.specs.Shape.{InUnits, in_units}
use Rattle.shape.proofs.Range.{in_units_test}
use Rattle.snap.specs.Nearest.{away}
use Rattle.snap.specs.Unit.{signed, HasUnit, Right, accept, unit_of}
use Rattle.numbers.specs.declared.Refusal.{Refusal}
use Rattle.numbers.specs.declared.Refusal.TheVariants.{NotFinite, OutOfRange}
use Rattle.snap.proofs.OneNearest.{closest_nearest, nearest_closest}

-- ---- the range

pub accept_in_range : (z : ℤ) → InUnits z → accept z ≡ Ok z
accept_in_range z h =
    ap (λ (b : Bool). cond b (Ok z) (Err OutOfRange)) (is_true (in_units z) (and_i (le_z (negsuc 262143) z) (le_z z (pos 262143)) h.low.le h.high.le))

pub accept_out_of_range : (z : ℤ) → (InUnits z → ⊥) → accept z ≡ Err OutOfRange
accept_out_of_range z f = go (in_units z) (in_units_test z)
  where
    go : (b : Bool) → Says b (InUnits z) → cond b (Ok z) (Err OutOfRange) ≡ Err OutOfRange
    go true h = absurd (f (h.yes refl))
    go false h = refl

pub large_is_refused : (s : Bool) (u : ℕ) → 262144 < u → accept (signed s u) ≡ Err OutOfRange
large_is_refused false u h =
    accept_out_of_range (pos u) (λ i. omega (arith, leb→le u 262143 i.high.le))
large_is_refused true zero h = absurd (omega arith)
large_is_refused true (suc k) h =
    accept_out_of_range (negsuc k) (λ i. omega (arith, leb→le k 262143 i.low.le))

-- ---- exactly one unit

pub has_unit : (v : Float) → T (finite v) → (z : ℤ) × HasUnit v z
has_unit nan t = absurd t
has_unit (inf s) t = absurd t
has_unit (fin s m e) t =
    (signed s (closest (16 * (m * up e)) (down e)), closest_nearest s (16 * (m * up e)) (down_pos e))

pub one_unit : (v : Float) (z y : ℤ) → HasUnit v z → HasUnit v y → z ≡ y
one_unit nan z y p q = absurd p
one_unit (inf s) z y p q = absurd p
one_unit (fin s m e) z y p q =
    nearest_closest s (16 * (m * up e)) (down_pos e) p ∙ sym (nearest_closest s (16 * (m * up e)) (down_pos e) q)

-- ---- exactly one right answer

unit_answer : (v : Float) (z : ℤ) → HasUnit v z → unit_of v ≡ accept z
unfolding unit_of
unit_answer nan z p = absurd p
unit_answer (inf s) z p = absurd p
unit_answer (fin s m e) z p = ap accept (sym (nearest_closest s (16 * (m * up e)) (down_pos e) p))

not_finite_answer : (v : Float) → T (not (finite v)) → unit_of v ≡ Err NotFinite
unfolding unit_of
not_finite_answer nan t = refl
not_finite_answer (inf s) t = refl
not_finite_answer (fin s m e) t = absurd t

pub unit_of_is_right : (v : Float) → Right v (unit_of v)
unit_of_is_right v =
    record {
      not_finite = not_finite_answer v;
      out_of_range = λ z p o. unit_answer v z p ∙ accept_out_of_range z o;
      done = λ z p i. unit_answer v z p ∙ accept_in_range z i;
    }

pub right_is_unit_of : (v : Float) (r : Result ℤ Refusal) → Right v r → r ≡ unit_of v
right_is_unit_of v r h = go (finite v) refl
  where
    at : (z : ℤ) → HasUnit v z → (b : Bool) → Says b (InUnits z) → r ≡ unit_of v
    at z p true i = h.done z p (i.yes refl) ∙ sym ((unit_of_is_right v).done z p (i.yes refl))
    at z p false i = h.out_of_range z p (i.no refl) ∙ sym ((unit_of_is_right v).out_of_range z p (i.no refl))

    go : (b : Bool) → finite v ≡ b → r ≡ unit_of v
    go true e = let u = has_unit v (subst T (sym e) tt) in at u.0 u.1 (in_units u.0) (in_units_test u.0)
    go false e =
        let t : T (not (finite v)) = subst (λ (b : Bool). T (not b)) (sym e) tt in
        h.not_finite t ∙ sym (not_finite_answer v t)

-- ---- a unit that is answered is the coordinate's, at most a half away from sixteen times it

accepted_is : (y z : ℤ) → accept y ≡ Ok z → y ≡ z
accepted_is y z = go (in_units y)
  where
    go : (b : Bool) → cond b (Ok y) (Err OutOfRange) ≡ Ok z → y ≡ z
    go true e = cc
    go false e = cc

pub answered_is_unit : (v : Float) {z : ℤ} → unit_of v ≡ Ok z → HasUnit v z
unfolding unit_of
answered_is_unit nan e = let i : ◌≡◌ {A = ℕ} 0 1 = cc in absurd (omega arith)
answered_is_unit (inf s) e = let i : ◌≡◌ {A = ℕ} 0 1 = cc in absurd (omega arith)
answered_is_unit (fin s m k) {z} e =
    let n = 16 * (m * up k) in
    subst (HasUnit (fin s m k)) (accepted_is (signed s (closest n (down k))) z e) (closest_nearest s n (down_pos k))

pub at_most_half_a_unit : (s : Bool) (m : ℕ) (e : ℤ) {z : ℤ} → unit_of (fin s m e) ≡ Ok z → 2 * away (signed s (16 * (m * up e))) (down e) z ≤ down e
at_most_half_a_unit s m e h = (answered_is_unit (fin s m e) h).near
