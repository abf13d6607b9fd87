-- `snap::finite` meets its contract: only a finite value lies between the infinities.
use mathlib.Core.Path.{◌≡◌, refl}
use mathlib.Core.Bool.{true, false, true≢false, false≢true}
use lib.Ieee.{Float, nan, inf, fin, of_bits, div, neg, lt}
use lib.Ieee.Scale.{finite}
use Rattle.snap.proofs.finite.Goals as goal

above_infinity : (v : Float) → lt (inf true) v ≡ true → lt v (inf false) ≡ finite v
unfolding lt
above_infinity nan h = refl
above_infinity (inf false) h = refl
above_infinity (inf true) h = absurd (false≢true h)
above_infinity (fin s m e) h = refl

not_above_infinity : (v : Float) → lt (inf true) v ≡ false → lt (inf true) v ≡ finite v
unfolding lt
not_above_infinity nan h = refl
not_above_infinity (inf false) h = absurd (true≢false h)
not_above_infinity (inf true) h = refl
not_above_infinity (fin s m e) h = absurd (true≢false h)

pub returns-then-infinity-v : goal.returns-then-infinity-v
unfolding of_bits div neg
returns-then-infinity-v c = above_infinity c.args.v c.if-infinity-v.true

pub returns-else-infinity-v : goal.returns-else-infinity-v
unfolding of_bits div neg
returns-else-infinity-v c = not_above_infinity c.args.v c.if-infinity-v.false
