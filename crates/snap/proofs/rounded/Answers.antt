-- `snap::rounded` meets its contract: past the limit nothing is in range, and up to it the sum and the difference round.
use mathlib.Core.Path.{refl, sym, ◌∙◌}
use lib.Dec.{lit≤, lit<}
use lib.Ieee.{of_bits, neg}
use Rattle.snap.proofs.Sum.{rounds}
use Rattle.snap.proofs.Limit.{below_refused, above_refused, within}
use Rattle.snap.proofs.rounded.Goals as goal
use Rattle.snap.proofs.rounded.Goals.{then-units-via-then-units, then-units-via-else-units+then-units-2}

pub returns-then-units : goal.returns-then-units
unfolding of_bits neg
returns-then-units c =
    elim c.then-units.branch [
      | then-units-via-then-units w ↦ sym (below_refused _ _ _ w.if-units.true (lit≤ tt))
      | then-units-via-else-units+then-units-2 w ↦ sym (above_refused _ _ _ w.if-units-2.true (lit≤ tt))
    ]

pub returns : goal.returns
unfolding of_bits neg
returns c =
    let small = within _ _ _ c.requires c.if-units.false c.if-units-2.false in
    c.accepted.ensures ∙ (rounds _ _ _ (lit≤ tt) (lit< tt) refl _ small).right

pub float_to_int-unit : goal.float_to_int-unit
unfolding of_bits neg
float_to_int-unit c =
    let small = within _ _ _ c.requires c.if-units.false c.if-units-2.false in
    (rounds _ _ _ (lit≤ tt) (lit< tt) refl _ small).asked
