-- `calls::overlaps` meets its contract: each test tells a row of the table, or that its cause does not apply.
use mathlib.Core.Path.{refl}
use Rattle.calls.specs.Overlaps.{done}
use Rattle.calls.proofs.overlaps.Goals as goal

pub returns : goal.returns
returns c = done (c.allowed.ensures.yes c.if-not-allowed.false) c.in_ok-check.ensures.0 _ c.totals_of.ensures refl
