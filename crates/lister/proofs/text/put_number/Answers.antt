-- `put_number`: the digits that `decimal` makes are the numeral.
use mathlib.Core.Path.{◌≡◌, ap, ◌∙◌}
use lib.ListN.{length, take}
use native.Mathlib.Omega.{arith}
use Rattle.lister.specs.Text.{numeral}
use Rattle.lister.proofs.Numerals.{decimal_numeral}
use Rattle.lister.proofs.text.put_number.Goals as goal
use Rattle.lister.proofs.text.put_number.Goals.{After-decimal-count}

-- what `decimal` wrote
spelled : (c : goal.After-decimal-count) → take c.decimal-count.result c.decimal-count.new.out ≡ numeral c.args.n
spelled c = rw c.from.ensures at (c.decimal-count.ensures.digits ∙ decimal_numeral _ _ c.decimal-count.ensures.len)

pub put_text-requires : goal.put_text-requires
put_text-requires c = omega (arith, ap length (spelled (goal.at.put_text-requires c).After-decimal-count))

pub returns : goal.returns
returns c = rw (spelled (goal.at.returns c).After-decimal-count) at c.put_text.ensures
