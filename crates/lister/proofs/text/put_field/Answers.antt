-- `put_field`: the name, and the number behind it.
use lib.ListN.{length-append}
use native.Mathlib.Omega.{arith}
use Rattle.lister.specs.Text.{numeral, field}
use Rattle.pool.proofs.Putting.{puts_then}
use Rattle.lister.proofs.text.put_field.Goals as goal

pub put_text-named-requires : goal.put_text-named-requires
unfolding field
put_text-named-requires c = omega (arith, length-append c.args.name.now (numeral c.args.n))

pub put_number-requires : goal.put_number-requires
unfolding field
put_number-requires c = omega (arith, length-append c.args.name.now (numeral c.args.n))

pub returns : goal.returns
unfolding field
returns c = puts_then c.put_text-named.ensures c.put_number.ensures
