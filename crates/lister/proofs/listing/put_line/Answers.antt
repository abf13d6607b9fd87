-- `put_line`: four texts, one behind the other, are the line.
use lib.ListN.{length-append}
use native.Mathlib.Omega.{arith}
use Rattle.lister.specs.Listing.{line_of}
use Rattle.pool.proofs.Putting.{puts_then}
use Rattle.lister.proofs.listing.put_line.Goals as goal

pub put_field-named-requires : goal.put_field-named-requires
unfolding line_of
put_field-named-requires c = omega (arith, simp length-append at c.requires)

pub put_text-parted-requires : goal.put_text-parted-requires
unfolding line_of
put_text-parted-requires c = omega (arith, simp length-append at c.requires)

pub put_entries-listed-requires : goal.put_entries-listed-requires
unfolding line_of
put_entries-listed-requires c = omega (arith, simp length-append at c.requires)

pub put_text-requires : goal.put_text-requires
unfolding line_of
put_text-requires c = omega (arith, simp length-append at c.requires)

pub returns : goal.returns
unfolding line_of
returns c = puts_then (puts_then (puts_then c.put_field-named.ensures c.put_text-parted.ensures) c.put_entries-listed.ensures) c.put_text.ensures
