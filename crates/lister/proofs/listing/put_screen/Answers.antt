-- `put_screen`: six texts, one behind the other, are the line.
use lib.ListN.{length-append}
use native.Mathlib.Omega.{arith}
use Rattle.lister.specs.Listing.{screen_line}
use Rattle.pool.proofs.Putting.{puts_then}
use Rattle.lister.proofs.listing.put_screen.Goals as goal

pub put_field-width-requires : goal.put_field-width-requires
unfolding screen_line
put_field-width-requires c = omega (arith, simp length-append at c.requires)

pub put_field-height-requires : goal.put_field-height-requires
unfolding screen_line
put_field-height-requires c = omega (arith, simp length-append at c.requires)

pub put_field-side-requires : goal.put_field-side-requires
unfolding screen_line
put_field-side-requires c = rw c.pixels.ensures (omega (arith, simp length-append at c.requires))

pub put_field-all-requires : goal.put_field-all-requires
unfolding screen_line
put_field-all-requires c =
    let named = rw c.pixels.ensures at c.put_field-side.ensures in
    omega (arith, simp length-append at c.requires, named.next_is)

pub put_field-last-requires : goal.put_field-last-requires
unfolding screen_line
put_field-last-requires c =
    let named = rw c.pixels.ensures at c.put_field-side.ensures in
    omega (arith, simp length-append at c.requires, named.next_is)

pub put_text-requires : goal.put_text-requires
unfolding screen_line
put_text-requires c =
    let named = rw c.pixels.ensures at c.put_field-side.ensures in
    omega (arith, simp length-append at c.requires, named.next_is)

pub returns : goal.returns
unfolding screen_line
returns c =
    let named = rw c.pixels.ensures at c.put_field-side.ensures in
    let size = puts_then c.put_field-width.ensures c.put_field-height.ensures in
    puts_then (puts_then (puts_then (puts_then size named) c.put_field-all.ensures) c.put_field-last.ensures) c.put_text.ensures
