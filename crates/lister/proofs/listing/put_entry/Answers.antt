-- `put_entry`: the id after a space is the text where the flag is not set; where it is, a star behind it makes the text.
use mathlib.Core.Path.{sym, ap, ◌∙◌}
use lib.ListN.{length, length-append}
use native.Mathlib.Omega.{arith}
use Rattle.lister.specs.Listing.{entry_text}
use Rattle.pool.proofs.Putting.{puts_then}
use Rattle.lister.proofs.Lines.{entry_text-flagged, entry_text-plain}
use Rattle.lister.proofs.listing.put_entry.Goals as goal

pub put_field-next-requires : goal.put_field-next-requires
unfolding entry_text
put_field-next-requires c = rw c.plain.ensures (omega (arith, simp length-append at c.requires))

pub put_text-requires : goal.put_text-requires
put_text-requires c =
    let starred = entry_text-flagged c.args.entry (sym c.is_flagged.ensures ∙ c.if-is_flagged.true) in
    let put = rw c.plain.ensures at c.put_field-next.ensures in
    omega (arith, simp length-append at (ap length starred), put.next_is)

pub returns-then-is_flagged : goal.returns-then-is_flagged
returns-then-is_flagged c =
    let starred = entry_text-flagged c.args.entry (sym c.is_flagged.ensures ∙ c.if-is_flagged.true) in
    let put = rw c.plain.ensures at c.put_field-next.ensures in
    rw starred (puts_then put c.put_text.ensures)

pub returns : goal.returns
returns c =
    let put = rw c.plain.ensures at c.put_field-next.ensures in
    rw (entry_text-plain c.args.entry (sym c.is_flagged.ensures ∙ c.if-is_flagged.false)) put
