-- `put_entries`: what remains is the text of the entries from there on.
use Prim.Native.Nat.{◌+◌}
use lib.ListN.{get_or, drop, drop_of_length-le}
use native.Mathlib.Omega.{arith}
use Rattle.lister.specs.Listing.{entry_text, entries_text}
use Rattle.lister.proofs.Lines.{entries_text-next}
use Rattle.lister.proofs.Writing.{remains_all, remains_room, remains_then, remains_none}
use Rattle.lister.proofs.listing.put_entries.Goals as goal

pub loop-entry-init : goal.loop-entry-init
loop-entry-init c = remains_all _ _ _

pub put_entry-next-requires : goal.put_entry-next-requires
put_entry-next-requires c =
    let l = c.loop-entry in
    let entries = c.args.entries.now in
    let more = rw (entries_text-next entries l.entry-index (omega arith)) at l.invariant in
    remains_room (entry_text (get_or entries l.entry-index 0)) (entries_text (drop (l.entry-index + 1) entries)) more c.requires

pub loop-entry-preserved : goal.loop-entry-preserved
loop-entry-preserved c =
    let l = c.loop-entry in
    let more = rw (entries_text-next c.args.entries.now l.entry-index (omega arith)) at l.invariant in
    remains_then more c.put_entry-next.ensures

pub shape_of-out : goal.shape_of-out
shape_of-out c = c.loop-entry.invariant.long

pub returns : goal.returns
returns c = remains_none (rw (drop_of_length-le c.args.entries.now c.loop-entry-test.false) at c.loop-entry.invariant)
