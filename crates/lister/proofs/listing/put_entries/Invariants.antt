-- `put_entries`: what remains is the text of the entries from there on.
use lib.ListN.{drop}
use Rattle.lister.specs.Listing.{entries_text}
use Rattle.lister.proofs.Writing.{Remains}
use Rattle.lister.proofs.listing.put_entries.Given as goal

abbrev pub invariant-loop-entry : goal.invariant-loop-entry
invariant-loop-entry l = Remains l.initial.out l.at (entries_text l.entries) l.out l.next (entries_text (drop l.entry-index l.entries))
