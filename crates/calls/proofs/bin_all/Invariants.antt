-- `calls::bin_all` meets its contract: the shapes passed are binned one by one, and the words are still a sound pool of the header.
use Rattle.calls.proofs.OneByOne.{Along}
use Rattle.calls.proofs.bin_all.Given as goal

abbrev pub invariant-loop-place : goal.invariant-loop-place
invariant-loop-place l = Along l.header l.list l.initial.answers l.initial.pool l.place l.answers l.pool
