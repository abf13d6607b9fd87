-- `copy_singly`: after k words, writing the rest from there on gives what is promised; with none left, the words are that.
use lib.ListN.{take, drop}
use Rattle.pool.proofs.Putting.{Writing}
use Rattle.frame.proofs.copy_singly.Given as goal

abbrev pub invariant-loop-k : goal.invariant-loop-k
invariant-loop-k l = Writing l.initial.list l.at (take l.count (drop l.from l.words)) l.list l.k
