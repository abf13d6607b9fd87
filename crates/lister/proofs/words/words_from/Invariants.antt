-- `words_from`: after k words, writing the rest from there on gives what is promised.
use Rattle.lister.specs.Bytes.{words_of}
use Rattle.pool.proofs.Putting.{Writing}
use Rattle.lister.proofs.words.words_from.Given as goal

abbrev pub invariant-loop-k : goal.invariant-loop-k
invariant-loop-k l = Writing l.initial.words 0 (words_of l.bytes) l.words l.k
