-- `audit::all_entries` says whether words are entries: `all` says so of the words passed.
use Prim.Native.Nat.{ℕ, ◌<◌}
use lib.ListN.{get_or}
use Rattle.numbers.specs.Says.{Says}
use Rattle.pool.specs.Words.{edition}
use Rattle.audit.proofs.all_entries.Given as goal

abbrev pub invariant-loop-word : goal.invariant-loop-word
invariant-loop-word l = Says l.all ((i : ℕ) → i < l.word-index → get_or l.words i 0 < edition.limit)
