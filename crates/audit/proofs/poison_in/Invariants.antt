-- `audit::poison_in` counts the words that are poison: `found` is the count of the words passed.
use mathlib.Core.Path.{◌≡◌}
use lib.ListN.{get_or}
use Rattle.pool.specs.Words.{edition}
use Rattle.audit.specs.Chain.{poison_in}
use Rattle.audit.proofs.poison_in.Given as goal

abbrev pub invariant-loop-word : goal.invariant-loop-word
invariant-loop-word l = l.found ≡ poison_in edition (λ i. get_or l.words i 0) l.word-index
