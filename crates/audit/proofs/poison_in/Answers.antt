-- `audit::poison_in` counts the words that are poison: `found` is the count of the words passed.
use mathlib.Core.Path.{◌≡◌, ap}
use mathlib.Core.List.{List}
use Prim.Native.Nat.{ℕ, ◌+◌}
use native.Mathlib.Omega.{arith}
use lib.Dec.{eqb}
use lib.ListN.{length, get_or}
use Rattle.numbers.proofs.Sum.{passes≤}
use Rattle.pool.specs.Words.{edition}
use Rattle.audit.specs.Chain.{poison_in}
use Rattle.audit.proofs.Poison.{poison_more}
use Rattle.audit.proofs.poison_in.Goals as goal

-- the words by their places
abbrev word : List ℕ → ℕ → ℕ
word words i = get_or words i 0

pub overflow_add-found : goal.overflow_add-found
overflow_add-found c =
    let words = c.args.words.now in
    let i = c.loop-word.word-index in
    omega (arith, c.loop-word.invariant, poison_more edition (word words) i, passes≤ (i + 1) (λ j. eqb (word words j) edition.poison))

pub loop-word-preserved : goal.loop-word-preserved
loop-word-preserved c = omega (arith, c.loop-word.invariant, poison_more edition (word c.args.words.now) c.loop-word.word-index)

pub returns : goal.returns
returns c =
    let end : c.loop-word.word-index ≡ length c.args.words.now = omega arith in
    omega (arith, c.loop-word.invariant, ap (poison_in edition (word c.args.words.now)) end)
