-- `append_all`: to append to the tiles that are left ends in the words that are promised.
use mathlib.Core.Path.{ap, ap₂, ◌∙◌}
use mathlib.Core.Bool.{true}
use Prim.Native.Nat.{ℕ}
use native.Mathlib.Omega.{arith}
use borrow.Author.Rules.{rules}
use lib.ListN.{drop_of_length-le}
use Rattle.numbers.specs.Flag.{flagged}
use Rattle.pool.specs.Editions.{layout_for}
use Rattle.lists.specs.Appending.{append}
use Rattle.lists.proofs.AppendLoop.{rest_next, among_first, appending_enough, appending_step, appending_end}
use Rattle.lists.proofs.Lists.append_all.Goals as goal

pub flagged-entry-requires : goal.flagged-entry-requires
flagged-entry-requires c = omega (arith, c.loop-word.invariant.1.ready.in_range true)

pub append-requires : goal.append-requires
append-requires c =
    let G = rw (rest_next c.args.named.now c.loop-word.word-index c.loop-word-test.true) at c.loop-word.invariant.1 in
    rw c.plain.ensures (record { among = among_first G.ready.among; tile_bound = appending_enough G })

pub loop-word-preserved : goal.loop-word-preserved
loop-word-preserved c =
    let G = rw (rest_next c.args.named.now c.loop-word.word-index c.loop-word-test.true) at c.loop-word.invariant.1 in
    let entry = c.flagged-entry.ensures ∙ ap (flagged c.args.id) c.is_flagged.ensures in
    let appended =
    c.append.ensures ∙ ap₂ (λ (t n : ℕ). append (layout_for c.args.self.layout) c.args.self.tiles c.loop-word.pool t n) c.plain.ensures entry in
    (search rules, appending_step G _ appended)

pub returns : goal.returns
returns c =
    let G = rw (drop_of_length-le c.args.named.now c.loop-word-test.false) at c.loop-word.invariant.1 in
    appending_end G
