-- `need`: the blocks counted, and those that the tiles which are left need, are all.
use mathlib.Core.Path.{◌≡◌, sym, ap, ◌∙◌}
use Prim.Native.Nat.{ℕ, ◌+◌, ◌%◌}
use native.Mathlib.Omega.{arith}
use lib.ListN.{get_or, drop, drop_of_length-le}
use Rattle.numbers.specs.Flag.{plain, plains}
use Rattle.pool.specs.Words.{tile_word}
use Rattle.pool.specs.Editions.{layout_for}
use Rattle.lists.specs.Appending.{need}
use Rattle.lists.proofs.Reaches.{tile_in}
use Rattle.lists.proofs.AppendLoop.{rest_next, need_more, need_same, among_first, among_rest}
use Rattle.lists.proofs.Lists.need.Goals as goal
use Rattle.lists.proofs.Lists.need.Goals.{then-remainder-eq0, else-remainder-eq0}

pub tile_word-entries-requires : goal.tile_word-entries-requires
tile_word-entries-requires c =
    let next = rest_next c.args.named.now c.loop-word.word-index c.loop-word-test.true in
    let M = rw next at c.loop-word.invariant.1 in
    rw c.plain.ensures (tile_in (among_first M) (omega arith))

pub loop-word-preserved : goal.loop-word-preserved
loop-word-preserved c =
    let L = layout_for c.args.self.layout in
    let next = rest_next c.args.named.now c.loop-word.word-index c.loop-word-test.true in
    let M = rw next at c.loop-word.invariant.1 in
    let n = rw next at c.loop-word.invariant.2 in
    let p = c.args.pool.now in
    let t = plain (get_or c.args.named.now c.loop-word.word-index 0) in
    let rest = plains (drop (c.loop-word.word-index + 1) c.args.named.now) in
    let e : c.remainder.result ≡ tile_word L p t 0 % L.ids
    = c.remainder.ensures
    ∙ ap (λ (q : ℕ). q % L.ids) (c.wide.ensures ∙ c.tile_word-entries.ensures ∙ ap (λ (u : ℕ). tile_word L p u 0) c.plain.ensures) in
    elim c.if-remainder-eq0.branch [ then-remainder-eq0 w ↦ let m = need_more L p t rest (sym e ∙ w.if-remainder-eq0.true) in (omega arith, among_rest M, omega arith) | else-remainder-eq0 w ↦ let m = need_same L p t rest (λ z. w.if-remainder-eq0.false (e ∙ z)) in (omega arith, among_rest M, omega arith) ]

pub returns : goal.returns
unfolding need
returns c =
    let n = rw (drop_of_length-le c.args.named.now c.loop-word-test.false) at c.loop-word.invariant.2 in
    omega arith
