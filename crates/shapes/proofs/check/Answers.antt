-- `shapes::check` meets its contract: each chunk of the list has the words of one shape.
use mathlib.Core.Path.{◌≡◌, refl, ap, subst, ◌∙◌}
use borrow.Author.Rules.{rules}
use native.Mathlib.Omega.{arith}
use Rattle.std.specs.Iterator.Runs.{IsChunksExactRun}
use Rattle.std.specs.Slice.Iter.{chunks_exact_size, chunks_exact_rest}
use Rattle.numbers.specs.Says.{Says}
use Rattle.shapes.proofs.Words.{AllRight, chunks_say}
use Rattle.shapes.proofs.check.Goals as goal
use Rattle.shapes.proofs.check.Goals.{After-all}

rights : (c : After-all) → Says c.all.result (AllRight c.args.size c.args.list.now)
rights c =
    let ran = c.all.ensures.runs in
    let p = ran.0 in
    let size : chunks_exact_size p.from ≡ c.args.size
    = ap chunks_exact_size ran.1 ∙ c.chunks_exact.ensures.size in
    let list : chunks_exact_rest p.from ≡ c.args.list.now
    = ap chunks_exact_rest ran.1 ∙ c.chunks_exact.ensures.rest in
    let run = c.chunks_exact.ensures.runs p p.seen (omega (arith, c.requires)) in
    chunks_say p c.args.size c.args.list.now c.requires
    (subst (λ (P : Type 0). P) (λ i. IsChunksExactRun p (size i) (list i)) run)
    (λ x r k. search rules) (λ x r q k. search rules) c.all.result ran.2

pub returns-then-all : goal.returns-then-all
returns-then-all c = (record { whole = search rules; few = search rules; each = (rights (goal.at.returns-then-all c).After-all).yes c.if-all.true }, refl)

pub returns-else-all : goal.returns-else-all
returns-else-all c = (λ r. (rights (goal.at.returns-else-all c).After-all).no c.if-all.false r.each, refl)
