-- `calls::bin_all` meets its contract: the shapes passed are binned one by one, and the words are still a sound pool of the header.
use mathlib.Core.Path.{◌≡◌, sym, subst}
use native.Mathlib.Omega.{arith}
use borrow.Author.Rules.{rules}
use Rattle.calls.specs.BinList.{id_at, BinNumber}
use Rattle.calls.proofs.OneByOne.{numbered, along_more}
use Rattle.calls.proofs.bin_all.Goals as goal

pub loop-place-preserved : goal.loop-place-preserved
loop-place-preserved c =
    let l = c.loop-place in
    let id : c.id_from-id.result ≡ id_at c.args.list.now l.place = search rules in
    along_more _ _ _ _ l.invariant (omega (arith, l.invariant.long, c.requires.3))
    (subst (λ (P : Type 0). P) (λ i. BinNumber l.pool (c.shape_at-shape.ensures i) (id i) (sym c.number_in.ensures i) c.bin_sound-binned.new.pool)
    (numbered c.bin_sound-binned.result c.bin_sound-binned.ensures))
