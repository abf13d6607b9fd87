-- `words_from`: with no word left, the words are what is promised.
use mathlib.Core.Path.{◌≡◌, sym, ◌∙◌}
use Prim.Native.Nat.{◌+◌, ◌<◌}
use lib.ListN.{length}
use native.Mathlib.Omega.{arith}
use Rattle.lister.specs.Bytes.{words_of}
use Rattle.lister.proofs.Little.{length_words_of, get_or_words_of}
use Rattle.pool.proofs.Putting.{write_start, write_step, write_end, take-written}
use Rattle.lister.proofs.Writing.{counts}
use Rattle.lister.proofs.words.words_from.Goals as goal

pub loop-k-init : goal.loop-k-init
loop-k-init c = write_start _ _ _

pub bounds-words-k : goal.bounds-words-k
bounds-words-k c = omega (arith, c.loop-k.invariant.long)

pub loop-k-preserved : goal.loop-k-preserved
loop-k-preserved c =
    let bytes = c.args.bytes.now in
    let k = c.loop-k.k in
    let lt : k < length (words_of bytes) = omega (arith, length_words_of bytes) in
    let z : 0 + k ≡ k = omega arith in
    rw z at (write_step _ c.loop-k.invariant lt (c.word_at.ensures ∙ sym (get_or_words_of bytes k lt)))

pub shape_of-words : goal.shape_of-words
shape_of-words c = c.loop-k.invariant.long

pub returns : goal.returns
returns c =
    let w = length_words_of c.args.bytes.now in
    record {
      within = counts _ _ (omega (arith, c.loop-k.invariant.long));
      whole = rw (← w, write_end c.loop-k.invariant (omega arith)) (take-written _ _ (omega arith));
    }
