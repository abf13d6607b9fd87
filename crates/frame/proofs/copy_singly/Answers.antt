-- `copy_singly`: after k words, writing the rest from there on gives what is promised; with none left, the words are that.
use Rattle.frame.proofs.Pieces.{length_part, get_d_part}
use mathlib.Core.Path.{sym}
use Rattle.pool.proofs.Putting.{write_step, write_end}
use native.Mathlib.Omega.{arith}
use Rattle.frame.proofs.copy_singly.Goals as goal

pub loop-k-preserved : goal.loop-k-preserved
loop-k-preserved c =
    let a = c.args in
    let w = length_part a.from a.count a.words.now c.requires.0 in
    write_step _ c.loop-k.invariant (omega arith) (sym (get_d_part a.from a.count a.words.now _ (omega arith)))

pub returns : goal.returns
returns c =
    let a = c.args in
    let w = length_part a.from a.count a.words.now c.requires.0 in
    write_end c.loop-k.invariant (omega arith)
