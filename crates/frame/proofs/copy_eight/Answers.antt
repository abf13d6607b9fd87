-- `copy_eight`: what is held is what was read.
use mathlib.Core.Path.{ap, ◌∙◌}
use mathlib.Core.List.{List}
use Prim.Native.Nat.{ℕ}
use native.Mathlib.Omega.{arith}
use lib.ListN.{take, drop}
use Rattle.pool.specs.Written.{written}
use Rattle.frame.proofs.Pieces.{length_part, read_again}
use Rattle.frame.proofs.copy_eight.Goals as goal

pub returns : goal.returns
returns c =
    let part = take 8 (drop c.args.from c.args.words.now) in
    let size = length_part c.args.from 8 c.args.words.now c.requires.0 in
    let put : List ℕ → List ℕ = λ l. written c.args.list.now c.args.at l in
    c.copy_singly-2.ensures ∙ ap (λ (l : List ℕ). put (take 8 (drop 0 l))) c.copy_singly.ensures ∙ ap put (read_again _ part 8 size (omega arith))
