-- `copy`: the first `done` words are written; the next eight begin no later than these end.
use mathlib.Core.Path.{refl, sym, ap, ◌∙◌}
use mathlib.Core.List.{List}
use Prim.Native.Nat.{ℕ, ◌+◌, ◌≤◌, ◌<◌}
use native.Mathlib.Omega.{arith}
use lib.ListN.{length, take, drop}
use Rattle.pool.specs.Written.{written}
use Rattle.pool.proofs.Written.{length-written, written_none}
use Rattle.frame.proofs.Pieces.{written_piece}
use Rattle.frame.proofs.copy.Goals as goal
use Rattle.frame.proofs.copy.Goals.{After-min-k}

-- where the next eight words begin
place : (c : After-min-k) → let k = c.min-k.result in
    (k ≤ c.loop-done.done) × (c.loop-done.done < k + 8) × (k + 8 ≤ c.args.count)
place c =
    (omega (arith, c.min-k.ensures), omega (arith, c.min-k.ensures, c.loop-done-test.true), omega (arith, c.min-k.ensures, c.if-count-lt8.false))

pub loop-done-init : goal.loop-done-init
loop-done-init c = (sym (written_none _ _), omega arith, refl)

pub loop-done-preserved : goal.loop-done-preserved
loop-done-preserved c =
    let a = c.args in
    let k = c.min-k.result in
    let words = a.words.now in
    let here = place (goal.at.loop-done-preserved c).After-min-k in
    let e = c.copy_eight.ensures ∙ ap (λ (q : List ℕ). written q (a.at + k) (take 8 (drop k words))) c.loop-done.invariant.0
    ∙ written_piece a.list.now a.at words c.loop-done.done k 8 here.0 (omega (arith, here.1)) (omega (arith, here.2, c.requires.0)) in
    (e, here.2, ap length e ∙ length-written _ _ _)
