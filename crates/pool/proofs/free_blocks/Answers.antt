-- `free_blocks`: after b blocks, writing the rest from there on gives what is promised; with none left, the words are that.
use mathlib.Core.Path.{◌≡◌, ap}
use Prim.Native.Nat.{ℕ, suc, ◌+◌, ◌*◌, ◌≤◌}
use native.Mathlib.Nat.{mul-le-mul_left}
use native.Mathlib.Omega.{arith}
use lib.ListN.{length}
use Rattle.pool.proofs.Written.{free_start, free_step, free_end}
use Rattle.pool.proofs.free_blocks.Goals as goal
use Rattle.pool.proofs.free_blocks.Goals.{After-wide-k}

-- the block lies within the pool
inside : (c : After-wide-k) → let a = c.args in
    a.from + a.layout.ids * c.wide-k.result + c.wide-k.result + suc a.layout.ids ≤ length a.pool.now
inside c =
    omega (arith, c.requires, ap (λ (n : ℕ). c.args.layout.ids * n) c.wide-k.ensures, mul-le-mul_left (suc c.args.layout.ids) c.loop-b-test.true)

pub loop-b-init : goal.loop-b-init
loop-b-init c = free_start _ _ _ _

pub overflow_mul-at : goal.overflow_mul-at
overflow_mul-at c = omega (arith, inside (goal.at.overflow_mul-at c).After-wide-k)

pub overflow_add-at : goal.overflow_add-at
overflow_add-at c = omega (arith, inside (goal.at.overflow_add-at c).After-wide-k)

pub overflow_add-at-in-loop-b : goal.overflow_add-at-in-loop-b
overflow_add-at-in-loop-b c = omega (arith, inside (goal.at.overflow_add-at-in-loop-b c).After-wide-k)

pub free_block-requires : goal.free_block-requires
free_block-requires c = omega (arith, inside (goal.at.free_block-requires c).After-wide-k)

pub loop-b-preserved : goal.loop-b-preserved
loop-b-preserved c =
    let l = c.loop-b in
    let from = c.args.from in
    let ids = c.args.layout.ids in
    let at : from + ids * c.wide-k.result + c.wide-k.result ≡ from + suc ids * l.b = rw c.wide-k.ensures (omega arith) in
    free_step _ l.invariant c.loop-b-test.true (rw at at c.free_block.ensures)

pub shape_of-pool : goal.shape_of-pool
shape_of-pool c = c.loop-b.invariant.long

pub returns : goal.returns
returns c = free_end c.loop-b.invariant c.loop-b-test.false
