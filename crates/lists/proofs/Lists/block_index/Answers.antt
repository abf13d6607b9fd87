-- `block_index`: the parts of a sum that fits fit.
use mathlib.Core.Path.{◌≡◌, ap}
use Prim.Native.Nat.{ℕ, ◌*◌}
use native.Mathlib.Omega.{arith}
use Rattle.pool.specs.Words.{start}
use Rattle.lists.proofs.Lists.block_index.Goals as goal
use Rattle.lists.proofs.Lists.block_index.Goals.{After-wide-b}

-- the product is that of the contract
product : (c : After-wide-b) → let a = c.args in a.self.layout.ids * c.wide-b.result ≡ a.self.layout.ids * a.block.0
product c = ap (λ (n : ℕ). c.args.self.layout.ids * n) c.wide-b.ensures

pub overflow_mul-result : goal.overflow_mul-result
unfolding start
overflow_mul-result c = omega arith

pub overflow_add-result : goal.overflow_add-result
unfolding start
overflow_add-result c = omega arith

pub overflow_add-result-2 : goal.overflow_add-result-2
unfolding start
overflow_add-result-2 c = omega (arith, product (goal.at.overflow_add-result-2 c).After-wide-b)

pub overflow_add-result-3 : goal.overflow_add-result-3
unfolding start
overflow_add-result-3 c = omega (arith, product (goal.at.overflow_add-result-3 c).After-wide-b)

pub overflow_add-result-4 : goal.overflow_add-result-4
unfolding start
overflow_add-result-4 c = omega (arith, product (goal.at.overflow_add-result-4 c).After-wide-b)

pub returns : goal.returns
unfolding start
returns c = omega (arith, product (goal.at.returns c).After-wide-b)
