-- `audit::block_at` is where a block starts: the words of a block are 32, or they are 64.
use mathlib.Core.Path.{◌≡◌, ap}
use Prim.Native.Nat.{ℕ, suc, ◌*◌}
use native.Mathlib.Omega.{arith}
use Rattle.pool.proofs.Editions.{sixty_three, sized}
use Rattle.audit.proofs.block_at.Goals as goal
use Rattle.audit.proofs.block_at.Goals.{Else-header-eq31, Then-header-eq31}

-- the products by the words of a block
of-32 : (c : Then-header-eq31) → suc c.args.header.layout.ids * c.args.block.0 ≡ 32 * c.wide-b.result
of-32 c = let b = c.args.block.0 in omega (arith, ap (λ (n : ℕ). suc n * b) c.if-header-eq31.true, c.wide-b.ensures)

of-64 : (c : Else-header-eq31) → suc c.args.header.layout.ids * c.args.block.0 ≡ 64 * c.wide-b.result
of-64 c =
    omega (arith, ap (λ (n : ℕ). suc n * c.args.block.0) (sixty_three (sized c.args.header.layout c.args.header.known) c.if-header-eq31.false), c.wide-b.ensures)

pub overflow_add-result : goal.overflow_add-result
overflow_add-result c = omega (arith, of-32 (goal.at.overflow_add-result c).Then-header-eq31, c.requires)

pub overflow_add-result-else-header-eq31 : goal.overflow_add-result-else-header-eq31
overflow_add-result-else-header-eq31 c = omega (arith, of-64 (goal.at.overflow_add-result-else-header-eq31 c).Else-header-eq31, c.requires)

pub returns-then-header-eq31 : goal.returns-then-header-eq31
returns-then-header-eq31 c = omega (arith, of-32 (goal.at.returns-then-header-eq31 c).Then-header-eq31)

pub returns-else-header-eq31 : goal.returns-else-header-eq31
returns-else-header-eq31 c = omega (arith, of-64 (goal.at.returns-else-header-eq31 c).Else-header-eq31)
