-- `Edition::remainder`: the ids are 31, or they are 63.
use mathlib.Core.Path.{ap, sym}
use Prim.Native.Nat.{ℕ, ◌%◌}
use Rattle.pool.proofs.Editions.{sixty_three}
use Rattle.pool.proofs.edition.Edition.remainder.Goals as goal

pub returns-then-self-eq31 : goal.returns-then-self-eq31
returns-then-self-eq31 c = ap (λ (n : ℕ). c.args.q % n) (sym c.if-self-eq31.true)

pub returns-else-self-eq31 : goal.returns-else-self-eq31
returns-else-self-eq31 c = ap (λ (n : ℕ). c.args.q % n) (sym (sixty_three c.requires c.if-self-eq31.false))
