-- `audit::audit`: the audit as the layout that the words say. A slice that is shorter than the shortest header is no pool of any.
use mathlib.Core.Path.{subst}
use native.Mathlib.Omega.{arith}
use Rattle.pool.specs.Words.{Layout, start, room}
use Rattle.pool.proofs.Editions.{layout_fair}
use Rattle.audit.specs.Answer.{Finds}
use Rattle.audit.proofs.audit.Goals as goal

pub returns-then-pool-lt8 : goal.returns-then-pool-lt8
unfolding room start
returns-then-pool-lt8 c = λ s. omega (arith, s.opened.long, (layout_fair c.args.pool.now).header>, c.if-pool-lt8.true)

pub returns : goal.returns
returns c = subst (λ (L : Layout). Finds L c.args.pool.now c.audit_as.result) c.edition_of.ensures.1 c.audit_as.ensures
