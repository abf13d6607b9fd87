-- `poison`: the ids are 31, or they are 63.
use mathlib.Core.Path.{ap, sym, ◌∙◌}
use mathlib.Core.List.{List}
use Prim.Native.Nat.{ℕ}
use native.Mathlib.Omega.{arith}
use Rattle.pool.specs.Editions.{layout_for}
use Rattle.pool.proofs.Editions.{sixty_three}
use Rattle.lists.specs.Releasing.{fill}
use Rattle.lists.proofs.Lists.poison.Goals as goal
use Rattle.lists.proofs.Lists.poison.Goals.{Start}

-- poison in the first n places
abbrev poisoned : (s : Start) (n : ℕ) → List ℕ
poisoned s n = fill (layout_for s.args.self.layout) s.args.self.tiles s.args.pool.now s.args.block.0 n

pub poison_first-requires-else-self-eq31 : goal.poison_first-requires-else-self-eq31
poison_first-requires-else-self-eq31 c = omega (arith, c.requires.0, sixty_three c.requires.1 c.if-self-eq31.false)

pub returns-then-self-eq31 : goal.returns-then-self-eq31
returns-then-self-eq31 c = c.poison_first.ensures ∙ ap (poisoned (goal.at.returns-then-self-eq31 c).Start) (sym c.if-self-eq31.true)

pub returns-else-self-eq31 : goal.returns-else-self-eq31
returns-else-self-eq31 c =
    c.poison_first-else-self-eq31.ensures ∙ ap (poisoned (goal.at.returns-else-self-eq31 c).Start) (sym (sixty_three c.requires.1 c.if-self-eq31.false))
