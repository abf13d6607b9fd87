-- `write_header`: the eight stores, one after the other, and the rest are the words of the definition.
use mathlib.Core.Path.{ap, ◌∙◌}
use native.Mathlib.Omega.{arith}
use lib.ListN.{length, length-set}
use Rattle.pool.specs.Words.{start}
use Rattle.pool.specs.Opening.{header_for}
use Rattle.pool.specs.Written.{written}
use Rattle.pool.proofs.Written.{length-written}
use borrow.Author.Rules.{rules}
use Rattle.pool.proofs.write_header.Goals as goal

pub bounds-pool-1 : goal.bounds-pool-1
bounds-pool-1 c = simp length-set (omega (arith, c.requires.0.fair.header>))

pub bounds-pool-2 : goal.bounds-pool-2
bounds-pool-2 c = simp length-set (omega (arith, c.requires.0.fair.header>))

pub bounds-pool-3 : goal.bounds-pool-3
bounds-pool-3 c = simp length-set (omega (arith, c.requires.0.fair.header>))

pub bounds-pool-4 : goal.bounds-pool-4
bounds-pool-4 c = simp length-set (omega (arith, c.requires.0.fair.header>))

pub bounds-pool-5 : goal.bounds-pool-5
bounds-pool-5 c = simp length-set (omega (arith, c.requires.0.fair.header>))

pub bounds-pool-6 : goal.bounds-pool-6
bounds-pool-6 c = simp length-set (omega (arith, c.requires.0.fair.header>))

pub bounds-pool-7 : goal.bounds-pool-7
bounds-pool-7 c = simp length-set (omega (arith, c.requires.0.fair.header>))

pub narrow-requires-2 : goal.narrow-requires-2
unfolding start
narrow-requires-2 c = search rules

pub shape_of-pool : goal.shape_of-pool
shape_of-pool c = ap length c.write_rest.ensures ∙ length-written _ 8 _ ∙ simp length-set

pub returns : goal.returns
unfolding written header_for
returns c =
    c.write_rest.ensures
    ∙ rw (c.rising_link.ensures, c.narrow.ensures, c.narrow-2.ensures, c.requires.2)
