-- `free`: the header of a sound pool lies in it.
use mathlib.Core.Path.{refl}
use native.Mathlib.Omega.{arith}
use Rattle.pool.specs.Words.{header_word}
use Rattle.lists.proofs.Reaches.{header_in}
use Rattle.lists.proofs.Lists.free.Goals as goal

pub bounds-pool-4 : goal.bounds-pool-4
bounds-pool-4 c = omega (arith, header_in c.requires.0, c.requires.1)

pub returns : goal.returns
unfolding header_word
returns c = refl
