-- `open_two`: blocks of 32 words and of 64 are those that there are.
use Rattle.pool.specs.Words.{two_32, two_64}
use Rattle.pool.proofs.open_two.Goals as goal

pub open_as-requires : goal.open_as-requires
open_as-requires c = two_32

pub open_as-requires-in-64 : goal.open_as-requires-in-64
open_as-requires-in-64 c = two_64
