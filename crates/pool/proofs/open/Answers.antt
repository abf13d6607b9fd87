-- `open`: the first edition's layout is one that there is.
use Rattle.pool.specs.Words.{one}
use Rattle.pool.proofs.open.Goals as goal

pub open_as-requires : goal.open_as-requires
open_as-requires c = one
