-- `list_input`: the two cases of what was read.
use native.Mathlib.Omega.{arith}
use Rattle.lister.proofs.Writing.{puts_all, puts_counts}
use Rattle.lister.proofs.list_input.Goals as goal

pub returns-in_default : goal.returns-in_default
returns-in_default c =
    let P = c.put_text.ensures in
    record { within = puts_counts P (omega arith); text = rw c.in_default.is (puts_all P (omega arith)) }

pub slice_bounds-list_bytes-end : goal.slice_bounds-list_bytes-end
slice_bounds-list_bytes-end c = (rw c.in-Ok.is at c.requires.1).1

pub returns : goal.returns
returns c = record { within = c.list_bytes.ensures.within; text = rw c.in-Ok.is c.list_bytes.ensures.text }
