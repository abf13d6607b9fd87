-- `calls::bin` meets its contract: a cause tells a row of the table, or that the shape may be placed.
use mathlib.Core.Path.{refl}
use Rattle.calls.specs.Tables.{BinSays}
use Rattle.calls.proofs.Audits.{told_sound}
use Rattle.calls.proofs.Causes.{neither_says}
use Rattle.calls.proofs.bin.Goals as goal

pub returns : goal.returns
returns c =
    let n = neither_says c.in_ok-cause.ensures refl in
    BinSays.placed (told_sound c.in-Some.is c.audit.ensures).0 n.0 n.1 c.place.ensures
