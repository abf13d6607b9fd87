-- `calls::bin_sound` meets its contract: a cause tells a row of the table, or that the shape may be placed.
use Rattle.calls.specs.Tables.{BinSays}
use Rattle.calls.proofs.Causes.{neither_says}
use mathlib.Core.Path.{refl}
use Rattle.calls.proofs.bin_sound.Goals as goal

pub returns : goal.returns
returns c = let n = neither_says c.in_ok-cause.ensures refl in BinSays.placed c.requires.0 n.0 n.1 c.place.ensures
