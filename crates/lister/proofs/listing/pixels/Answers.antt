-- `pixels`: 2^s is small, so the shift loses nothing.
use mathlib.Core.Path.{◌∙◌}
use native.Mathlib.Omega.{arith}
use Rattle.screen.proofs.Sizes.{shift_is}
use Rattle.lister.proofs.listing.pixels.Goals as goal

pub returns : goal.returns
returns c = shift_is 1 c.args.s (omega arith) c.requires ∙ omega arith
