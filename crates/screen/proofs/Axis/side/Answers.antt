-- `screen::Axis::side` meets its contract: 16 times 2^s is small, so the shift loses nothing.
use mathlib.Core.Path.{refl}
use native.Mathlib.Omega.{arith}
use Rattle.screen.proofs.Sizes.{pixels≤, shift_is}
use Rattle.screen.proofs.Axis.side.Goals as goal

pub returns : goal.returns
returns c = rw (shift_is 16 c.args.self.s (omega arith) c.args.self.most_s) (refl, let w = pixels≤ c.args.self.most_s in omega arith)
