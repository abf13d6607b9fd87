-- `screen::sides_in` meets its contract: a shift by s + 4 is a division by the side.
use mathlib.Core.Path.{ap}
use Prim.Native.Nat.{ℕ, ◌/◌}
use Rattle.screen.proofs.Sizes.{side_pow}
use Rattle.screen.proofs.Axis.sides_in.Goals as goal

pub returns : goal.returns
returns c = ap (λ (n : ℕ). c.args.x / n) (side_pow c.args.self.s)
