-- `screen::Axis::near` meets its contract: there are at most 512 tiles along an axis.
use mathlib.Core.Path.{ap, ◌∙◌}
use native.Mathlib.Omega.{arith}
use lib.IntN.{pos}
use mir.Syntax.{w64}
use Rattle.numbers.proofs.Is.{is_kept, is_fits, is_pos}
use Rattle.screen.specs.Rectangle.{near}
use Rattle.screen.proofs.Sizes.{across≤}
use Rattle.screen.proofs.Axis.near.Goals as goal

pub sides-requires : goal.sides-requires
sides-requires c = let a = across≤ c.args.self.extent c.args.self.s c.args.self.most_extent c.args.self.least_s in omega arith

pub overflow_cast-result : goal.overflow_cast-result
overflow_cast-result c = is_fits tt (is_pos c.sides.ensures.1)

pub returns : goal.returns
unfolding near
returns c = (is_kept w64 tt (is_pos c.sides.ensures.1)).same ∙ ap pos c.sides.ensures.0
