-- `screen::Axis::far` meets its contract: there are at most 512 tiles along an axis.
use mathlib.Core.Path.{ap, ◌∙◌}
use Prim.Native.Nat.{◌≤◌, min}
use native.Mathlib.Omega.{arith}
use lib.IntN.{pos}
use mir.Syntax.{w64}
use Rattle.numbers.proofs.Is.{is_kept, is_pos}
use Rattle.screen.specs.Rectangle.{far}
use Rattle.screen.proofs.Sizes.{across≤}
use Rattle.screen.proofs.Axis.far.Goals as goal

pub overflow_add-k : goal.overflow_add-k
overflow_add-k c = let a = across≤ c.args.self.extent c.args.self.s c.args.self.most_extent c.args.self.least_s in omega arith

pub sides-requires : goal.sides-requires
sides-requires c = let a = across≤ c.args.self.extent c.args.self.s c.args.self.most_extent c.args.self.least_s in omega arith

pub returns : goal.returns
unfolding far
returns c =
    let k = c.sides.ensures in
    let g = c.glass_end.ensures in
    let m = c.min.ensures in
    let small : c.min.result ≤ 524288 = omega arith in
    (is_kept w64 tt (is_pos small)).same ∙ ap pos (m ∙ (λ i. min (k.0 i) (g i)))
