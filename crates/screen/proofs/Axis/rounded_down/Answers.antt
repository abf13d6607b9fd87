-- `screen::rounded_down` meets its contract: a screen has a tile along each axis.
use mathlib.Core.Path.{ap, ◌∙◌}
use native.Mathlib.Omega.{arith}
use Prim.Native.Nat.{ℕ, ◌/◌}
use mir.Syntax.{w32}
use Rattle.numbers.specs.Diff.{up}
use Rattle.numbers.proofs.Is.{is_arg}
use Rattle.screen.specs.Rectangle.{side}
use Rattle.screen.specs.Held.{held, rounded_down}
use Rattle.screen.proofs.Sizes.{across≥}
use Rattle.screen.proofs.Axis.rounded_down.Goals as goal

pub held_to-requires : goal.held_to-requires
held_to-requires c = let e = c.tiles.ensures.0 in let w = across≥ c.args.self.extent c.args.self.s c.requires in omega arith

pub returns : goal.returns
unfolding rounded_down
returns c =
    let n = c.tiles.ensures.0 in
    let x = c.positive.ensures ∙ ap up (is_arg w32 c.ranges.x).same in
    let q = c.sides_in.ensures ∙ ap (λ (m : ℕ). m / side c.args.self.s) x in
    c.held_to.ensures ∙ (λ i. held (n i) (q i))
