-- `screen::rounded_up_less_one` meets its contract: the sum before the division rounds up, and a screen has a tile along each axis.
use mathlib.Core.Path.{◌≡◌, ap, ◌∙◌}
use native.Mathlib.Omega.{arith}
use Prim.Native.Nat.{ℕ, ◌+◌, ◌-◌, ◌/◌}
use mir.Syntax.{w32}
use Rattle.numbers.specs.Diff.{up}
use Rattle.numbers.specs.Ceil.{ceil}
use Rattle.numbers.proofs.Diff.{up_le}
use Rattle.numbers.proofs.Is.{is_arg}
use Rattle.screen.specs.Rectangle.{side}
use Rattle.screen.specs.Held.{held, rounded_up_less_one}
use Rattle.screen.proofs.Sizes.{across≥, side>}
use Rattle.screen.proofs.Axis.rounded_up_less_one.Goals as goal

pub overflow_sub-side : goal.overflow_sub-side
overflow_sub-side c = let w = side> c.args.self.s in omega arith

pub overflow_add-positive : goal.overflow_add-positive
overflow_add-positive c =
    let x = c.positive.ensures ∙ ap up (is_arg w32 c.ranges.x).same in
    let w = up_le c.args.x c.requires.1 in
    omega arith

pub held_to-requires : goal.held_to-requires
held_to-requires c = let e = c.tiles.ensures.0 in let w = across≥ c.args.self.extent c.args.self.s c.requires.0 in omega arith

pub returns : goal.returns
unfolding rounded_up_less_one
returns c =
    let n = c.tiles.ensures.0 in
    let t = side c.args.self.s in
    let x = c.positive.ensures ∙ ap up (is_arg w32 c.ranges.x).same in
    let y = c.side.ensures.0 in
    let q : c.sides_in-up.result ≡ ceil (up c.args.x) t = c.sides_in-up.ensures ∙ (λ i. (x i + (y i - 1)) / t) in
    let b : c.saturating_sub.result ≡ ceil (up c.args.x) t - 1 = c.saturating_sub.ensures ∙ ap (λ (n : ℕ). n - 1) q in
    c.held_to.ensures ∙ (λ i. held (n i) (b i))
