-- `touch::bounds_of` meets its contract: each side is the least or the greatest of three coordinates, which are read as they are.
use Prim.Native.Nat.{◌<◌, ◌^◌}
use mathlib.Core.Path.{◌≡◌, ◌∙◌}
use lib.IntN.{ℤ}
use lib.Signed.{mag}
use mir.Syntax.{w32}
use mir.Val.{SFits, hbits}
use Rattle.std.proofs.Common.{rules}
use Rattle.numbers.specs.Is.{kept}
use Rattle.numbers.proofs.Is.{is_arg, kept_is}
use Rattle.touch.specs.Corner.{bounds}
use Rattle.touch.proofs.Picked.{min_is, max_is}
use Rattle.touch.proofs.bounds_of.Goals as goal

-- one call within another
of_three : {f g : ℤ → ℤ → ℤ} {x y z r s : ℤ} → ((a b : ℤ) → g a b ≡ f a b) → SFits w32 x → SFits w32 y → SFits w32 z
    → mag r < 2 ^ hbits w32 → r ≡ g (kept w32 y) (kept w32 z) → mag s < 2 ^ hbits w32 → s ≡ g (kept w32 x) (kept w32 r) → kept w32 s ≡ f x (f y z)
of_three {f} {g} {x} {y} {z} {r} {s} same a b c h e k d =
    let p = (is_arg w32 a).same in
    let q : kept w32 r ≡ f y z = kept_is w32 r h ∙ e ∙ (λ i. g ((is_arg w32 b).same i) ((is_arg w32 c).same i)) ∙ same y z in
    kept_is w32 s k ∙ d ∙ (λ i. g (p i) (q i)) ∙ same x (f y z)

pub returns : goal.returns
unfolding bounds
returns c =
    let v = c.args.vertices in
    let ax : SFits w32 v.a.x = search rules in
    let bx : SFits w32 v.b.x = search rules in
    let cx : SFits w32 v.c.x = search rules in
    let ay : SFits w32 v.a.y = search rules in
    let by : SFits w32 v.b.y = search rules in
    let cy : SFits w32 v.c.y = search rules in
    λ i. record {
      left = of_three min_is ax bx cx c.min.type_inv c.min.ensures.value c.min-2.type_inv c.min-2.ensures.value i;
      right = of_three max_is ax bx cx c.max.type_inv c.max.ensures.value c.max-2.type_inv c.max-2.ensures.value i;
      top = of_three min_is ay by cy c.min-3.type_inv c.min-3.ensures.value c.min-4.type_inv c.min-4.ensures.value i;
      bottom = of_three max_is ay by cy c.max-3.type_inv c.max-3.ensures.value c.max-4.type_inv c.max-4.ensures.value i;
    }
