-- `inside::beyond_edge` meets its contract: the value is an integer of the edge and the vertex, of a size that is computed, and the tests are those of the
-- definition.
use lib.IntN.{ℤ, ◌-ℤ◌, ◌*ℤ◌}
use mir.Syntax.{w32, w64}
use mir.Val.{SFits}
use Rattle.std.proofs.Common.{rules}
use Rattle.numbers.specs.Is.{Is, kept}
use Rattle.numbers.proofs.Is.{is_sub, is_mul, is_fits, is_kept, is_arg}
use Rattle.shape.specs.Shape.{InUnits}
use Rattle.touch.specs.Edges.{Within}
use Rattle.touch.proofs.Sizes.{wide, is_within}
use Rattle.touch.proofs.Answers.{outer, outer_says, says_same}
use Rattle.inside.proofs.beyond_edge.Goals as goal

-- from where the edge starts to the vertex, and that times a difference of the edge
way : {z y : ℤ} → InUnits z → Within 262144 y → Is (kept w64 (kept w32 z) -ℤ kept w64 y) (z -ℤ y) 524288
way p q = is_sub (wide p) (is_kept w64 tt (is_within q))

part : {z y d : ℤ} → InUnits z → Within 262144 y → Within 524288 d
    → Is (kept w64 (kept w64 (kept w32 z) -ℤ kept w64 y) *ℤ kept w64 d) ((z -ℤ y) *ℤ d) 274877906944
part p q r = is_mul (is_kept w64 tt (way p q)) (is_kept w64 tt (is_within r))

pub overflow_mul-value : goal.overflow_mul-value
overflow_mul-value c = let p = c.requires in is_fits tt (part p.1.x p.0.x p.0.dy)

pub overflow_mul-value-2 : goal.overflow_mul-value-2
overflow_mul-value-2 c = let p = c.requires in is_fits tt (part p.1.y p.0.y p.0.dx)

pub overflow_sub-value-3 : goal.overflow_sub-value-3
overflow_sub-value-3 c =
    let p = c.requires in
    is_fits tt (is_sub (is_kept w64 tt (part p.1.x p.0.x p.0.dy)) (is_kept w64 tt (part p.1.y p.0.y p.0.dx)))

pub returns : goal.returns
returns c =
    let p = c.requires in
    let third : SFits w64 c.args.edge.third = search rules in
    let value =
    is_kept w64 tt (is_sub (is_kept w64 tt (part p.1.x p.0.x p.0.dy)) (is_kept w64 tt (part p.1.y p.0.y p.0.dx))) in
    says_same (λ i. outer ((is_arg w64 third).same i) (record { least = value.same i; greatest = value.same i })) (outer_says _ _)
