-- `touch::corners_at` meets its contract: each value is what its column gives, less what its row gives, of a size that is computed.
use lib.IntN.{ℤ, ◌-ℤ◌, ◌*ℤ◌}
use mir.Syntax.{w64}
use Rattle.numbers.specs.Is.{Is, kept}
use Rattle.numbers.proofs.Is.{is_sub, is_fits, is_kept}
use Rattle.touch.specs.Edges.{Within}
use Rattle.touch.proofs.Sizes.{is_within, part}
use Rattle.touch.proofs.corners_at.Goals as goal

value : {z x d u : ℤ} → Within 524288 z → Within 262144 x → Within 524288 d → Within 412316860416 u
    → Is (kept w64 (kept w64 (kept w64 z -ℤ kept w64 x) *ℤ kept w64 d) -ℤ kept w64 u) ((z -ℤ x) *ℤ d -ℤ u) 824633720832
value p q r s = is_sub (is_kept w64 tt (part p q r)) (is_kept w64 tt (is_within s))

pub overflow_mul-near : goal.overflow_mul-near
overflow_mul-near c = let p = c.requires in is_fits tt (part p.1 p.0.x p.0.dy)

pub overflow_mul-far : goal.overflow_mul-far
overflow_mul-far c = let p = c.requires in is_fits tt (part p.2 p.0.x p.0.dy)

pub overflow_sub-result : goal.overflow_sub-result
overflow_sub-result c = let p = c.requires in is_fits tt (value p.1 p.0.x p.0.dy p.0.upper)

pub overflow_sub-result-2 : goal.overflow_sub-result-2
overflow_sub-result-2 c = let p = c.requires in is_fits tt (value p.2 p.0.x p.0.dy p.0.upper)

pub overflow_sub-result-3 : goal.overflow_sub-result-3
overflow_sub-result-3 c = let p = c.requires in is_fits tt (value p.1 p.0.x p.0.dy p.0.lower)

pub overflow_sub-result-4 : goal.overflow_sub-result-4
overflow_sub-result-4 c = let p = c.requires in is_fits tt (value p.2 p.0.x p.0.dy p.0.lower)

pub returns : goal.returns
returns c =
    let p = c.requires in
    let lt = is_kept w64 tt (value p.1 p.0.x p.0.dy p.0.upper) in
    let rt = is_kept w64 tt (value p.2 p.0.x p.0.dy p.0.upper) in
    let lb = is_kept w64 tt (value p.1 p.0.x p.0.dy p.0.lower) in
    let rb = is_kept w64 tt (value p.2 p.0.x p.0.dy p.0.lower) in
    λ i. record { p = lt.same i; q = rt.same i; r = lb.same i; s = rb.same i }
