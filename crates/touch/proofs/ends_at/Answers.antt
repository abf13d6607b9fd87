-- `touch::ends_at` meets its contract: each value is an integer of the edge, the row and the column, of a size that is computed.
use Prim.Native.Nat.{ℕ, ◌<◌, ◌^◌}
use mathlib.Core.Path.{◌≡◌, ◌∙◌}
use lib.IntN.{ℤ}
use lib.Signed.{le_z, mag}
use mir.Syntax.{w64}
use mir.Val.{hbits}
use Rattle.numbers.specs.Is.{Is, kept}
use Rattle.std.specs.Int.{int_min, int_max}
use Rattle.numbers.proofs.Is.{is_sub, is_fits, is_kept, is_call}
use Rattle.touch.specs.Corner.{lesser, greater}
use Rattle.touch.proofs.Sizes.{is_within, part, picked_size}
use Rattle.touch.proofs.Picked.{min_is, max_is}
use Rattle.touch.proofs.ends_at.Goals as goal

-- the least and the greatest of two values, as a call answers them
module _ {v z u y : ℤ} {M : ℕ} (p : Is v z M) (q : Is u y M) where
  is_min : {r : ℤ} → mag r < 2 ^ hbits w64 → r ≡ int_min v u → Is (kept w64 r) (lesser z y) M
  is_min h e = record {
    same = (is_call w64 h (e ∙ min_is v u ∙ (λ i. lesser (p.same i) (q.same i)))).same;
    size = picked_size (le_z z y) z y p.size q.size;
  }

  is_max : {r : ℤ} → mag r < 2 ^ hbits w64 → r ≡ int_max v u → Is (kept w64 r) (greater z y) M
  is_max h e = record {
    same = (is_call w64 h (e ∙ max_is v u ∙ (λ i. greater (p.same i) (q.same i)))).same;
    size = picked_size (le_z z y) y z q.size p.size;
  }

pub overflow_mul-near : goal.overflow_mul-near
overflow_mul-near c =
    let p = c.requires in
    is_fits tt (part p.1 p.0.x p.0.dy)

pub overflow_mul-far : goal.overflow_mul-far
overflow_mul-far c =
    let p = c.requires in
    is_fits tt (part p.2 p.0.x p.0.dy)

pub overflow_sub-result : goal.overflow_sub-result
overflow_sub-result c =
    let p = c.requires in
    is_fits tt
    (is_sub (is_min (is_kept w64 tt (part p.1 p.0.x p.0.dy)) (is_kept w64 tt (part p.2 p.0.x p.0.dy)) c.min.type_inv c.min.ensures.value)
    (is_max (is_kept w64 tt (is_within p.0.upper)) (is_kept w64 tt (is_within p.0.lower)) c.max.type_inv c.max.ensures.value))

pub overflow_sub-result-2 : goal.overflow_sub-result-2
overflow_sub-result-2 c =
    let p = c.requires in
    is_fits tt
    (is_sub (is_max (is_kept w64 tt (part p.1 p.0.x p.0.dy)) (is_kept w64 tt (part p.2 p.0.x p.0.dy)) c.max-2.type_inv c.max-2.ensures.value)
    (is_min (is_kept w64 tt (is_within p.0.upper)) (is_kept w64 tt (is_within p.0.lower)) c.min-2.type_inv c.min-2.ensures.value))

pub returns : goal.returns
returns c =
    let p = c.requires in
    let near = is_kept w64 tt (part p.1 p.0.x p.0.dy) in
    let far = is_kept w64 tt (part p.2 p.0.x p.0.dy) in
    let upper = is_kept w64 tt (is_within p.0.upper) in
    let lower = is_kept w64 tt (is_within p.0.lower) in
    let least = is_sub (is_min near far c.min.type_inv c.min.ensures.value) (is_max upper lower c.max.type_inv c.max.ensures.value) in
    let greatest = is_sub (is_max near far c.max-2.type_inv c.max-2.ensures.value) (is_min upper lower c.min-2.type_inv c.min-2.ensures.value) in
    λ i. record { least = (is_kept w64 tt least).same i; greatest = (is_kept w64 tt greatest).same i }
