-- `touch::edge_of` meets its contract. Each value of the code is an integer of the vertices, of a size that is computed, so each operation fits.
use lib.IntN.{ℤ, ◌-ℤ◌}
use mir.Syntax.{w32, w64}
use Rattle.numbers.specs.Is.{Is, kept}
use Rattle.numbers.proofs.Is.{is_sub, is_mul, is_fits, is_kept}
use Rattle.shape.specs.Shape.{InUnits}
use Rattle.touch.proofs.Sizes.{wide}
use Rattle.touch.proofs.edge_of.Goals as goal

-- the difference of two coordinates, widened
delta : {z y : ℤ} → InUnits z → InUnits y → Is (kept w64 (kept w64 (kept w32 z) -ℤ kept w64 (kept w32 y))) (z -ℤ y) 524288
delta p q = is_kept w64 tt (is_sub (wide p) (wide q))

pub overflow_mul-third : goal.overflow_mul-third
overflow_mul-third c = let p = c.requires in is_fits tt (is_mul (delta p.2.x p.0.x) (delta p.1.y p.0.y))

pub overflow_mul-third-2 : goal.overflow_mul-third-2
overflow_mul-third-2 c = let p = c.requires in is_fits tt (is_mul (delta p.2.y p.0.y) (delta p.1.x p.0.x))

pub overflow_sub-third-3 : goal.overflow_sub-third-3
overflow_sub-third-3 c =
    let p = c.requires in
    is_fits tt
    (is_sub (is_kept w64 tt (is_mul (delta p.2.x p.0.x) (delta p.1.y p.0.y)))
    (is_kept w64 tt (is_mul (delta p.2.y p.0.y) (delta p.1.x p.0.x))))

pub returns : goal.returns
returns c =
    let p = c.requires in
    let third =
    is_kept w64 tt
    (is_sub (is_kept w64 tt (is_mul (delta p.2.x p.0.x) (delta p.1.y p.0.y)))
    (is_kept w64 tt (is_mul (delta p.2.y p.0.y) (delta p.1.x p.0.x)))) in
    λ i. record {
      x = (wide p.0.x).same i;
      y = (wide p.0.y).same i;
      dx = (delta p.1.x p.0.x).same i;
      dy = (delta p.1.y p.0.y).same i;
      third = third.same i;
    }
