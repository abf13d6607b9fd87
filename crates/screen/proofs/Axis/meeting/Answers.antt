-- `screen::Axis::meeting` meets its contract. The two positive parts stand for the interval's ends, and the rest is naturals. An interval past the glass meets no tile.
use mathlib.Core.Path.{ap, ◌∙◌}
use native.Mathlib.Omega.{arith}
use lib.IntN.{ℤ, pos, negsuc, ◌+ℤ◌}
use lib.Signed.{◌≤ℤ◌}
use mir.Syntax.{w32}
use Rattle.numbers.specs.Diff.{up}
use Rattle.numbers.specs.Is.{Is, kept}
use Rattle.numbers.proofs.Diff.{up_le, le_up, lt_up, up_lt}
use Rattle.numbers.proofs.Is.{is_arg, is_range, is_lit, is_add, is_kept, is_fits, is_up}
use Rattle.screen.specs.Rectangle.{near, far}
use Rattle.screen.proofs.Axis.meeting.Goals as goal

-- the upper end as the machine reads it, and one more
high : {z : ℤ} → (negsuc 262143 ≤ℤ z) × (z ≤ℤ pos 262143) → Is (kept w32 z) z 262144
high r = is_kept w32 tt (is_range 262143 262143 r.0 r.1)

more : {z : ℤ} → (negsuc 262143 ≤ℤ z) × (z ≤ℤ pos 262143) → Is (kept w32 (kept w32 z +ℤ pos 1)) (z +ℤ pos 1) 262145
more r = is_kept w32 tt (is_add (high r) (is_lit 1))

pub returns-then-glass_end-from : goal.returns-then-glass_end-from
unfolding far
returns-then-glass_end-from c =
    let m = c.positive-from.ensures ∙ ap up (is_arg w32 c.ranges.low).same in
    let g = c.glass_end.ensures in
    let t = c.if-glass_end-from.true in
    record {
      within = omega arith;
      sound = λ k h. absurd (omega arith);
      whole = λ k l h. absurd (omega (arith, up_le c.args.low h.to));
    }

pub overflow_add-high : goal.overflow_add-high
overflow_add-high c = is_fits tt (is_add (high c.requires) (is_lit 1))

pub beginning_before-end-requires : goal.beginning_before-end-requires
beginning_before-end-requires c =
    let q = more c.requires in
    let p = c.positive.ensures ∙ ap up q.same in
    omega (arith, is_up q)

pub returns : goal.returns
unfolding near far
returns c =
    let m = c.positive-from.ensures ∙ ap up (is_arg w32 c.ranges.low).same in
    let p = c.positive.ensures ∙ ap up (more c.requires).same in
    let f = c.first_reaching-start.ensures in
    let g = c.beginning_before-end.ensures in
    let n = c.tiles.ensures.0 in
    let e = c.glass_end.ensures in
    let l = c.if-glass_end-from.false in
    record {
      within = omega (arith, g.within);
      sound = λ k h. record {
        from = up_lt c.args.high (omega (arith, g.before k h.before));
        to = le_up c.args.low (omega (arith, f.reaches k h.from));
      };
      whole = λ k l h. record {
        from = f.first k (omega (arith, up_le c.args.low h.to));
        before = g.all k (omega arith) (omega (arith, lt_up c.args.high h.from));
      };
    }
