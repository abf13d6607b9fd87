-- `overlaps::add_up` meets its contract: the totals are those of the shapes passed.
use mathlib.Core.Path.{◌≡◌, sym, subst}
use Prim.Native.Nat.{ℕ, suc, ◌+◌}
use native.Mathlib.Omega.{arith}
use Rattle.shapes.specs.Shapes.{count_of, shape_at}
use Rattle.overlaps.specs.Adding.{With, Bounded}
use Rattle.overlaps.proofs.Sums.{Sums, sums_more, sums_bounded, sums_totals}
use Rattle.overlaps.proofs.add_up.Goals as goal

pub with-totals-requires : goal.with-totals-requires
with-totals-requires c =
    let l = c.loop-place in
    let d = c.args.grid.screen in
    let bounded = sums_bounded d (shape_at 7 c.args.list.now) c.args.grid.allowed l.invariant in
    (subst (λ (n : ℕ). Bounded n l.totals) (sym c.narrow.ensures) bounded, omega (arith, c.requires.0.few), omega arith)

pub loop-place-preserved : goal.loop-place-preserved
loop-place-preserved c =
    let l = c.loop-place in
    let d = c.args.grid.screen in
    let shapes = shape_at 7 c.args.list.now in
    let e : suc l.place ≡ l.place + 1 = omega arith in
    let shape = c.shape_at-shape.ensures in
    let place = c.narrow.ensures in
    subst (λ (n : ℕ). Sums d shapes n c.with-totals.result) e
    (sums_more d shapes c.args.grid.allowed l.invariant
    (subst (λ (P : Type 0). P) (λ i. With d (shape i) (place i) l.totals c.with-totals.result) c.with-totals.ensures))

pub returns : goal.returns
returns c =
    let l = c.loop-place in
    let d = c.args.grid.screen in
    let shapes = shape_at 7 c.args.list.now in
    let e : l.place ≡ count_of 7 c.args.list.now = omega arith in
    sums_totals d shapes c.args.grid.allowed (subst (λ (n : ℕ). Sums d shapes n l.totals) e l.invariant)
