-- `overlaps::with` meets its contract: a shape out of range is counted apart, and another with its tiles by box and by touching.
use native.Mathlib.Omega.{arith}
use Rattle.shape.specs.Shape.{InRange}
use Rattle.overlaps.specs.HowMany.{TilesByTouching}
use Rattle.overlaps.specs.Adding.{counted, other}
use Rattle.overlaps.proofs.Counting.{counts≤}
use Rattle.overlaps.proofs.Tiles.{walked_counts, touched≤box}
use Rattle.overlaps.proofs.with.Goals as goal
use Rattle.overlaps.proofs.with.Goals.{After-touched_tiles-count, Else-not-in_range}

inside : (c : Else-not-in_range) → InRange c.args.shape
inside c = c.in_range.ensures.yes c.if-not-in_range.false

touching : (c : After-touched_tiles-count)
    → TilesByTouching c.args.grid.screen c.args.shape c.touched_tiles-count.result
touching c =
    walked_counts c.args.grid.screen c.args.shape c.args.grid.allowed c.requires.2 c.touched_tiles-count.ensures

pub with_other-requires : goal.with_other-requires
with_other-requires c = let b = c.requires.0.out_of_range≤ in let p = c.requires.1 in omega arith

pub returns-then-not-in_range : goal.returns-then-not-in_range
returns-then-not-in_range c = other (c.in_range.ensures.no c.if-not-in_range.true) c.with_other.ensures

pub box_tiles-boxed-requires : goal.box_tiles-boxed-requires
box_tiles-boxed-requires c = inside (goal.at.box_tiles-boxed-requires c).Else-not-in_range

pub touched_tiles-count-requires : goal.touched_tiles-count-requires
touched_tiles-count-requires c = (inside (goal.at.touched_tiles-count-requires c).Else-not-in_range, c.requires.2)

pub with_shape-requires : goal.with_shape-requires
with_shape-requires c =
    let boxed = c.box_tiles-boxed.ensures in
    let few = c.args.grid.allowed.tiles≤ in
    (c.requires.0, c.requires.1, omega (arith, counts≤ boxed), touched≤box c.args.grid.screen c.args.shape boxed (touching (goal.at.with_shape-requires c).After-touched_tiles-count))

pub returns : goal.returns
returns c =
    counted (inside (goal.at.returns c).Else-not-in_range) _ _ c.box_tiles-boxed.ensures (touching (goal.at.returns c).After-touched_tiles-count) c.with_shape.ensures
