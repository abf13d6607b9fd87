-- `overlaps::add_up` meets its contract: the totals are those of the shapes passed.
use Rattle.shapes.specs.Shapes.{shape_at}
use Rattle.overlaps.proofs.Sums.{Sums}
use Rattle.overlaps.proofs.add_up.Given as goal

abbrev pub invariant-loop-place : goal.invariant-loop-place
invariant-loop-place l = Sums l.grid.screen (shape_at 7 l.list) l.place l.totals
