-- The proof of the cycle of calls {fill_squares}: the side's exponent falls. A square that is not touched has no touched tile; one that is wholly covered, or is
-- a single tile, has no other; and any other has the touched tiles of its four quarters. An edge that has the square on its inner side has its quarters there.
use Rattle.walk.specs.Row.{outlined}
use Rattle.quarters.specs.Square.{TouchedInFirst}
use Rattle.quarters.specs.Map.{WithOnes}
use Rattle.quarters.proofs.+fill_squares.Given as goal

abbrev pub decreases-fill_squares : goal.decreases-fill_squares
decreases-fill_squares l = l.first.exponent

abbrev pub invariant-loop-k : goal.invariant-loop-k
invariant-loop-k l = WithOnes (TouchedInFirst l.grid.screen (outlined l.figure.edges) l.first l.k) l.initial.map l.map
