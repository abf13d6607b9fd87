-- `walk::touched_tiles` meets its contract: the rows and columns are those that meet the bounding box, and the edges are those of the shape.
use mathlib.Core.Path.{sym, ap, subst, ◌∙◌}
use native.Mathlib.Omega.{arith}
use Rattle.touch.specs.Edges.{AllPlaced, edges_of}
use Rattle.touch.proofs.Sizes.{three-placed}
use Rattle.walk.proofs.Touched.{rows_walked}
use Rattle.walk.proofs.touched_tiles.Goals as goal

pub figure_of-figure-requires : goal.figure_of-figure-requires
figure_of-figure-requires c = subst AllPlaced (sym c.three_of.ensures) (three-placed c.args.shape c.requires.0)

pub returns : goal.returns
returns c =
    let room = c.args.grid.allowed.tiles≤ in
    let long = c.requires.1 in
    let walked = c.walk_rows.ensures in
    rows_walked c.args.shape (c.figure_of-figure.ensures ∙ ap edges_of c.three_of.ensures) (omega arith) walked.numbers walked.words
