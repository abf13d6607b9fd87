-- `touch::corner_cover` meets its contract. Where the box is met, the edges in the row of the rectangle decide; where not, nothing touches.
use mathlib.Core.Path.{◌≡◌, sym, ap, subst, ◌∙◌}
use Rattle.screen.specs.declared.Rectangle.{Rectangle}
use Rattle.touch.specs.declared.Bounds.{Bounds}
use Rattle.touch.specs.declared.Edges.{Edges}
use Rattle.touch.specs.Corner.{three, bounds, Overlap}
use Rattle.touch.specs.Edges.{AllPlaced, starts, edges_of, row_edges}
use Rattle.touch.specs.Inner.{CoverAt}
use Rattle.touch.proofs.Sizes.{three-placed, side_read, left_within, right_within, top_within, bottom_within}
use Rattle.touch.proofs.Theorem.{touching_meets_box}
use Rattle.touch.proofs.Covering.{cover_at_says}
use Rattle.touch.proofs.corner_cover.Goals as goal
use Rattle.touch.proofs.corner_cover.Goals.{After-overlap}

-- the edges are those of the shape, and the box is around it
edges_are : (c : After-overlap) → c.figure_of-figure.result.edges ≡ edges_of (three c.args.shape)
edges_are c = c.figure_of-figure.ensures ∙ ap edges_of c.three_of.ensures

around : (c : After-overlap) → c.figure_of-figure.result.around ≡ bounds (three c.args.shape)
around c = c.figure_of-figure.result.boxed ∙ ap (λ (e : Edges). bounds (starts e)) (edges_are c)

pub figure_of-figure-requires : goal.figure_of-figure-requires
figure_of-figure-requires c = subst AllPlaced (sym c.three_of.ensures) (three-placed c.args.shape c.requires.0)

pub returns-then-overlap : goal.returns-then-overlap
returns-then-overlap c =
    let q : Rectangle = c.args.rectangle in
    let ok = c.requires.1 in
    let s = (goal.at.returns-then-overlap c).After-overlap in
    let row = c.in_row-row.ensures ∙ (λ i. row_edges (edges_are s i) (side_read (top_within ok) i) (side_read (bottom_within ok) i)) in
    let box = subst (λ (p : Bounds). Overlap p q) (around s) (c.overlap.ensures.yes c.if-overlap.true) in
    cover_at_says c.args.shape ok c.requires.2 box c.cover_by_corners.result
    (subst (λ (P : Type 0). P)
    (λ i. CoverAt c.cover_by_corners.result (row i) (side_read (left_within ok) i) (side_read (right_within ok) i))
    c.cover_by_corners.ensures)

pub returns-else-overlap : goal.returns-else-overlap
returns-else-overlap c =
    let q : Rectangle = c.args.rectangle in
    let s = (goal.at.returns-else-overlap c).After-overlap in
    λ h. c.overlap.ensures.no c.if-overlap.false (subst (λ (p : Bounds). Overlap p q) (sym (around s)) (touching_meets_box h))
