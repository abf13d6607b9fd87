-- `touch::Figure::inward_at` meets its contract. Where the box is not met, nothing touches; where it is, the shape touches unless an edge separates.
use mathlib.Core.Path.{sym, subst}
use mathlib.Core.Logic.{◌↔◌}
use Rattle.screen.specs.declared.Rectangle.{Rectangle}
use Rattle.touch.specs.declared.Bounds.{Bounds}
use Rattle.touch.specs.Touches.{Touches}
use Rattle.touch.specs.Corner.{triangle, Overlap}
use Rattle.touch.specs.Edges.{starts, row_edges, Clear}
use Rattle.touch.proofs.Sizes.{outline_range}
use Rattle.touch.proofs.Theorem.{touching_meets_box, outline_clear_is_touching}
use Rattle.touch.proofs.Figure.inward_at.Goals as goal
use Rattle.touch.proofs.Figure.inward_at.Goals.{Else-not-overlap}

-- past the first test the box is met, so that the edges decide
clear_is_touching : (c : Else-not-overlap) → let q = c.args.rectangle in let e = c.args.self.edges in
    Clear (row_edges e q.top q.bottom) q.left q.right ↔ Touches (triangle (starts e)) q
clear_is_touching c =
    let f = c.args.self in
    let q : Rectangle = c.args.rectangle in
    outline_clear_is_touching f.outline c.requires.proper (subst (λ (p : Bounds). Overlap p q) f.boxed (c.overlap.ensures.yes c.if-not-overlap.false))

pub returns-then-not-overlap : goal.returns-then-not-overlap
returns-then-not-overlap c =
    let q : Rectangle = c.args.rectangle in
    λ t. c.overlap.ensures.no c.if-not-overlap.true (subst (λ (p : Bounds). Overlap p q) (sym c.args.self.boxed) (touching_meets_box t))

pub inner_at-requires : goal.inner_at-requires
inner_at-requires c = ((outline_range c.args.self.outline).ab, c.requires.proper, c.requires.inward_of.ab)

pub returns-in_err-ab : goal.returns-in_err-ab
returns-in_err-ab c =
    rw c.from_residual.ensures
    (λ t. ((clear_is_touching (goal.at.returns-in_err-ab c).Else-not-overlap).1 t).ab c.in_err-ab.ensures)

pub inner_at-requires-2 : goal.inner_at-requires-2
inner_at-requires-2 c = ((outline_range c.args.self.outline).bc, c.requires.proper, c.requires.inward_of.bc)

pub returns-in_err-bc : goal.returns-in_err-bc
returns-in_err-bc c =
    rw c.from_residual-in_err-bc.ensures
    (λ t. ((clear_is_touching (goal.at.returns-in_err-bc c).Else-not-overlap).1 t).bc c.in_err-bc.ensures)

pub inner_at-requires-3 : goal.inner_at-requires-3
inner_at-requires-3 c = ((outline_range c.args.self.outline).ca, c.requires.proper, c.requires.inward_of.ca)

pub returns-in_err-ca : goal.returns-in_err-ca
returns-in_err-ca c =
    rw c.from_residual-in_err-ca.ensures
    (λ t. ((clear_is_touching (goal.at.returns-in_err-ca c).Else-not-overlap).1 t).ca c.in_err-ca.ensures)

pub returns : goal.returns
returns c =
    let ab = c.in_ok-ab.ensures in
    let bc = c.in_ok-bc.ensures in
    let ca = c.in_ok-ca.ensures in
    ((clear_is_touching (goal.at.returns c).Else-not-overlap).0 (record { ab = ab.0; bc = bc.0; ca = ca.0 }), ab.1, bc.1, ca.1)
