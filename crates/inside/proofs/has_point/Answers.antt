-- `inside::has_point` meets its contract: a point that the box has and that is beyond no edge is one of the shape, and no other is.
use mathlib.Core.Path.{sym, subst}
use Rattle.numbers.specs.Says.{Says}
use Rattle.numbers.proofs.Says.{says_no, says_iff, says_not}
use Rattle.shape.specs.declared.Vertex.{Vertex}
use Rattle.touch.specs.declared.Bounds.{Bounds}
use Rattle.touch.specs.declared.Figure.{Figure}
use Rattle.touch.specs.Corner.{triangle}
use Rattle.touch.specs.Edges.{starts}
use Rattle.touch.specs.Cover.{HasPoint}
use Rattle.touch.proofs.Sizes.{outline_range}
use Rattle.inside.specs.Point.{InBox, BeyondEdge}
use Rattle.inside.proofs.Point.{outline_passes}
use Rattle.inside.proofs.AndThen.{made, not_made}
use Rattle.inside.proofs.has_point.Goals as goal
use Rattle.inside.proofs.has_point.Goals.{Joined-in_box, Joined-not-beyond_edge, then-in_box, else-in_box, then-not-beyond_edge, else-not-beyond_edge}

module _ (f : Figure) (v : Vertex) where
  -- the box has it, and it is beyond neither of two edges
  abbrev Two : Type 0
  Two = (InBox f.around v.x v.y × (BeyondEdge f.edges.ab v.x v.y → ⊥)) × (BeyondEdge f.edges.bc v.x v.y → ⊥)

  is_point : Two × (BeyondEdge f.edges.ca v.x v.y → ⊥) → HasPoint (triangle (starts f.edges)) v.x v.y
  is_point h =
      (outline_passes v.x v.y f.outline).0 (record {
        box = subst (λ (p : Bounds). InBox p v.x v.y) f.boxed h.0.0.0;
        ab = h.0.0.1;
        bc = h.0.1;
        ca = h.1;
      })

  of_point : HasPoint (triangle (starts f.edges)) v.x v.y → Two × (BeyondEdge f.edges.ca v.x v.y → ⊥)
  of_point h =
      let k = (outline_passes v.x v.y f.outline).1 h in
      (((subst (λ (p : Bounds). InBox p v.x v.y) (sym f.boxed) k.box, k.ab), k.bc), k.ca)

first : (c : Joined-in_box) → let f = c.args.figure in let v = c.args.vertex in
    Says c.if-in_box.value (InBox f.around v.x v.y × (BeyondEdge f.edges.ab v.x v.y → ⊥))
first c =
    elim c.if-in_box.branch [
      | then-in_box w ↦ made c.in_box.ensures w.if-in_box.true (says_not w.beyond_edge.ensures) w.value-is
      | else-in_box w ↦ not_made c.in_box.ensures w.if-in_box.false w.value-is
    ]

second : (c : Joined-not-beyond_edge) → let f = c.args.figure in let v = c.args.vertex in
    Says c.if-in_box.value (InBox f.around v.x v.y × (BeyondEdge f.edges.ab v.x v.y → ⊥)) → Says c.if-not-beyond_edge.value (Two f v)
second c s =
    elim c.if-not-beyond_edge.branch [
      | then-not-beyond_edge w ↦ made s w.if-not-beyond_edge.true (says_not w.beyond_edge-then-not-beyond_edge.ensures) w.value-is
      | else-not-beyond_edge w ↦ not_made s w.if-not-beyond_edge.false w.value-is
    ]

pub beyond_edge-requires : goal.beyond_edge-requires
beyond_edge-requires c = ((outline_range c.args.figure.outline).ab, c.requires)

pub beyond_edge-requires-then-not-beyond_edge : goal.beyond_edge-requires-then-not-beyond_edge
beyond_edge-requires-then-not-beyond_edge c = ((outline_range c.args.figure.outline).bc, c.requires)

pub beyond_edge-requires-then-not-beyond_edge-2 : goal.beyond_edge-requires-then-not-beyond_edge-2
beyond_edge-requires-then-not-beyond_edge-2 c = ((outline_range c.args.figure.outline).ca, c.requires)

pub returns-then-not-beyond_edge-2 : goal.returns-then-not-beyond_edge-2
returns-then-not-beyond_edge-2 c =
    let f = c.args.figure in
    let v = c.args.vertex in
    let p = goal.at.returns-then-not-beyond_edge-2 c in
    let h = (second p.Joined-not-beyond_edge (first p.Joined-in_box)).yes c.if-not-beyond_edge-2.true in
    says_iff (λ n. is_point f v (h, n)) (λ k. (of_point f v k).1) (says_not c.beyond_edge-then-not-beyond_edge-2.ensures)

pub returns-else-not-beyond_edge-2 : goal.returns-else-not-beyond_edge-2
returns-else-not-beyond_edge-2 c =
    let p = goal.at.returns-else-not-beyond_edge-2 c in
    let none = (second p.Joined-not-beyond_edge (first p.Joined-in_box)).no c.if-not-beyond_edge-2.false in
    rw c.if-not-beyond_edge-2.false (says_no (λ k. none (of_point c.args.figure c.args.vertex k).0))
