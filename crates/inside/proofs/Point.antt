-- A point is one of a shape exactly where the box has it and it is beyond no edge: the corner test, of the rectangle that is one point.
use mathlib.Core.Path.{sym, subst}
use mathlib.Core.Logic.{◌↔◌}
use lib.IntN.{ℤ}
use Rattle.shape.specs.declared.Vertex.{Vertex}
use Rattle.shape.specs.declared.Shape.{Shape}
use Rattle.touch.specs.declared.Edges.{Edges}
use Rattle.touch.specs.Corner.{three, triangle, bounds, Separates}
use Rattle.touch.specs.Corner.Apart.{above, below}
use Rattle.touch.specs.Edges.{edge_of, edges_of, starts, Outline}
use Rattle.touch.specs.Cover.{one_point, HasPoint}
use Rattle.touch.specs.Inner.Outer.{all_above, all_below}
use Rattle.touch.proofs.Points.{≤ℤ_refl, point_is_touched}
use Rattle.touch.proofs.Theorem.{ordered_corner_is_touching}
use Rattle.inside.specs.Point.{InBox, BeyondEdge}

-- the box has the point, and the point is beyond no edge
pub record PassesAt (e : Edges) (x y : ℤ) : Type 0 where
  pub box : InBox (bounds (starts e)) x y
  pub ab : BeyondEdge e.ab x y → ⊥
  pub bc : BeyondEdge e.bc x y → ⊥
  pub ca : BeyondEdge e.ca x y → ⊥

module _ (x y : ℤ) where
  beyond_separates : (a b c : Vertex) → BeyondEdge (edge_of a b c) x y → Separates a b c (one_point x y)
  beyond_separates a b c (all_above t v) = above t v v v v
  beyond_separates a b c (all_below t v) = below t v v v v

  separates_beyond : (a b c : Vertex) → Separates a b c (one_point x y) → BeyondEdge (edge_of a b c) x y
  separates_beyond a b c (above t p q r s) = all_above t p
  separates_beyond a b c (below t p q r s) = all_below t p

  shape_passes : (shape : Shape) → PassesAt (edges_of (three shape)) x y ↔ HasPoint shape x y
  shape_passes shape =
      let a = (three shape).a in
      let b = (three shape).b in
      let c = (three shape).c in
      let e = ordered_corner_is_touching {shape = shape} {q = one_point x y} (≤ℤ_refl x) (≤ℤ_refl y) in
      let p = point_is_touched shape {x = x} {y = y} in (
        (λ h. p.1 (e.0 (record {
          box = h.box;
          ab = λ s. h.ab (separates_beyond a b c s);
          bc = λ s. h.bc (separates_beyond b c a s);
          ca = λ s. h.ca (separates_beyond c a b s);
        }))),
        (λ h. let k = e.1 (p.0 h) in record {
          box = k.box;
          ab = λ s. k.ab (beyond_separates a b c s);
          bc = λ s. k.bc (beyond_separates b c a s);
          ca = λ s. k.ca (beyond_separates c a b s);
        }),
      )

  -- what is computed of the edges of a shape decides
  pub outline_passes : {e : Edges} → Outline e → PassesAt e x y ↔ HasPoint (triangle (starts e)) x y
  outline_passes {e} o = subst (λ (d : Edges). PassesAt d x y ↔ HasPoint (triangle (starts e)) x y) (sym o.is) (shape_passes (triangle (starts e)))
