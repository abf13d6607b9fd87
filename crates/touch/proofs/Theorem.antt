-- The corner test answers exactly as touching by weights, of every kind of shape, in every winding and with any coincidence of vertices.
use Prim.Native.Nat.{ℕ, ◌+◌}
use mathlib.Core.Path.{ap, sym, subst}
use mathlib.Core.List.{[], ◌∷◌}
use mathlib.Core.Logic.{◌↔◌}
use native.Mathlib.Omega.{arith}
use lib.Signed.{◌≤ℤ◌}
use Rattle.screen.specs.declared.Rectangle.{Rectangle}
use Rattle.screen.specs.Rectangle.{Proper}
use Rattle.shape.specs.declared.Vertex.{Vertex}
use Rattle.shape.specs.declared.Shape.{Shape}
use Rattle.touch.specs.declared.Edges.{Edges}
use Rattle.touch.specs.Touches.{Touches}
use Rattle.touch.specs.Corner.{three, triangle, Box, Corner}
use Rattle.touch.specs.Edges.{edges_of, starts, Outline, row_edges, Clear}
use Rattle.touch.proofs.Bias.{Spotted, Framed, depth, depth_of, spot, frame, spotted, framed, le_lifted, same_edge, same_box, to_hits, from_hits}
use Rattle.touch.proofs.Passing.{hitting_passes}
use Rattle.touch.proofs.Touching.{passing_hits}
use Rattle.touch.proofs.Weights.{touches_as_triangle}

module _ (shape : Shape) (q : Rectangle) where
  abbrev A : Vertex
  A = (three shape).a

  abbrev B : Vertex
  B = (three shape).b

  abbrev C : Vertex
  C = (three shape).c

  abbrev k : ℕ
  k = depth A + depth B + depth C + depth_of q

  a : Spotted k A (spot k A)
  a = spotted k A (omega arith)

  b : Spotted k B (spot k B)
  b = spotted k B (omega arith)

  c : Spotted k C (spot k C)
  c = spotted k C (omega arith)

  f : Framed k q (frame k q)
  f = framed k q (omega arith)

  touching : Touches shape q → Corner shape q
  touching h =
      let g = (touches_as_triangle shape).0 h in
      let p = hitting_passes _ _ _ _ (to_hits k f a b c g.weights g.mean) in
      record {
        box = (same_box k f a b c).1 p.box;
        ab = λ s. p.ab ((same_edge k f a b c).0 s);
        bc = λ s. p.bc ((same_edge k f b c a).0 s);
        ca = λ s. p.ca ((same_edge k f c a b).0 s);
      }

  passing : q.left ≤ℤ q.right → q.top ≤ℤ q.bottom → Corner shape q → Touches shape q
  passing wide high h =
      let p =
      passing_hits _ _ _ _
      (record { wide = (le_lifted k f.al f.ar).0 wide; high = (le_lifted k f.at f.ab).0 high })
      (record {
        box = (same_box k f a b c).0 h.box;
        ab = λ s. h.ab ((same_edge k f a b c).1 s);
        bc = λ s. h.bc ((same_edge k f b c a).1 s);
        ca = λ s. h.ca ((same_edge k f c a b).1 s);
      }) in
      (touches_as_triangle shape).1 (record { weights = p.u ∷ p.v ∷ p.w ∷ []; mean = from_hits k f a b c p })

pub touching_passes_corner : {shape : Shape} {q : Rectangle} → Touches shape q → Corner shape q
touching_passes_corner {shape} {q} = touching shape q

-- whatever touches meets the box
pub touching_meets_box : {shape : Shape} {q : Rectangle} → Touches shape q → Box shape q
touching_meets_box h = (touching_passes_corner h).box

-- of any rectangle whose sides are in order, wherever it lies
pub ordered_corner_is_touching : {shape : Shape} {q : Rectangle} → q.left ≤ℤ q.right → q.top ≤ℤ q.bottom → Corner shape q ↔ Touches shape q
ordered_corner_is_touching {shape} {q} wide high = (passing shape q wide high, touching shape q)

pub corner_is_touching : {shape : Shape} {q : Rectangle} → Proper q → Corner shape q ↔ Touches shape q
corner_is_touching ok = ordered_corner_is_touching ok.wide ok.high

-- where the box is met, what is computed of the edges in the rectangle's row decides
pub clear_is_touching : (shape : Shape) {q : Rectangle} → Proper q → Box shape q
    → Clear (row_edges (edges_of (three shape)) q.top q.bottom) q.left q.right ↔ Touches shape q
clear_is_touching shape {q} ok box =
    let e = corner_is_touching {shape = shape} ok in
    (λ h. e.0 (record { box = box; ab = h.ab; bc = h.bc; ca = h.ca }), λ t. let h = e.1 t in record { ab = h.ab; bc = h.bc; ca = h.ca })

pub outline_clear_is_touching : {e : Edges} {q : Rectangle} → Outline e → Proper q → Box (triangle (starts e)) q
    → Clear (row_edges e q.top q.bottom) q.left q.right ↔ Touches (triangle (starts e)) q
outline_clear_is_touching {e} {q} o ok box =
    let f = clear_is_touching (triangle (starts e)) ok box in
    let row = ap (λ (d : Edges). Clear (row_edges d q.top q.bottom) q.left q.right) o.is in
    (λ h. f.0 (subst (λ (P : Type 0). P) row h), λ t. subst (λ (P : Type 0). P) (sym row) (f.1 t))
