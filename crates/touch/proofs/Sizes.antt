-- How large the numbers of an edge are, from the range of the vertices and of the sides.
use Prim.Native.Nat.{ℕ, ◌≤◌}
use mathlib.Core.Path.{◌≡◌, refl, sym, subst}
use mathlib.Core.Bool.{Bool, true, false, cond}
use lib.IntN.{ℤ, pos, nat_abs, ◌-ℤ◌, ◌*ℤ◌}
use lib.Signed.{◌≤ℤ◌, le_z}
use mir.Syntax.{w32, w64}
use Rattle.numbers.specs.Is.{Is, kept}
use Rattle.numbers.proofs.Diff.{≤ℤ_trans}
use Rattle.numbers.proofs.Is.{is_range, is_sub, is_mul, is_kept}
use Rattle.screen.specs.declared.Rectangle.{Rectangle}
use Rattle.screen.specs.Rectangle.{Proper}
use Rattle.shape.specs.declared.Vertex.{Vertex}
use Rattle.shape.specs.declared.Shape.{Shape}
use Rattle.shape.specs.declared.Shape.TheVariants.{Point, Line, Triangle}
use Rattle.shape.specs.Shape.{InUnits, Placed, InRange}
use Rattle.touch.specs.declared.Three.{Three}
use Rattle.touch.specs.declared.Edge.{Edge}
use Rattle.touch.specs.declared.Edges.{Edges}
use Rattle.touch.specs.Corner.{three, greater, bounds}
use Rattle.touch.specs.Edges.{AllPlaced, edge_of, edges_of, Outline, row_edge, row_edges, Within, EdgeRange, EdgesRange, RowEdgeRange, RowEdgesRange}

pub is_within : {z : ℤ} {size : ℕ} → Within size z → Is z z size
is_within h = record { same = refl; size = h.abs }

within : {z : ℤ} {size : ℕ} → Is z z size → Within size z
within p = record { abs = p.size }

-- ---- the vertices of a shape that is in range, and the sides of a rectangle

pub three-placed : (shape : Shape) → InRange shape → AllPlaced (three shape)
three-placed (Point a) h = record { a = h.0; b = h.0; c = h.0 }
three-placed (Line a b) h = record { a = h.0; b = h.1.0; c = h.1.0 }
three-placed (Triangle a b c) h = record { a = h.0; b = h.1.0; c = h.1.1.0 }

pub unit : {z : ℤ} → InUnits z → Is z z 262144
unit p = is_range 262143 262143 p.low p.high

-- a coordinate as the machine widens it
pub wide : {z : ℤ} → InUnits z → Is (kept w64 (kept w32 z)) z 262144
wide p = is_kept w64 tt (is_kept w32 tt (unit p))

pub side_within : {z : ℤ} → pos 0 ≤ℤ z → z ≤ℤ pos 524288 → Within 524288 z
side_within l h = within (is_range 0 524288 (≤ℤ_trans (record { le = tt }) l) h)

module _ {q : Rectangle} (ok : Proper q) where
  pub left_within : Within 524288 q.left
  left_within = side_within ok.left≥ (≤ℤ_trans ok.wide ok.right≤)

  pub right_within : Within 524288 q.right
  right_within = side_within (≤ℤ_trans ok.left≥ ok.wide) ok.right≤

  pub top_within : Within 524288 q.top
  top_within = side_within ok.top≥ (≤ℤ_trans ok.high ok.bottom≤)

  pub bottom_within : Within 524288 q.bottom
  bottom_within = side_within (≤ℤ_trans ok.top≥ ok.high) ok.bottom≤

-- a side is read as it is
pub side_read : {z : ℤ} → Within 524288 z → kept w64 z ≡ z
side_read h = (is_kept w64 tt (is_within h)).same

pub read_within : {z : ℤ} → Within 524288 z → Within 524288 (kept w64 z)
read_within h = subst (Within 524288) (sym (side_read h)) h

-- the greatest coordinates are coordinates of vertices
picked : (t : Bool) {x y : ℤ} → InUnits x → InUnits y → InUnits (cond t x y)
picked true p q = p
picked false p q = q

greatest : {x y : ℤ} → InUnits x → InUnits y → InUnits (greater x y)
greatest {x} {y} p q = picked (le_z x y) q p

module _ {t : Three} (p : AllPlaced t) where
  pub right_in_units : InUnits (bounds t).right
  unfolding bounds
  right_in_units = greatest p.a.x (greatest p.b.x p.c.x)

  pub bottom_in_units : InUnits (bounds t).bottom
  unfolding bounds
  bottom_in_units = greatest p.a.y (greatest p.b.y p.c.y)

-- ---- the way from a vertex to a side, as the machine computes it, and its product with a difference

pub way : {z y : ℤ} → Within 524288 z → Within 262144 y → Is (kept w64 z -ℤ kept w64 y) (z -ℤ y) 786432
way p q = is_sub (is_kept w64 tt (is_within p)) (is_kept w64 tt (is_within q))

pub part : {z y d : ℤ} → Within 524288 z → Within 262144 y → Within 524288 d
    → Is (kept w64 (kept w64 z -ℤ kept w64 y) *ℤ kept w64 d) ((z -ℤ y) *ℤ d) 412316860416
part p q r = is_mul (is_kept w64 tt (way p q)) (is_kept w64 tt (is_within r))

-- the lesser and the greater of two are as small as both
pub picked_size : (t : Bool) (x y : ℤ) {M : ℕ} → nat_abs x ≤ M → nat_abs y ≤ M → nat_abs (cond t x y) ≤ M
picked_size true x y p q = p
picked_size false x y p q = q

-- ---- the edges, and the edges in a row

edge_range : {a b : Vertex} (c : Vertex) → Placed a → Placed b → EdgeRange (edge_of a b c)
edge_range c p q =
    record {
      x = within (unit p.x);
      y = within (unit p.y);
      dx = within (is_sub (unit q.x) (unit p.x));
      dy = within (is_sub (unit q.y) (unit p.y));
    }

pub edges_range : {t : Three} → AllPlaced t → EdgesRange (edges_of t)
edges_range {t} p =
    record { ab = edge_range t.c p.a p.b; bc = edge_range t.a p.b p.c; ca = edge_range t.b p.c p.a }

pub row_edge_range : {e : Edge} {top bottom : ℤ} → EdgeRange e → Within 524288 top → Within 524288 bottom → RowEdgeRange (row_edge e top bottom)
row_edge_range r t b =
    record {
      x = r.x;
      dy = r.dy;
      upper = within (is_mul (is_sub (is_within t) (is_within r.y)) (is_within r.dx));
      lower = within (is_mul (is_sub (is_within b) (is_within r.y)) (is_within r.dx));
    }

pub row_edges_range : {e : Edges} {top bottom : ℤ} → EdgesRange e → Within 524288 top → Within 524288 bottom → RowEdgesRange (row_edges e top bottom)
row_edges_range r t b =
    record { ab = row_edge_range r.ab t b; bc = row_edge_range r.bc t b; ca = row_edge_range r.ca t b }

-- ---- the edges of three vertices in range

pub outline : {t : Three} → AllPlaced t → Outline (edges_of t)
outline p = record { is = refl; placed = p }

pub outline_range : {e : Edges} → Outline e → EdgesRange e
outline_range o = subst EdgesRange (sym o.is) (edges_range o.placed)
