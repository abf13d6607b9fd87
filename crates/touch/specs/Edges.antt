-- What the corner test computes once for a shape, and once for a row of rectangles.
use Rattle.std.specs.Prelude.{ℕ, ◌≤◌, ◌≡◌, ℤ, nat_abs, ◌-ℤ◌, ◌*ℤ◌}
use Rattle.shape.specs.declared.Vertex.{Vertex}
use Rattle.shape.specs.Shape.{Placed}
use Rattle.touch.specs.declared.Three.{Three}
use Rattle.touch.specs.declared.Edge.{Edge}
use Rattle.touch.specs.declared.Edges.{Edges}
use Rattle.touch.specs.declared.RowEdge.{RowEdge}
use Rattle.touch.specs.declared.RowEdges.{RowEdges}
use Rattle.touch.specs.Corner.{edge_value, Apart}

pub record AllPlaced (t : Three) : Type 0 where
  pub a : Placed t.a
  pub b : Placed t.b
  pub c : Placed t.c

-- the edge from a to b, and the edge value of c
abbrev pub edge_of : (a b c : Vertex) → Edge
edge_of a b c =
    record {
      x = a.x;
      y = a.y;
      dx = b.x -ℤ a.x;
      dy = b.y -ℤ a.y;
      third = edge_value a b c.x c.y;
    }

abbrev pub edges_of : Three → Edges
edges_of t =
    record {
      ab = edge_of t.a t.b t.c;
      bc = edge_of t.b t.c t.a;
      ca = edge_of t.c t.a t.b;
    }

-- the vertices at which the edges start
abbrev pub starts : Edges → Three
starts e =
    record {
      a = record { x = e.ab.x; y = e.ab.y };
      b = record { x = e.bc.x; y = e.bc.y };
      c = record { x = e.ca.x; y = e.ca.y };
    }

-- the edges are those of three vertices in range
pub record Outline (e : Edges) : Type 0 where
  pub is : e ≡ edges_of (starts e)
  pub placed : AllPlaced (starts e)

-- an edge, at the top and the bottom of a row
abbrev pub row_edge : Edge → (top bottom : ℤ) → RowEdge
row_edge e top bottom =
    record {
      x = e.x;
      dy = e.dy;
      third = e.third;
      upper = (top -ℤ e.y) *ℤ e.dx;
      lower = (bottom -ℤ e.y) *ℤ e.dx;
    }

abbrev pub row_edges : Edges → (top bottom : ℤ) → RowEdges
row_edges e top bottom =
    record { ab = row_edge e.ab top bottom; bc = row_edge e.bc top bottom; ca = row_edge e.ca top bottom }

-- in its row, from left to right, the four corners are apart from the shape
abbrev pub ApartAt : RowEdge → (left right : ℤ) → Type 0
ApartAt e left right =
    Apart e.third
    ((left -ℤ e.x) *ℤ e.dy -ℤ e.upper)
    ((right -ℤ e.x) *ℤ e.dy -ℤ e.upper)
    ((left -ℤ e.x) *ℤ e.dy -ℤ e.lower)
    ((right -ℤ e.x) *ℤ e.dy -ℤ e.lower)

-- no edge separates
pub record Clear (e : RowEdges) (left right : ℤ) : Type 0 where
  pub ab : ApartAt e.ab left right → ⊥
  pub bc : ApartAt e.bc left right → ⊥
  pub ca : ApartAt e.ca left right → ⊥

-- ---- how large the numbers of an edge are

pub record Within (size : ℕ) (z : ℤ) : Type 0 where
  pub abs : nat_abs z ≤ size

pub record EdgeRange (e : Edge) : Type 0 where
  pub x : Within 262144 e.x
  pub y : Within 262144 e.y
  pub dx : Within 524288 e.dx
  pub dy : Within 524288 e.dy

pub record EdgesRange (e : Edges) : Type 0 where
  pub ab : EdgeRange e.ab
  pub bc : EdgeRange e.bc
  pub ca : EdgeRange e.ca

pub record RowEdgeRange (e : RowEdge) : Type 0 where
  pub x : Within 262144 e.x
  pub dy : Within 524288 e.dy
  pub upper : Within 412316860416 e.upper
  pub lower : Within 412316860416 e.lower

pub record RowEdgesRange (e : RowEdges) : Type 0 where
  pub ab : RowEdgeRange e.ab
  pub bc : RowEdgeRange e.bc
  pub ca : RowEdgeRange e.ca
