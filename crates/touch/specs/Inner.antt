-- The test for covering: the edge values at the four corners, against that of the third vertex. It answers as `CoverSays` does.
use Rattle.std.specs.Prelude.{ℤ, pos, ◌-ℤ◌, ◌*ℤ◌, ◌≤ℤ◌, ◌<ℤ◌}
use Rattle.screen.specs.declared.Rectangle.{Rectangle}
use Rattle.shape.specs.declared.Vertex.{Vertex}
use Rattle.shape.specs.declared.Shape.{Shape}
use Rattle.touch.specs.declared.RowEdge.{RowEdge}
use Rattle.touch.specs.declared.RowEdges.{RowEdges}
use Rattle.touch.specs.declared.Corners.{Corners}
use Rattle.touch.specs.declared.Ends.{Ends}
use Rattle.touch.specs.declared.Cover as answer
use Rattle.touch.specs.Corner.{three, lesser, greater, edge_value, Apart}
use Rattle.touch.specs.Edges.{Clear}

-- an edge value lies on the third vertex's side or is 0, and the third vertex has a side
pub data OnSide (third v : ℤ) : Type 0 where
  over : pos 0 <ℤ third → pos 0 ≤ℤ v → OnSide third v
  under : third <ℤ pos 0 → v ≤ℤ pos 0 → OnSide third v

-- the values at all four corners lie so
pub record AllOnSide (third : ℤ) (v : Corners) : Type 0 where
  pub p : OnSide third v.p
  pub q : OnSide third v.q
  pub r : OnSide third v.r
  pub s : OnSide third v.s

-- the four corners are apart from the shape
abbrev pub AllApart : ℤ → Corners → Type 0
AllApart third v = Apart third v.p v.q v.r v.s

-- the values of the edge from a to b at the corners of a rectangle
abbrev pub corners_of : (a b : Vertex) → Rectangle → Corners
corners_of a b q =
    record {
      p = edge_value a b q.left q.top;
      q = edge_value a b q.right q.top;
      r = edge_value a b q.left q.bottom;
      s = edge_value a b q.right q.bottom;
    }

-- the edge between a and b has all four corners on the side of c
abbrev pub Keeps : (a b c : Vertex) → Rectangle → Type 0
Keeps a b c q = AllOnSide (edge_value a b c.x c.y) (corners_of a b q)

-- every edge does: the shape has an area, and no corner is beyond an edge
pub record Enclosed (shape : Shape) (q : Rectangle) : Type 0 where
  pub ab : Keeps (three shape).a (three shape).b (three shape).c q
  pub bc : Keeps (three shape).b (three shape).c (three shape).a q
  pub ca : Keeps (three shape).c (three shape).a (three shape).b q

-- ---- in a row

abbrev pub corners_at : RowEdge → (left right : ℤ) → Corners
corners_at e left right =
    record {
      p = (left -ℤ e.x) *ℤ e.dy -ℤ e.upper;
      q = (right -ℤ e.x) *ℤ e.dy -ℤ e.upper;
      r = (left -ℤ e.x) *ℤ e.dy -ℤ e.lower;
      s = (right -ℤ e.x) *ℤ e.dy -ℤ e.lower;
    }

pub record EnclosedAt (e : RowEdges) (left right : ℤ) : Type 0 where
  pub ab : AllOnSide e.ab.third (corners_at e.ab left right)
  pub bc : AllOnSide e.bc.third (corners_at e.bc left right)
  pub ca : AllOnSide e.ca.third (corners_at e.ca left right)

-- what each answer says of the edges in a row, from left to right
abbrev pub CoverAt : answer.Cover → RowEdges → (left right : ℤ) → Type 0
CoverAt answer.TheVariants.Apart e left right = Clear e left right → ⊥
CoverAt answer.TheVariants.Partly e left right = Clear e left right × (EnclosedAt e left right → ⊥)
CoverAt answer.TheVariants.Wholly e left right = EnclosedAt e left right

-- ---- by the least and the greatest of the four values

abbrev pub ends_at : RowEdge → (left right : ℤ) → Ends
ends_at e left right =
    record {
      least = lesser ((left -ℤ e.x) *ℤ e.dy) ((right -ℤ e.x) *ℤ e.dy) -ℤ greater e.upper e.lower;
      greatest = greater ((left -ℤ e.x) *ℤ e.dy) ((right -ℤ e.x) *ℤ e.dy) -ℤ lesser e.upper e.lower;
    }

-- all values lie strictly on a side on which the third vertex does not lie
pub data Outer (third : ℤ) (v : Ends) : Type 0 where
  all_above : third ≤ℤ pos 0 → pos 0 <ℤ v.least → Outer third v
  all_below : pos 0 ≤ℤ third → v.greatest <ℤ pos 0 → Outer third v

-- all values lie on the third vertex's side or are 0, and it has a side
pub data Inner (third : ℤ) (v : Ends) : Type 0 where
  none_below : pos 0 <ℤ third → pos 0 ≤ℤ v.least → Inner third v
  none_above : third <ℤ pos 0 → v.greatest ≤ℤ pos 0 → Inner third v
