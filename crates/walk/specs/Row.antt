-- What the walk finds in a row: the first touched column, and the run from a column on.
use Rattle.std.specs.Prelude.{ℕ, ◌+◌, ◌≤◌, ◌<◌, ◌≡◌, List, length, get_or}
use Rattle.numbers.specs.Flag.{plain, is_flagged}
use Rattle.numbers.specs.Says.{Says}
use Rattle.screen.specs.declared.Screen.{Screen}
use Rattle.screen.specs.declared.Span.{Span}
use Rattle.screen.specs.Screen.{columns}
use Rattle.screen.specs.Rectangle.{near, far, Meets, Meeting}
use Rattle.shape.specs.declared.Shape.{Shape}
use Rattle.touch.specs.declared.Three.{Three}
use Rattle.touch.specs.declared.Edges.{Edges}
use Rattle.touch.specs.declared.RowEdges.{RowEdges}
use Rattle.touch.specs.declared.Cover as answer
use Rattle.touch.specs.Corner.{bounds, triangle}
use Rattle.touch.specs.Edges.{starts, row_edges, RowEdgesRange, Clear}
use Rattle.touch.specs.Inner.{EnclosedAt, CoverAt}
use Rattle.walk.specs.declared.Spans.{Spans}

-- r are the edges in a row, small enough for the test
pub record InTheRow (d : Screen) (e : Edges) (row : ℕ) (r : RowEdges) : Type 0 where
  pub is : r ≡ row_edges e (near d.height d.s row) (far d.height d.s row)
  pub range : RowEdgesRange r

-- no edge separates the tile of that column
abbrev pub ClearIn : Screen → RowEdges → ℕ → Type 0
ClearIn d e column = Clear e (near d.width d.s column) (far d.width d.s column)

-- every edge has its corners on the inner side
abbrev pub EnclosedIn : Screen → RowEdges → ℕ → Type 0
EnclosedIn d e column = EnclosedAt e (near d.width d.s column) (far d.width d.s column)

-- what an answer says of it
abbrev pub CoverIn : answer.Cover → Screen → RowEdges → ℕ → Type 0
CoverIn r d e column = CoverAt r e (near d.width d.s column) (far d.width d.s column)

-- the word w names the tile of a column, and its flag says whether that tile is enclosed; base is the number of the row's first tile
pub record Tested (d : Screen) (e : RowEdges) (base w : ℕ) : Type 0 where
  pub column : ℕ
  pub within : column < columns d
  pub number : plain w ≡ base + column
  pub says : Says (is_flagged w) (EnclosedIn d e column)

-- r is the first column of the span with P, or one past the span where it has none
pub record First (P : ℕ → Type 0) (span : Span) (r : ℕ) : Type 0 where
  pub from : span.start ≤ r
  pub none : (k : ℕ) → span.start ≤ k → k < r → P k → ⊥
  pub first : r < span.end → P r

-- the numbers from base + from on and before base + stop stand from place count on and before place n; every other place is as it was; P holds of the columns
pub record Run (P : ℕ → Type 0) (base from stop count n : ℕ) (old new : List ℕ) : Type 0 where
  pub size : length new ≡ length old
  pub from≤ : from ≤ stop
  pub as_many : n + from ≡ count + stop
  pub all : (k : ℕ) → from ≤ k → k < stop → P k
  pub written : (i : ℕ) → count ≤ i → i < n → get_or new i 0 + count ≡ base + from + i
  pub under : (i : ℕ) → i < count → get_or new i 0 ≡ get_or old i 0
  pub over : (i : ℕ) → n ≤ i → get_or new i 0 ≡ get_or old i 0

-- the run from the start of the span: it stops at the span's end, or where P does not hold
pub record RunIn (P : ℕ → Type 0) (base : ℕ) (span : Span) (count n : ℕ) (old new : List ℕ) : Type 0 where
  pub stop : ℕ
  pub within : stop ≤ span.end
  pub run : Run P base span.start stop count n old new
  pub ends : stop < span.end → P stop → ⊥

-- ---- the shape that the edges are of, and its bounding box

-- the columns and the rows that the bounding box of the vertices meets
pub record MeetingBox (d : Screen) (t : Three) (spans : Spans) : Type 0 where
  pub columns : Meeting d.width d.s (bounds t).left (bounds t).right spans.columns
  pub rows : Meeting d.height d.s (bounds t).top (bounds t).bottom spans.rows

abbrev pub outlined : Edges → Shape
outlined e = triangle (starts e)

abbrev pub MeetingColumns : Screen → Edges → Span → Type 0
MeetingColumns d e span = Meeting d.width d.s (bounds (starts e)).left (bounds (starts e)).right span

abbrev pub MeetingRows : Screen → Edges → Span → Type 0
MeetingRows d e span = Meeting d.height d.s (bounds (starts e)).top (bounds (starts e)).bottom span

abbrev pub MeetsRow : Screen → Edges → ℕ → Type 0
MeetsRow d e row = Meets d.height d.s (bounds (starts e)).top (bounds (starts e)).bottom row
