-- The stepping walk of a shape that lies on the screen: the tiles that it tests, in order, and the tiles that it lists.
use Rattle.std.specs.Prelude.{ℕ, zero, suc, ◌*◌, ◌-◌, ◌≤◌, ◌<◌, cond, ◌≡◌, List, [], ◌∷◌, ◌++◌, ℤ, pos, ◌≤ℤ◌}
use Rattle.std.specs.Int.Signed.{lt_z, le_z}
use Rattle.screen.specs.declared.Screen.{Screen}
use Rattle.screen.specs.declared.Span.{Span}
use Rattle.screen.specs.Screen.{columns, rows, tile_at}
use Rattle.screen.specs.Rectangle.{rectangle_at, Meets}
use Rattle.screen.specs.Held.{rounded_down, rounded_up_less_one}
use Rattle.shape.specs.declared.Vertex.{Vertex}
use Rattle.shape.specs.declared.Shape.{Shape}
use Rattle.shape.specs.Shape.{vertices, Every}
use Rattle.touch.specs.Touches.{Touches}
use Rattle.touch.specs.declared.Three.{Three}
use Rattle.touch.specs.Corner.{three, bounds}

-- ---- the shapes that are walked so

-- from 0 to 16·extent, along an axis of that extent
pub record OnAxis (extent : ℕ) (z : ℤ) : Type 0 where
  pub from : pos 0 ≤ℤ z
  pub to : z ≤ℤ pos (16 * extent)

pub record OnGlass (d : Screen) (v : Vertex) : Type 0 where
  pub x : OnAxis d.width v.x
  pub y : OnAxis d.height v.y

abbrev pub OnScreen : Screen → Shape → Type 0
OnScreen d shape = Every (OnGlass d) (vertices shape)

-- ---- where it starts and where it ends

-- of two vertices the upper one; of two at one height the left one
unfoldable pub upper : Vertex → Vertex → Vertex
upper v w = cond (lt_z v.y w.y) v (cond (lt_z w.y v.y) w (cond (le_z v.x w.x) v w))

-- the topmost vertex, the leftmost of several
abbrev pub topmost : Three → Vertex
topmost t = upper t.a (upper t.b t.c)

-- the start tile: column x/T rounded down, row y/T rounded up less one, each held to the grid
abbrev pub start_column : Screen → Shape → ℕ
start_column d shape = rounded_down d.width d.s (topmost (three shape)).x

abbrev pub start_row : Screen → Shape → ℕ
start_row d shape = rounded_up_less_one d.height d.s (topmost (three shape)).y

-- the last row that the shape's bounding box meets
pub record LastRow (d : Screen) (shape : Shape) (row : ℕ) : Type 0 where
  pub within : row < rows d
  pub meets : Meets d.height d.s (bounds (three shape)).top (bounds (three shape)).bottom row
  pub last : (k : ℕ) → k < rows d → Meets d.height d.s (bounds (three shape)).top (bounds (three shape)).bottom k → k ≤ row

-- ---- the tests of a row; each gives the numbers of the tested tiles in order

-- what a test of the tile in a column and a row answers
abbrev pub Hit : Screen → Shape → (row column : ℕ) → Type 0
Hit d shape row column = Touches shape (rectangle_at d column row)

-- tests from a column to the right, until a miss or the grid's edge; the run ends before `end`
pub data Right (d : Screen) (shape : Shape) (row : ℕ) : (column end : ℕ) → List ℕ → Type 0 where
  edge : {c : ℕ} → c ≡ columns d → Right d shape row c c []
  miss : {c : ℕ} → c < columns d → (Hit d shape row c → ⊥) → Right d shape row c c (tile_at d c row ∷ [])
  hit : {c end : ℕ} {ts : List ℕ} → c < columns d → Hit d shape row c → Right d shape row (suc c) end ts → Right d shape row c end (tile_at d c row ∷ ts)

-- tests from the column before `column` to the left, until a miss or the grid's edge; the run starts with `first`
pub data Left (d : Screen) (shape : Shape) (row : ℕ) : (column first : ℕ) → List ℕ → Type 0 where
  edge : Left d shape row zero zero []
  miss : {c : ℕ} → (Hit d shape row c → ⊥) → Left d shape row (suc c) (suc c) (tile_at d c row ∷ [])
  hit : {c first : ℕ} {ts : List ℕ} → Hit d shape row c → Left d shape row c first ts → Left d shape row (suc c) first (tile_at d c row ∷ ts)

-- tests from a column to the right and before `end`, until one is touched; that is `found`
pub data Find (d : Screen) (shape : Shape) (row end : ℕ) : (column found : ℕ) → List ℕ → Type 0 where
  hit : {c : ℕ} → c < end → Hit d shape row c → Find d shape row end c c (tile_at d c row ∷ [])
  miss : {c found : ℕ} {ts : List ℕ} → c < end → (Hit d shape row c → ⊥) → Find d shape row end (suc c) found ts
      → Find d shape row end c found (tile_at d c row ∷ ts)

-- a row from its start tile, which is not tested here: to the right, then to the left
pub data InRow (d : Screen) (shape : Shape) (row start : ℕ) : (run : Span) → List ℕ → Type 0 where
  both : {run : Span} {right left : List ℕ} → Right d shape row (suc start) run.end right → Left d shape row start run.start left
      → InRow d shape row start run (right ++ left)

-- ---- the rows

-- n numbers from t on
abbrev pub numbers_from : (t n : ℕ) → List ℕ
numbers_from t zero = []
numbers_from t (suc n) = t ∷ numbers_from (suc t) n

-- the tiles of a run
abbrev pub run_tiles : Screen → (row : ℕ) → Span → List ℕ
run_tiles d row run = numbers_from (tile_at d run.start row) (run.end - run.start)

-- the walk up to a row and with it: the run of the row, the tiles listed so far and the tiles tested so far
pub data Steps (d : Screen) (shape : Shape) : (row : ℕ) (run : Span) (listed tested : List ℕ) → Type 0 where
  start : {run : Span} {tested : List ℕ} → InRow d shape (start_row d shape) (start_column d shape) run tested
      → Steps d shape (start_row d shape) run (run_tiles d (start_row d shape) run) tested
  next : {row found : ℕ} {run run' : Span} {listed tested below beside : List ℕ} → Steps d shape row run listed tested
      → Find d shape (suc row) run.end run.start found below → InRow d shape (suc row) found run' beside
      → Steps d shape (suc row) run' (listed ++ run_tiles d (suc row) run') (tested ++ (below ++ beside))

-- the whole walk: it ends with the last row that the bounding box meets
pub record Walk (d : Screen) (shape : Shape) (listed tested : List ℕ) : Type 0 where
  pub row : ℕ
  pub last : LastRow d shape row
  pub run : Span
  pub steps : Steps d shape row run listed tested
