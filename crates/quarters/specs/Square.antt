-- A square of tiles: which tiles of a screen are its, the rectangle that they make, and what is meant by its being touched.
use Rattle.std.specs.Prelude.{ℕ, ◌+◌, ◌*◌, ◌-◌, ◌/◌, ◌%◌, ◌^◌, ◌≤◌, ◌<◌, min, ◌≡◌}
use Rattle.screen.specs.declared.Screen.{Screen}
use Rattle.screen.specs.declared.Rectangle.{Rectangle}
use Rattle.screen.specs.Screen.{columns, rows, tiles, column_of, row_of}
use Rattle.screen.specs.Rectangle.{near, far, rectangle}
use Rattle.shape.specs.declared.Shape.{Shape}
use Rattle.touch.specs.declared.Cover as answer
use Rattle.touch.specs.declared.Edges.{Edges}
use Rattle.touch.specs.declared.Inward.{Inward}
use Rattle.touch.specs.Touches.{Touches}
use Rattle.touch.specs.Look.{InwardOf}
use Rattle.quarters.specs.declared.Square.{Square}

-- tile t is on the grid and stands in the square: among its 2^exponent columns and as many rows
pub record InSquare (d : Screen) (q : Square) (t : ℕ) : Type 0 where
  pub on_grid : t < tiles d
  pub column≥ : q.column ≤ column_of d t
  pub column< : column_of d t < q.column + 2 ^ q.exponent
  pub row≥ : q.row ≤ row_of d t
  pub row< : row_of d t < q.row + 2 ^ q.exponent

-- and the shape touches it
abbrev pub TouchedIn : Screen → Shape → Square → ℕ → Type 0
TouchedIn d shape q t = InSquare d q t × Touches shape (rectangle d t)

-- some tile of the square is touched
pub record SomeTouchedIn (d : Screen) (shape : Shape) (q : Square) : Type 0 where
  pub tile : ℕ
  pub touched : TouchedIn d shape q tile

-- the first tile of the square is on the grid; where it is not, none is
pub record StartsOnGrid (d : Screen) (q : Square) : Type 0 where
  pub column : q.column < columns d
  pub row : q.row < rows d

-- of n tiles along an axis, one past the last of the 2^e from k on
abbrev pub past_of : (n k e : ℕ) → ℕ
past_of n k e = min (k + 2 ^ e) n

-- the rectangle of the square: from where its first tile begins to where its last on the grid ends
abbrev pub square_rectangle : Screen → Square → Rectangle
square_rectangle d q =
    record {
      left = near d.width d.s q.column;
      right = far d.width d.s (past_of (columns d) q.column q.exponent - 1);
      top = near d.height d.s q.row;
      bottom = far d.height d.s (past_of (rows d) q.row q.exponent - 1);
    }

-- what each answer says of a square: that none of its tiles is touched, that one is, that all are
abbrev pub SquareSays : answer.Cover → Screen → Shape → Square → Type 0
SquareSays answer.TheVariants.Apart d shape q = SomeTouchedIn d shape q → ⊥
SquareSays answer.TheVariants.Partly d shape q = SomeTouchedIn d shape q
SquareSays answer.TheVariants.Wholly d shape q = (t : ℕ) → InSquare d q t → Touches shape (rectangle d t)

-- the edges that are named have the square on their inner side
abbrev pub InwardOn : Inward → Screen → Edges → Square → Type 0
InwardOn w d e q = StartsOnGrid d q → InwardOf w e (square_rectangle d q)

-- ---- the split

-- square k of four squares of one side, of which q is the first: 0 and 1 above, from the left, 2 and 3 below
abbrev pub beside_of : Square → (k : ℕ) → Square
beside_of q k = record { column = q.column + k % 2 * 2 ^ q.exponent; row = q.row + k / 2 * 2 ^ q.exponent; exponent = q.exponent }

-- the first quarter of a square; the four of which it is the first are the square's quarters
abbrev pub first_quarter : Square → Square
first_quarter q = record { column = q.column; row = q.row; exponent = q.exponent - 1 }

-- tile t stands in one of the first n of these four, and is touched
abbrev pub TouchedInFirst : Screen → Shape → Square → (n : ℕ) → ℕ → Type 0
TouchedInFirst d shape q n t = (k : ℕ) × (k < n) × TouchedIn d shape (beside_of q k) t

-- the square lies among 512 by 512 tiles, which no grid passes
pub record Small (q : Square) : Type 0 where
  pub exponent : q.exponent ≤ 9
  pub column : q.column + 2 ^ q.exponent ≤ 512
  pub row : q.row + 2 ^ q.exponent ≤ 512

-- 2^e is the smallest power of two that is no less than m and n
pub record Smallest (m n e : ℕ) : Type 0 where
  pub first : m ≤ 2 ^ e
  pub second : n ≤ 2 ^ e
  pub least : (k : ℕ) → m ≤ 2 ^ k → n ≤ 2 ^ k → e ≤ k

-- the smallest square, its side a power of two, that holds the grid from its first tile on
pub record HoldsGrid (d : Screen) (q : Square) : Type 0 where
  pub column : q.column ≡ 0
  pub row : q.row ≡ 0
  pub smallest : Smallest (columns d) (rows d) q.exponent
  pub small : Small q
