-- The price of a bin: how many tests it makes at most.
use Rattle.std.specs.Prelude.{◌≡◌, List, ℕ, ◌+◌, ◌*◌, ◌≤◌, length, Ok}
use Rattle.shape.specs.declared.Shape.{Shape}
use Rattle.walk.specs.Touched.{TouchedTiles}
use Rattle.stepping.specs.Stepped.{RowsOf}
use Rattle.snap.specs.declared.PixelShape.{PixelShape}
use Rattle.pool.specs.Sound.{screen_of}
use Rattle.calls.specs.Told.{Binned}
use Rattle.calls.specs.Tables.{BinSays, BinPixelsSays}
use Rattle.snap.specs.Shapes.{shape_of}

-- with ts the tiles that the shape touches and rs the rows in which these stand, the tests are at most twice the tiles listed and the rows listed
abbrev pub Priced : (p : List ℕ) → Shape → Binned → Type 0
Priced p shape a = (ts rs : List ℕ) → TouchedTiles (screen_of p) shape ts → RowsOf (screen_of p) ts rs → a.tests ≤ 2 * a.tiles + length rs

-- of every bin, whatever its answer
abbrev pub BinPrice : Type 0
BinPrice = (p : List ℕ) (shape : Shape) (id : ℕ) (a : Binned) (q : List ℕ) → BinSays p shape id a q → Priced p shape a

abbrev pub BinPixelsPrice : Type 0
BinPixelsPrice =
    (p : List ℕ) (shape : PixelShape) (id : ℕ) (a : Binned) (q : List ℕ) → BinPixelsSays p shape id a q
    → (whole : Shape) → shape_of shape ≡ Ok whole → Priced p whole a
