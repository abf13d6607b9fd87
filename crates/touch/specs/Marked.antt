-- The marked cases of the rules: shapes, and the tiles that each touches.
use Rattle.std.specs.Prelude.{ℕ, ◌<◌, Bool, false, ◌||◌, List, [], ◌∷◌, eqb, ℤ, pos, neg_ℤ}
use Rattle.numbers.specs.Says.{Says}
use Rattle.screen.specs.declared.Screen.{Screen}
use Rattle.screen.specs.Screen.{tiles}
use Rattle.screen.specs.Rectangle.{rectangle}
use Rattle.shape.specs.declared.Vertex.{Vertex}
use Rattle.shape.specs.declared.Shape.{Shape}
use Rattle.shape.specs.declared.Shape.TheVariants.{Point, Line, Triangle}
use Rattle.touch.specs.Touches.{Touches}
use Rattle.touch.specs.Cover.{Wholly}

-- whether a tile is among those of a list
abbrev pub listed : ℕ → List ℕ → Bool
listed t [] = false
listed t (u ∷ us) = eqb t u || listed t us

-- of the tiles of the screen, the shape touches those of the list and no other
abbrev pub TouchesOnly : Screen → Shape → List ℕ → Type 0
TouchesOnly d shape ts = (t : ℕ) → t < tiles d → Says (listed t ts) (Touches shape (rectangle d t))

-- and it covers those of the list wholly and no other
abbrev pub CoversOnly : Screen → Shape → List ℕ → Type 0
CoversOnly d shape ts = (t : ℕ) → t < tiles d → Says (listed t ts) (Wholly shape (rectangle d t))

-- 64 by 32 pixels, s = 4: four columns and two rows; and a screen that ends inside its last column
abbrev pub screen64 : Screen
screen64 = record { width = 64; height = 32; s = 4 }

abbrev pub screen60 : Screen
screen60 = record { width = 60; height = 32; s = 4 }

abbrev pub at : ℤ → ℤ → Vertex
at x y = record { x = x; y = y }

pub record Case : Type 0 where
  pub shape : Shape
  pub tiles : List ℕ

abbrev pub M8 : Shape
M8 = Triangle (at (pos 0) (pos 0)) (at (pos 512) (pos 512)) (at (pos 256) (pos 256))

abbrev pub M9 : Shape
M9 = Triangle (at (pos 0) (pos 0)) (at (pos 1024) (pos 0)) (at (pos 0) (pos 512))

abbrev pub M10 : Shape
M10 = Triangle (at (pos 0) (pos 0)) (at (pos 0) (pos 512)) (at (pos 1024) (pos 0))

abbrev pub M11 : Shape
M11 = Triangle (at (pos 700) (pos 0)) (at (pos 1024) (pos 0)) (at (pos 1024) (pos 300))

abbrev pub M12 : Shape
M12 = Triangle (at (neg_ℤ (pos 1000)) (neg_ℤ (pos 1000))) (at (pos 5000) (neg_ℤ (pos 1000))) (at (neg_ℤ (pos 1000)) (pos 5000))

-- M1 to M12
abbrev pub table : List Case
table =
    record { shape = Point (at (pos 0) (pos 0)); tiles = 0 ∷ [] }
    ∷ record { shape = Point (at (pos 256) (pos 100)); tiles = 0 ∷ 1 ∷ [] }
    ∷ record { shape = Point (at (pos 256) (pos 256)); tiles = 0 ∷ 1 ∷ 4 ∷ 5 ∷ [] }
    ∷ record { shape = Point (at (pos 1024) (pos 10)); tiles = 3 ∷ [] }
    ∷ record { shape = Point (at (pos 1025) (pos 10)); tiles = [] }
    ∷ record { shape = Line (at (pos 100) (pos 100)) (at (pos 300) (pos 100)); tiles = 0 ∷ 1 ∷ [] }
    ∷ record { shape = Line (at (pos 0) (pos 0)) (at (pos 512) (pos 512)); tiles = 0 ∷ 1 ∷ 4 ∷ 5 ∷ 6 ∷ [] }
    ∷ record { shape = M8; tiles = 0 ∷ 1 ∷ 4 ∷ 5 ∷ 6 ∷ [] }
    ∷ record { shape = M9; tiles = 0 ∷ 1 ∷ 2 ∷ 3 ∷ 4 ∷ 5 ∷ 6 ∷ [] }
    ∷ record { shape = M10; tiles = 0 ∷ 1 ∷ 2 ∷ 3 ∷ 4 ∷ 5 ∷ 6 ∷ [] }
    ∷ record { shape = M11; tiles = 2 ∷ 3 ∷ 7 ∷ [] }
    ∷ record { shape = M12; tiles = 0 ∷ 1 ∷ 2 ∷ 3 ∷ 4 ∷ 5 ∷ 6 ∷ 7 ∷ [] }
    ∷ []

-- the tiles that some of them cover wholly: a corner of tile 1 lies on the long edge of M9 and M10, and M8 has no area
abbrev pub covers : List Case
covers =
    record { shape = M8; tiles = [] }
    ∷ record { shape = M9; tiles = 0 ∷ 1 ∷ [] }
    ∷ record { shape = M10; tiles = 0 ∷ 1 ∷ [] }
    ∷ record { shape = M11; tiles = [] }
    ∷ record { shape = M12; tiles = 0 ∷ 1 ∷ 2 ∷ 3 ∷ 4 ∷ 5 ∷ 6 ∷ 7 ∷ [] }
    ∷ []

-- on the screen of 60 by 32: a triangle whose long edge passes through the last corner of the glass, and one that ends one unit before
abbrev pub to_the_end : Case
to_the_end =
    record {
      shape = Triangle (at (pos 0) (pos 0)) (at (pos 1920) (pos 0)) (at (pos 0) (pos 1024));
      tiles = 0 ∷ 1 ∷ 2 ∷ 3 ∷ 4 ∷ 5 ∷ 6 ∷ 7 ∷ [];
    }

abbrev pub one_less : Case
one_less =
    record {
      shape = Triangle (at (pos 0) (pos 0)) (at (pos 1919) (pos 0)) (at (pos 0) (pos 1024));
      tiles = 0 ∷ 1 ∷ 2 ∷ 3 ∷ 4 ∷ 5 ∷ 6 ∷ [];
    }

-- what holds of every case of a table
abbrev pub EachCase : (Case → Type 0) → List Case → Type 0
EachCase P [] = Unit {0}
EachCase P (m ∷ ms) = P m × EachCase P ms
