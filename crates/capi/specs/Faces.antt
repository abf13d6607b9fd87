-- The arguments and answers of the exported functions, as the public calls have them: a screen of three numbers, a shape of coordinates, and an answer of
-- the number that is returned and the numbers that are written.
use Rattle.std.specs.Prelude.{◌≡◌, cond, ℕ, ℤ, Float}
use Rattle.screen.specs.declared.Screen.{Screen}
use Rattle.shape.specs.declared.Vertex.{Vertex}
use Rattle.touch.specs.declared.Cover.{Cover}
use Rattle.touch.specs.declared.Cover.TheVariants.{Apart, Partly, Wholly}
use Rattle.snap.specs.declared.PixelVertex.{PixelVertex}
use Rattle.calls.specs.Told.{Rounded}
use Rattle.calls.specs.Told.{Binned}
use Rattle.calls.specs.Told.{Released}
use Rattle.calls.specs.Told.{Found}
use Rattle.calls.specs.Told.{Copied}
use Rattle.calls.specs.Told.{PoolCounts}
use Rattle.calls.specs.Told.{HighWater}
use Rattle.calls.specs.Told.{Answered}
use Rattle.calls.specs.Told.{Counted}
use Rattle.overlaps.specs.declared.Totals.{Totals}
use Rattle.inside.specs.Inside.{Nested}

abbrev pub screen : (width height s : ℕ) → Screen
screen width height s = record { width = width; height = height; s = s }

abbrev pub vertex : (x y : ℤ) → Vertex
vertex x y = record { x = x; y = y }

abbrev pub pixel : (x y : Float) → PixelVertex
pixel x y = record { x = x; y = y }

abbrev pub rounded : (number : ℕ) (unit : ℤ) → Rounded
rounded number unit = record { number = number; unit = unit }

abbrev pub binned : (number tiles blocks tests : ℕ) → Binned
binned number tiles blocks tests = record { number = number; tiles = tiles; blocks = blocks; tests = tests }

abbrev pub released : (number blocks : ℕ) → Released
released number blocks = record { number = number; blocks = blocks }

-- an answer with this number and id, whose yes is written as 1 and whose no as 0, is one that Says allows
pub record ToldFound (Says : Found → Type 0) (number id whole : ℕ) : Type 0 where
  pub answer : Found
  pub says : Says answer
  pub number_is : number ≡ answer.number
  pub id_is : id ≡ answer.id
  pub whole_is : whole ≡ cond answer.whole 1 0

abbrev pub copied : (number count : ℕ) → Copied
copied number count = record { number = number; count = count }

abbrev pub pool_counts : (number tiles blocks free entries : ℕ) → PoolCounts
pool_counts number tiles blocks free entries = record { number = number; tiles = tiles; blocks = blocks; free = free; entries = entries }

abbrev pub high_water : (number entries : ℕ) → HighWater
high_water number entries = record { number = number; entries = entries }

abbrev pub totals : (shapes outOfRange box_tiles touched_tiles difference largest place : ℕ) → Totals
totals shapes outOfRange box_tiles touched_tiles difference largest place =
    record {
      shapes = shapes;
      out_of_range = outOfRange;
      box_tiles = box_tiles;
      touched_tiles = touched_tiles;
      difference = difference;
      largest = largest;
      place = place;
    }

abbrev pub counted : (number : ℕ) (totals : Totals) → Counted
counted number totals = record { number = number; totals = totals }

-- how a cover is written
abbrev pub cover_number : Cover → ℕ
cover_number Apart = 0
cover_number Partly = 1
cover_number Wholly = 2

-- an answer with this number and a cover that is written so is one that Says allows
pub record Told (Says : Answered → Type 0) (number cover : ℕ) : Type 0 where
  pub answer : Answered
  pub says : Says answer
  pub number_is : number ≡ answer.number
  pub cover_is : cover ≡ cover_number answer.cover

-- an answer with this number, whose yes is written as 1 and whose no as 0, is one that Says allows
pub record ToldNested (Says : Nested → Type 0) (number inside : ℕ) : Type 0 where
  pub answer : Nested
  pub says : Says answer
  pub number_is : number ≡ answer.number
  pub inside_is : inside ≡ cond answer.inside 1 0
