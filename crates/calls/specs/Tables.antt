-- The decision tables of the public calls, a row for each number in the order in which it is given. A row has its cause, with no earlier one applying, and
-- then the whole outcome: the answer a, and the words q that are left of the words p. These are read in the layout that they say. The table of open stands
-- beside the words that it leaves, in the crate `pool`, and those of the questions about touching in Questions.
use Rattle.std.specs.Prelude.{◌≡◌, Ok, Err, Bool, false, List, ℕ, ◌≤◌, ◌<◌, length, get_or}
use Rattle.numbers.specs.Ceil.{ceil}
use Rattle.numbers.specs.Flag.{flagged, plain, is_flagged}
use Rattle.numbers.specs.declared.Refusal.{Refusal}
use Rattle.numbers.specs.Refusal.{number_of}
use Rattle.shape.specs.declared.Shape.{Shape}
use Rattle.shape.specs.Shape.{InRange}
use Rattle.walk.specs.Touched.{TouchedTiles, FlagsOf}
use Rattle.stepping.specs.Stepped.{TestsSay}
use Rattle.snap.specs.declared.PixelShape.{PixelShape}
use Rattle.snap.specs.Shapes.{shape_of}
use Rattle.pool.specs.Words.{id_limit, layout_of, header_word, tile_word}
use Rattle.pool.specs.Sound.{Sound, screen_of, tiles_of}
use Rattle.pool.specs.Lists.{list_of}
use Rattle.lists.specs.Appending.{need, append_all}
use Rattle.lists.specs.Releasing.{release}
use Rattle.calls.specs.Told.{Binned}
use Rattle.calls.specs.Told.{Released}
use Rattle.calls.specs.Told.{Found}
use Rattle.calls.specs.Told.{HighWater}

-- the list of tile t in the words p: its entries, each an id with its flag
abbrev pub list_in : List ℕ → (t : ℕ) → List ℕ
list_in p t = list_of (layout_of p) (tiles_of p) p t

-- the mark of tile t in the words p
abbrev pub mark_in : List ℕ → (t : ℕ) → ℕ
mark_in p t = tile_word (layout_of p) p t 3

-- word 4: how many blocks are free
abbrev pub free_in : List ℕ → ℕ
free_in p = header_word p 4

-- the audit alone: 0 or 4
pub data AuditSays (p : List ℕ) (a : ℕ) : Type 0 where
  damaged : (Sound (layout_of p) p → ⊥) → a ≡ 4 → AuditSays p a
  done : Sound (layout_of p) p → a ≡ 0 → AuditSays p a

abbrev pub refused_bin : (number : ℕ) → Binned
refused_bin n = record { number = n; tiles = 0; blocks = 0; tests = 0 }

-- the last rows of both bins, where the pool, the id and the vertices are in order: 8; an accepted bin appends the id to the lists of the touched tiles,
-- flagged in those that the shape covers wholly, and tells the tests that this took
pub data PlaceSays (p : List ℕ) (shape : Shape) (id : ℕ) (a : Binned) (q : List ℕ) : Type 0 where
  no_room : (ts : List ℕ) → TouchedTiles (screen_of p) shape ts → free_in p < need (layout_of p) p ts → a ≡ refused_bin 8 → q ≡ p → PlaceSays p shape id a q
  done : (ts : List ℕ) → TouchedTiles (screen_of p) shape ts → need (layout_of p) p ts ≤ free_in p
      → (flag : ℕ → Bool) → FlagsOf (screen_of p) shape flag
      → (tests : ℕ) → TestsSay (screen_of p) shape tests
      → a ≡ record { number = 0; tiles = length ts; blocks = need (layout_of p) p ts; tests = tests }
      → q ≡ append_all (layout_of p) (tiles_of p) p ts (λ t. flagged id (flag t))
      → PlaceSays p shape id a q

-- bin of a whole-number shape: 4, 5, 7, then 8
pub data BinSays (p : List ℕ) (shape : Shape) (id : ℕ) (a : Binned) (q : List ℕ) : Type 0 where
  damaged : (Sound (layout_of p) p → ⊥) → a ≡ refused_bin 4 → q ≡ p → BinSays p shape id a q
  bad_id : Sound (layout_of p) p → id_limit ≤ id → a ≡ refused_bin 5 → q ≡ p → BinSays p shape id a q
  out_of_range : Sound (layout_of p) p → id < id_limit → (InRange shape → ⊥) → a ≡ refused_bin 7 → q ≡ p → BinSays p shape id a q
  placed : Sound (layout_of p) p → id < id_limit → InRange shape → PlaceSays p shape id a q → BinSays p shape id a q

-- the number that the id and the shape alone decide: 5, then 7, or 0 for neither
pub data CauseSays (shape : Shape) (id number : ℕ) : Type 0 where
  bad_id : id_limit ≤ id → number ≡ 5 → CauseSays shape id number
  out_of_range : id < id_limit → (InRange shape → ⊥) → number ≡ 7 → CauseSays shape id number
  neither : id < id_limit → InRange shape → number ≡ 0 → CauseSays shape id number

-- bin of a shape in pixels: 4, 5, then 6 or 7 as the first offence decides, then 8
pub data BinPixelsSays (p : List ℕ) (shape : PixelShape) (id : ℕ) (a : Binned) (q : List ℕ) : Type 0 where
  damaged : (Sound (layout_of p) p → ⊥) → a ≡ refused_bin 4 → q ≡ p → BinPixelsSays p shape id a q
  bad_id : Sound (layout_of p) p → id_limit ≤ id → a ≡ refused_bin 5 → q ≡ p → BinPixelsSays p shape id a q
  offence : Sound (layout_of p) p → id < id_limit → (r : Refusal) → shape_of shape ≡ Err r → a ≡ refused_bin (number_of r) → q ≡ p → BinPixelsSays p shape id a q
  placed : Sound (layout_of p) p → id < id_limit → (whole : Shape) → shape_of shape ≡ Ok whole → PlaceSays p whole id a q → BinPixelsSays p shape id a q

abbrev pub not_found : (number : ℕ) → Found
not_found n = record { number = n; id = 0; whole = false }

-- the id and the flag of an entry
abbrev pub found_in : (entry : ℕ) → Found
found_in entry = record { number = 0; id = plain entry; whole = is_flagged entry }

-- read: 4, 9, 10
pub data ReadSays (p : List ℕ) (t place : ℕ) (a : Found) : Type 0 where
  damaged : (Sound (layout_of p) p → ⊥) → a ≡ not_found 4 → ReadSays p t place a
  no_tile : Sound (layout_of p) p → tiles_of p ≤ t → a ≡ not_found 9 → ReadSays p t place a
  past : Sound (layout_of p) p → t < tiles_of p → length (list_in p t) ≤ place → a ≡ not_found 10 → ReadSays p t place a
  done : Sound (layout_of p) p → t < tiles_of p → place < length (list_in p t) → a ≡ found_in (get_or (list_in p t) place 0) → ReadSays p t place a

-- the mark of a tile: 4, 9
pub data HighWaterSays (p : List ℕ) (t : ℕ) (a : HighWater) : Type 0 where
  damaged : (Sound (layout_of p) p → ⊥) → a ≡ record { number = 4; entries = 0 } → HighWaterSays p t a
  no_tile : Sound (layout_of p) p → tiles_of p ≤ t → a ≡ record { number = 9; entries = 0 } → HighWaterSays p t a
  done : Sound (layout_of p) p → t < tiles_of p → a ≡ record { number = 0; entries = mark_in p t } → HighWaterSays p t a

-- release: 4, 9
pub data ReleaseSays (p : List ℕ) (t : ℕ) (a : Released) (q : List ℕ) : Type 0 where
  damaged : (Sound (layout_of p) p → ⊥) → a ≡ record { number = 4; blocks = 0 } → q ≡ p → ReleaseSays p t a q
  no_tile : Sound (layout_of p) p → tiles_of p ≤ t → a ≡ record { number = 9; blocks = 0 } → q ≡ p → ReleaseSays p t a q
  done : Sound (layout_of p) p → t < tiles_of p → a ≡ record { number = 0; blocks = ceil (length (list_in p t)) (layout_of p).ids } → q ≡ release (layout_of p) (tiles_of p) p t
      → ReleaseSays p t a q
