-- Demand 2: with which number a bin and a release of a sound pool are answered, and what an accepted one does to it.
use Rattle.std.specs.Prelude.{◌≡◌, ◌≢◌, ◌⊎◌, ◌↔◌, true, false, List, [], ◌∷◌, ◌++◌, ℕ, ◌+◌, ◌≤◌, ◌<◌, max, length, Ok, Err}
use Rattle.numbers.specs.declared.Refusal.{Refusal}
use Rattle.numbers.specs.Refusal.{number_of}
use Rattle.numbers.specs.Ceil.{ceil}
use Rattle.numbers.specs.Flag.{flagged}
use Rattle.screen.specs.Rectangle.{rectangle}
use Rattle.shape.specs.declared.Shape.{Shape}
use Rattle.shape.specs.Shape.{InRange}
use Rattle.touch.specs.declared.Cover.{Cover}
use Rattle.touch.specs.declared.Cover.TheVariants.{Apart, Partly, Wholly}
use Rattle.touch.specs.Cover.{CoverSays}
use Rattle.walk.specs.Touched.{TouchedTiles}
use Rattle.stepping.specs.Stepped.{TestsSay}
use Rattle.snap.specs.declared.PixelShape.{PixelShape}
use Rattle.snap.specs.Shapes.{shape_of}
use Rattle.pool.specs.Words.{edition, id_limit, layout_of, block_word}
use Rattle.pool.specs.State.{tile_of, times}
use Rattle.pool.specs.Sound.{Sound, screen_of, tiles_of, blocks_of}
use Rattle.lists.specs.Appending.{need}
use Rattle.calls.specs.Told.{Binned}
use Rattle.calls.specs.Told.{Released}
use Rattle.calls.specs.Tables.{list_in, mark_in, free_in}

-- the words q are a sound pool of the same layout and screen and with as many blocks as p
pub record StaysSound (p q : List ℕ) : Type 0 where
  pub sound : Sound (layout_of q) q
  pub layout : layout_of q ≡ layout_of p
  pub screen : screen_of q ≡ screen_of p
  pub blocks : blocks_of q ≡ blocks_of p

-- ---- bin

-- no cause before 8 applies; ts are the tiles that the shape touches
pub record Binnable (p : List ℕ) (shape : Shape) (id : ℕ) : Type 0 where
  pub id< : id < id_limit
  pub in_range : InRange shape
  pub ts : List ℕ
  pub touched : TouchedTiles (screen_of p) shape ts

-- the blocks that it needs exceed the free ones, or do not
abbrev pub NoRoom : (p : List ℕ) → Shape → (id : ℕ) → Type 0
NoRoom p shape id = (o : Binnable p shape id) × (free_in p < need (layout_of p) p o.ts)

abbrev pub HasRoom : (p : List ℕ) → Shape → (id : ℕ) → Type 0
HasRoom p shape id = (o : Binnable p shape id) × (need (layout_of p) p o.ts ≤ free_in p)

-- what the list of a tile gains of an id, as the shape covers the tile: nothing, the id, or the id with its flag
abbrev pub gained : Cover → (id : ℕ) → List ℕ
gained Apart id = []
gained Partly id = flagged id false ∷ []
gained Wholly id = flagged id true ∷ []

-- an accepted bin: the id stands once more at the end of the list of each tile that the shape touches, flagged exactly if the shape covers the tile wholly,
-- and of no other
pub record Listed (p : List ℕ) (shape : Shape) (id : ℕ) (a : Binned) (q : List ℕ) : Type 0 where
  pub lists : (t : ℕ) → t < tiles_of p → (r : Cover) → CoverSays r shape (rectangle (screen_of p) t) → list_in q t ≡ list_in p t ++ gained r id
  -- each mark is what it was, or the length of the list where that is greater
  pub marks : (t : ℕ) → t < tiles_of p → mark_in q t ≡ max (mark_in p t) (length (list_in q t))
  -- the counts are those of the touched tiles, and of the blocks that are free no more
  pub tiles : (ts : List ℕ) × TouchedTiles (screen_of p) shape ts × (a.tiles ≡ length ts)
  pub blocks : free_in q + a.blocks ≡ free_in p
  -- the tests are those of the stepping walk, and none where a vertex lies off the screen
  pub tests : TestsSay (screen_of p) shape a.tests

-- each number is given exactly where its cause applies and no earlier one; 4 is never given, as the pool is sound
pub record Demand2Bin (p : List ℕ) (shape : Shape) (id : ℕ) (a : Binned) (q : List ℕ) : Type 0 where
  pub not_damaged : a.number ≢ 4
  pub bad_id : (a.number ≡ 5) ↔ (id_limit ≤ id)
  pub out_of_range : (a.number ≡ 7) ↔ ((id < id_limit) × (InRange shape → ⊥))
  pub no_room : (a.number ≡ 8) ↔ NoRoom p shape id
  pub done : (a.number ≡ 0) ↔ HasRoom p shape id
  pub listed : a.number ≡ 0 → Listed p shape id a q
  pub stays : StaysSound p q

-- the same of a shape in pixels, by the shape in units that it is
pub record Demand2Pixels (p : List ℕ) (shape : PixelShape) (id : ℕ) (a : Binned) (q : List ℕ) : Type 0 where
  pub not_damaged : a.number ≢ 4
  pub bad_id : (a.number ≡ 5) ↔ (id_limit ≤ id)
  pub offence : (n : ℕ) → (n ≡ 6) ⊎ (n ≡ 7) → (a.number ≡ n) ↔ ((id < id_limit) × ((r : Refusal) × (shape_of shape ≡ Err r) × (number_of r ≡ n)))
  pub no_room : (a.number ≡ 8) ↔ ((whole : Shape) × (shape_of shape ≡ Ok whole) × NoRoom p whole id)
  pub done : (a.number ≡ 0) ↔ ((whole : Shape) × (shape_of shape ≡ Ok whole) × HasRoom p whole id)
  pub listed : a.number ≡ 0 → (whole : Shape) × (shape_of shape ≡ Ok whole) × Listed p whole id a q
  pub stays : StaysSound p q

-- ---- release

-- an accepted release: that one list is empty, no mark has changed, and its blocks are returned, poisoned
pub record Emptied (p : List ℕ) (S : Sound (layout_of p) p) (t : ℕ) (a : Released) (q : List ℕ) : Type 0 where
  pub emptied : list_in q t ≡ []
  pub others : (u : ℕ) → u < tiles_of p → u ≢ t → list_in q u ≡ list_in p u
  pub marks : (u : ℕ) → u < tiles_of p → mark_in q u ≡ mark_in p u
  pub count : a.blocks ≡ ceil (length (list_in p t)) (layout_of p).ids
  pub given : free_in q ≡ free_in p + a.blocks
  pub free : (R : Sound (layout_of q) q) (b : ℕ) → 0 < times b (tile_of S.state t).blocks → 0 < times b R.state.free
  pub poisoned : (b : ℕ) → 0 < times b (tile_of S.state t).blocks → (k : ℕ) → k < (layout_of p).ids → block_word (layout_of p) (tiles_of p) q b k ≡ edition.poison

pub record Demand2Release (p : List ℕ) (S : Sound (layout_of p) p) (t : ℕ) (a : Released) (q : List ℕ) : Type 0 where
  pub no_tile : (a.number ≡ 9) ↔ (tiles_of p ≤ t)
  pub done : (a.number ≡ 0) ↔ (t < tiles_of p)
  pub emptied : a.number ≡ 0 → Emptied p S t a q
  pub stays : StaysSound p q
