-- A shape inside a shape: what follows for the tiles that the two touch and cover, and for the entries of two bins in the list of a tile; and demand 1 of the
-- question whether a shape is inside another, which is lent no pool.
use Rattle.std.specs.Prelude.{◌≡◌, ◌≢◌, ◌⊎◌, Bool, true, false, cond, List, [], ◌∷◌, ◌++◌, ℕ, ◌<◌, leb, length}
use Rattle.numbers.specs.Flag.{flagged}
use Rattle.screen.specs.declared.Screen.{Screen}
use Rattle.screen.specs.declared.Rectangle.{Rectangle}
use Rattle.screen.specs.Screen.{tiles}
use Rattle.screen.specs.Rectangle.{rectangle}
use Rattle.shape.specs.declared.Shape.{Shape}
use Rattle.touch.specs.declared.Cover.{Cover}
use Rattle.touch.specs.declared.Cover.TheVariants.{Apart}
use Rattle.touch.specs.Touches.{Touches}
use Rattle.touch.specs.Cover.{Wholly, CoverSays, is_whole}
use Rattle.inside.specs.Inside.{Nested}
use Rattle.inside.specs.Inside.{Inside}
use Rattle.pool.specs.Words.{Layout}
use Rattle.pool.specs.Opening.{OpenSays}
use Rattle.calls.specs.Told.{Found}
use Rattle.calls.specs.Tables.{list_in, ReadSays}
use Rattle.demands.specs.History.{Entry, Step, Run}
use Rattle.demands.specs.Demand1.{Among}
use Rattle.demands.specs.Demand3.{appends, empties, effect_of}
use Rattle.demands.specs.BinList.{Item, ItemRun, spelled}

-- ---- of the definitions, for shapes of every kind and every rectangle, a tile's as well

abbrev pub InsideTouches : Type 0
InsideTouches = (first second : Shape) → Inside first second → (q : Rectangle) → Touches first q → Touches second q

abbrev pub InsideCovers : Type 0
InsideCovers = (first second : Shape) → Inside first second → (q : Rectangle) → Wholly first q → Wholly second q

-- ---- the entry of a bin

-- an accepted bin in the history h, the latest call first, which led from the words p to the words q: the calls after it and before it, the words that it found
-- and left, and the shape whose id it appends; of a bin in pixels that is the shape in units that it is
pub record BinIn (p : List ℕ) (h : List Entry) (q : List ℕ) : Type 0 where
  pub after : List Entry
  pub bin : Entry
  pub earlier : List Entry
  pub history : h ≡ after ++ (bin ∷ earlier)
  pub found : List ℕ
  pub left : List ℕ
  pub ran_earlier : Run p earlier found
  pub step : Step found bin left
  pub ran_after : Run left after q
  pub shape : Shape
  pub id : ℕ
  pub accepted : effect_of bin ≡ appends shape id

-- each accepted bin of a history is one: it found and left some words
abbrev pub EachBinIsIn : Type 0
EachBinIsIn =
    (p : List ℕ) (h : List Entry) (q : List ℕ) → Run p h q → (after : List Entry) (bin : Entry) (earlier : List Entry) → h ≡ after ++ (bin ∷ earlier)
    → (shape : Shape) (id : ℕ) → effect_of bin ≡ appends shape id → (b : BinIn p h q) × (b.after ≡ after) × (b.bin ≡ bin) × (b.earlier ≡ earlier)

-- the place of its entry in the list of tile t, where it has one: the list ended there when the bin was asked
abbrev pub place_of : {p : List ℕ} {h : List Entry} {q : List ℕ} → BinIn p h q → (t : ℕ) → ℕ
place_of b t = length (list_in b.found t)

-- no call of these released tile t
abbrev pub NotReleased : (t : ℕ) → List Entry → Type 0
NotReleased t [] = Unit {0}
NotReleased t (e ∷ h) = (effect_of e ≢ empties t) × NotReleased t h

-- its entry stands in the list of tile t, with a flag or without: the bin put it behind the list that it found, the tile was not released since, and the list
-- has only grown
pub record EntryStands {p : List ℕ} {h : List Entry} {q : List ℕ} (b : BinIn p h q) (t : ℕ) (flag : Bool) : Type 0 where
  pub put : list_in b.left t ≡ list_in b.found t ++ (flagged b.id flag ∷ [])
  pub unreleased : NotReleased t b.after
  pub grown : (more : List ℕ) × (list_in q t ≡ list_in b.left t ++ more)

-- in any history from an opening, batches spelled out
abbrev pub OfEachHistory : ((d : Screen) (p : List ℕ) (h : List Entry) (q : List ℕ) → Type 0) → Type 0
OfEachHistory Holds =
    (L : Layout) (d : Screen) (N : ℕ) (old p : List ℕ) → OpenSays L old d N 0 p
    → (h : List Item) (q : List ℕ) (r : ItemRun p h q) → Holds d p (spelled p h q r) q

-- an accepted bin's entry stands in the list of each tile that its shape touches, flagged exactly if it covers the tile wholly, until the tile is released
abbrev pub EntriesStay : Type 0
EntriesStay =
    OfEachHistory (λ d p h q.
    (b : BinIn p h q) (t : ℕ) → t < tiles d → NotReleased t b.after
    → (r : Cover) → CoverSays r b.shape (rectangle d t) → r ≢ Apart → EntryStands b t (is_whole r))

-- and in no other list: where it stands the shape touches the tile, and the flag says whether it covers it wholly
abbrev pub EntriesTell : Type 0
EntriesTell =
    OfEachHistory (λ d p h q.
    (b : BinIn p h q) (t : ℕ) → t < tiles d → (flag : Bool) → EntryStands b t flag
    → (r : Cover) → CoverSays r b.shape (rectangle d t) → (r ≢ Apart) × (flag ≡ is_whole r))

-- a read at its place tells it
abbrev pub EntriesAreRead : Type 0
EntriesAreRead =
    OfEachHistory (λ d p h q.
    (b : BinIn p h q) (t : ℕ) → t < tiles d → (flag : Bool) → EntryStands b t flag
    → (a : Found) → ReadSays q t (place_of b t) a → a ≡ record { number = 0; id = b.id; whole = flag })

-- ---- the entries of two bins

-- the calls since the earlier of two bins of a history: those after the bin that has more calls after it
abbrev pub since_earlier : {p : List ℕ} {h : List Entry} {q : List ℕ} → (a b : BinIn p h q) → List Entry
since_earlier a b = cond (leb (length a.after) (length b.after)) b.after a.after

-- Two accepted bins, in either order, of shapes of which one is inside the other, and a tile that was not released since the earlier of the two: where the
-- entry of the inner one stands in the tile's list, the entry of the outer one stands there too, and it is flagged where the inner one's is.
abbrev pub InnerWithOuter : Type 0
InnerWithOuter =
    OfEachHistory (λ d p h q.
    (inner outer : BinIn p h q) → Inside inner.shape outer.shape
    → (t : ℕ) → t < tiles d → NotReleased t (since_earlier inner outer)
    → (flag : Bool) → EntryStands inner t flag → (other : Bool) × EntryStands outer t other × (flag ≡ true → other ≡ true))

-- ---- demand 1 of the question

pub record Demand1Inside (a : Nested) : Type 0 where
  pub number_is : (a.number ≡ 0) ⊎ Among a.number (15 ∷ 7 ∷ [])
  pub refused : a.number ≢ 0 → a.inside ≡ false
