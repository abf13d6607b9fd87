-- Ids with flags: what a read tells of the entry that a bin appended.
use Rattle.std.specs.Prelude.{◌≡◌, ◌≢◌, List, ℕ, ◌<◌, length}
use Rattle.screen.specs.Rectangle.{rectangle}
use Rattle.shape.specs.declared.Shape.{Shape}
use Rattle.touch.specs.declared.Cover.{Cover}
use Rattle.touch.specs.declared.Cover.TheVariants.{Apart}
use Rattle.touch.specs.Cover.{CoverSays, is_whole}
use Rattle.pool.specs.Words.{layout_of}
use Rattle.pool.specs.Sound.{Sound, screen_of, tiles_of}
use Rattle.calls.specs.Told.{Binned}
use Rattle.calls.specs.Told.{Found}
use Rattle.calls.specs.Tables.{list_in, BinSays, ReadSays}

-- after an accepted bin, a read at the place where the list of a touched tile ended tells the id, and whether the shape covers the tile wholly
abbrev pub ReadsBack : Type 0
ReadsBack =
    (p : List ℕ) → Sound (layout_of p) p → (shape : Shape) (id : ℕ) (a : Binned) (q : List ℕ) → BinSays p shape id a q → a.number ≡ 0
    → (t : ℕ) → t < tiles_of p → (r : Cover) → CoverSays r shape (rectangle (screen_of p) t) → r ≢ Apart
    → (b : Found) → ReadSays q t (length (list_in p t)) b → b ≡ record { number = 0; id = id; whole = is_whole r }
