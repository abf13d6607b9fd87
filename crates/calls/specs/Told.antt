-- The answers of the public calls as the rules have them: the number, and the values, which are zero where the call is refused. The code answers with a
-- `Result`, and each function here says, by its two cases, which number and which values that is.
use Rattle.std.specs.Prelude.{Result, Ok, Err, Bool, false, ℕ, ℤ, pos}
use Rattle.numbers.specs.declared.Refusal.{Refusal}
use Rattle.numbers.specs.Refusal.{number_of}
use Rattle.touch.specs.declared.Cover.{Cover}
use Rattle.touch.specs.declared.Cover.TheVariants.{Apart}
use Rattle.overlaps.specs.declared.Totals.{Totals}
use Rattle.overlaps.specs.Adding.{no_totals}
use Rattle.calls.specs.declared.Binned as bin
use Rattle.calls.specs.declared.Found as find
use Rattle.calls.specs.declared.PoolCounts as pool

-- a bin: the tiles listed, the blocks taken and the tests made
pub record Binned : Type 0 where
  pub number : ℕ
  pub tiles : ℕ
  pub blocks : ℕ
  pub tests : ℕ

abbrev pub told_bin : Result bin.Binned Refusal → Binned
told_bin (Ok b) = record { number = 0; tiles = b.tiles; blocks = b.blocks; tests = b.tests }
told_bin (Err r) = record { number = number_of r; tiles = 0; blocks = 0; tests = 0 }

-- a release: the blocks given back
pub record Released : Type 0 where
  pub number : ℕ
  pub blocks : ℕ

abbrev pub told_release : Result ℕ Refusal → Released
told_release (Ok n) = record { number = 0; blocks = n }
told_release (Err r) = record { number = number_of r; blocks = 0 }

-- a read: the id, and whether the shape covers the tile wholly
pub record Found : Type 0 where
  pub number : ℕ
  pub id : ℕ
  pub whole : Bool

abbrev pub told_read : Result find.Found Refusal → Found
told_read (Ok f) = record { number = 0; id = f.id; whole = f.whole }
told_read (Err r) = record { number = number_of r; id = 0; whole = false }

-- a question about a tile's mark: the most entries that the tile had since the opening
pub record HighWater : Type 0 where
  pub number : ℕ
  pub entries : ℕ

abbrev pub told_mark : Result ℕ Refusal → HighWater
told_mark (Ok n) = record { number = 0; entries = n }
told_mark (Err r) = record { number = number_of r; entries = 0 }

-- a read of lists: how many entries were written
pub record Copied : Type 0 where
  pub number : ℕ
  pub count : ℕ

abbrev pub told_count : Result ℕ Refusal → Copied
told_count (Ok n) = record { number = 0; count = n }
told_count (Err r) = record { number = number_of r; count = 0 }

-- what a pool holds in sum: tiles, blocks, free blocks, and the entries of all lists
pub record PoolCounts : Type 0 where
  pub number : ℕ
  pub tiles : ℕ
  pub blocks : ℕ
  pub free : ℕ
  pub entries : ℕ

abbrev pub told_counts : Result pool.PoolCounts Refusal → PoolCounts
told_counts (Ok c) = record { number = 0; tiles = c.tiles; blocks = c.blocks; free = c.free; entries = c.entries }
told_counts (Err r) = record { number = number_of r; tiles = 0; blocks = 0; free = 0; entries = 0 }

-- a question about a shape and a tile: how the shape covers the tile
pub record Answered : Type 0 where
  pub number : ℕ
  pub cover : Cover

abbrev pub told_cover : Result Cover Refusal → Answered
told_cover (Ok c) = record { number = 0; cover = c }
told_cover (Err r) = record { number = number_of r; cover = Apart }

-- the question for a coordinate's unit: the unit
pub record Rounded : Type 0 where
  pub number : ℕ
  pub unit : ℤ

abbrev pub told_unit : Result ℤ Refusal → Rounded
told_unit (Ok z) = record { number = 0; unit = z }
told_unit (Err r) = record { number = number_of r; unit = pos 0 }

-- a question for totals over a list of shapes: the totals
pub record Counted : Type 0 where
  pub number : ℕ
  pub totals : Totals

abbrev pub told_totals : Result Totals Refusal → Counted
told_totals (Ok t) = record { number = 0; totals = t }
told_totals (Err r) = record { number = number_of r; totals = no_totals }
