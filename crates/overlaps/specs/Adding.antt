-- How the totals grow by a shape.
use Rattle.std.specs.Prelude.{◌≡◌, Bool, cond, ◌||◌, ℕ, ◌+◌, ◌-◌, ◌*◌, ◌≤◌, eqb, ltb}
use Rattle.screen.specs.declared.Screen.{Screen}
use Rattle.shape.specs.declared.Shape.{Shape}
use Rattle.shape.specs.Shape.{InRange}
use Rattle.overlaps.specs.declared.Totals.{Totals}
use Rattle.overlaps.specs.HowMany.{TilesByBox, TilesByTouching}

-- of no shape
abbrev pub no_totals : Totals
no_totals =
    record {
      shapes = 0;
      out_of_range = 0;
      box_tiles = 0;
      touched_tiles = 0;
      difference = 0;
      largest = 0;
      place = 0;
    }

-- the shape is the first in range, or touches more tiles than each before it
abbrev pub leads : Totals → (touched : ℕ) → Bool
leads a touched = eqb a.shapes 0 || ltb a.largest touched

-- with a shape in range, which has so many tiles
abbrev pub with_shape : Totals → (place boxed touched : ℕ) → Totals
with_shape a place boxed touched =
    record {
      shapes = a.shapes + 1;
      out_of_range = a.out_of_range;
      box_tiles = a.box_tiles + boxed;
      touched_tiles = a.touched_tiles + touched;
      difference = a.difference + (boxed - touched);
      largest = cond (leads a touched) touched a.largest;
      place = cond (leads a touched) place a.place;
    }

-- with a shape out of range
abbrev pub with_other : Totals → Totals
with_other a =
    record {
      shapes = a.shapes;
      out_of_range = a.out_of_range + 1;
      box_tiles = a.box_tiles;
      touched_tiles = a.touched_tiles;
      difference = a.difference;
      largest = a.largest;
      place = a.place;
    }

-- with the shape at a place
pub data With (d : Screen) (shape : Shape) (place : ℕ) (a b : Totals) : Type 0 where
  counted : InRange shape → (boxed touched : ℕ) → TilesByBox d shape boxed → TilesByTouching d shape touched → b ≡ with_shape a place boxed touched → With d shape place a b
  other : (InRange shape → ⊥) → b ≡ with_other a → With d shape place a b

-- how large the totals of n shapes are at most
pub record Bounded (n : ℕ) (a : Totals) : Type 0 where
  pub shapes≤ : a.shapes ≤ n
  pub out_of_range≤ : a.out_of_range ≤ n
  pub box_tiles≤ : a.box_tiles ≤ n * 4096
  pub touched_tiles≤ : a.touched_tiles ≤ n * 4096
  pub difference≤ : a.difference ≤ n * 4096
