-- The tiles of a shape by box and by touching, computed; and that the walk's list is as long.
use mathlib.Core.Path.{refl, sym, subst, ◌∙◌}
use mathlib.Core.Bool.{Bool}
use mathlib.Core.List.{List}
use Prim.Native.Nat.{ℕ, ◌≤◌, ◌<◌}
use native.Mathlib.Omega.{arith}
use lib.ListN.{length, get_or, take}
use lib.Seq.{length-take-le}
use Rattle.numbers.specs.Flag.{plains}
use Rattle.numbers.specs.Says.{Says}
use Rattle.numbers.specs.Sum.{sum_to, one}
use Rattle.numbers.proofs.Flag.{length-plains}
use Rattle.numbers.proofs.Says.{says_true}
use Rattle.screen.specs.declared.Screen.{Screen}
use Rattle.screen.specs.Screen.{Allowed, tiles}
use Rattle.screen.specs.Rectangle.{rectangle}
use Rattle.screen.proofs.Laws.{column<, row<, rectangle_proper}
use Rattle.shape.specs.declared.Shape.{Shape}
use Rattle.touch.specs.Touches.{Touches}
use Rattle.touch.specs.Corner.{three, bounds, Box}
use Rattle.touch.proofs.Answers.{overlap, overlap_says, corner, corner_says_touching}
use Rattle.touch.proofs.Theorem.{touching_meets_box}
use Rattle.walk.specs.Touched.{TouchedTiles, Walked}
use Rattle.walk.proofs.Touched.{rises_throughout}
use Rattle.overlaps.specs.HowMany.{TilesByBox, TilesByTouching}
use Rattle.overlaps.proofs.Counting.{rising-sum, counts_rise}

module _ (d : Screen) (shape : Shape) where
  unfoldable pub in_box : ℕ → Bool
  in_box t = overlap (bounds (three shape)) (rectangle d t)

  unfoldable pub touched : ℕ → Bool
  touched t = corner shape (rectangle d t)

  abbrev pub box_tiles : ℕ
  box_tiles = sum_to (tiles d) (λ t. one (in_box t))

  abbrev pub touched_tiles : ℕ
  touched_tiles = sum_to (tiles d) (λ t. one (touched t))

  in_box_says : (t : ℕ) → Says (in_box t) (Box shape (rectangle d t))
  unfolding in_box
  in_box_says t = overlap_says (bounds (three shape)) (rectangle d t)

  touched_says : Allowed d → (t : ℕ) → t < tiles d → Says (touched t) (Touches shape (rectangle d t))
  unfolding touched
  touched_says a t l = corner_says_touching shape (rectangle d t) (rectangle_proper d a (column< d a t) (row< d a t l))

  pub box_counts : TilesByBox d shape box_tiles
  box_counts = record { test = in_box; says = λ t l. in_box_says t; sum = refl }

  pub touched-counts : Allowed d → TilesByTouching d shape touched_tiles
  touched-counts a = record { test = touched; says = touched_says a; sum = refl }

  -- a list of the touched tiles has as many
  pub list_counts : Allowed d → (ts : List ℕ) → TouchedTiles d shape ts → TilesByTouching d shape (length ts)
  list_counts a ts h =
      record {
        test = touched;
        says = touched_says a;
        sum =
            sym
            (rising-sum (λ i. get_or ts i 0) (length ts) (tiles d) touched
            (record {
              rising = rises_throughout ts h.rising;
              below = λ i l. (h.touched i l).0;
              passes = λ i l. says_true (touched_says a (get_or ts i 0) (h.touched i l).0) (h.touched i l).1;
              all = λ t l e. h.all t l ((touched_says a t l).yes e);
            }));
      }

  pub walked_counts : Allowed d → {n : ℕ} {old new : List ℕ} → 4096 ≤ length old → Walked d shape n old new → TilesByTouching d shape n
  walked_counts a {n} {old} {new} room w =
      let few = w.few in
      let most = a.tiles≤ in
      let size = w.size in
      subst (TilesByTouching d shape) (length-plains (take n new) ∙ length-take-le n new (omega arith)) (list_counts a (plains (take n new)) w.touched)

-- no more tiles are touched than the box meets
pub touched≤box : (d : Screen) (shape : Shape) {b t : ℕ} → TilesByBox d shape b → TilesByTouching d shape t → t ≤ b
touched≤box d shape h k = counts_rise (λ t p. touching_meets_box p) h k
