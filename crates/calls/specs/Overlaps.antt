-- The decision table of the totals over a list of shapes, a row for each number in the order in which it is given: 1, 15. A row has its cause, with no
-- earlier one applying, and then the whole answer a.
use Rattle.std.specs.Prelude.{◌≡◌, List, ℕ, ℤ}
use Rattle.screen.specs.declared.Screen.{Screen}
use Rattle.screen.specs.Screen.{Allowed}
use Rattle.shapes.specs.Shapes.{RightList, count_of, shape_at}
use Rattle.overlaps.specs.declared.Totals.{Totals}
use Rattle.overlaps.specs.Totals.{TotalsOf}
use Rattle.overlaps.specs.Adding.{no_totals}
use Rattle.calls.specs.Told.{Counted}

abbrev pub not_counted : (number : ℕ) → Counted
not_counted n = record { number = n; totals = no_totals }

-- of the words ws, seven to a shape
pub data OverlapsSays (ws : List ℤ) (d : Screen) (a : Counted) : Type 0 where
  bad_screen : (Allowed d → ⊥) → a ≡ not_counted 1 → OverlapsSays ws d a
  bad_list : Allowed d → (RightList 7 ws → ⊥) → a ≡ not_counted 15 → OverlapsSays ws d a
  done : Allowed d → RightList 7 ws → (t : Totals) → TotalsOf d (shape_at 7 ws) (count_of 7 ws) t → a ≡ record { number = 0; totals = t } → OverlapsSays ws d a
