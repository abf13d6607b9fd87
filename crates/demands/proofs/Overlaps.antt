-- The totals over a list of shapes: demand 1 holds of them, their contract admits one outcome only, each shape is counted once, and the tiles counted by
-- touching are those that a bin lists.
use mathlib.Core.Path.{◌≡◌, ap, ◌∙◌}
use mathlib.Core.Logic.{inl, inr}
use mathlib.Core.List.{List}
use Prim.Native.Nat.{ℕ, ◌+◌}
use native.Mathlib.Omega.{arith}
use lib.IntN.{ℤ}
use Rattle.screen.specs.declared.Screen.{Screen}
use Rattle.shape.specs.declared.Shape.{Shape}
use Rattle.shapes.specs.Shapes.{count_of, shape_at}
use Rattle.overlaps.specs.HowMany.{TilesByTouching}
use Rattle.overlaps.proofs.Counting.{counts_once, counts_both}
use Rattle.overlaps.proofs.Tiles.{list_counts}
use Rattle.overlaps.proofs.Once.{totals_once}
use Rattle.pool.specs.Sound.{screen_of}
use Rattle.calls.specs.Told.{Binned}
use Rattle.calls.specs.Told.{Counted}
use Rattle.calls.specs.Tables.{PlaceSays, BinSays}
use Rattle.calls.specs.Overlaps.{OverlapsSays, bad_screen, bad_list, done}
use Rattle.demands.specs.Overlaps.{Demand1Overlaps}

module _ {ws : List ℤ} {d : Screen} where
  pub demand_1_overlaps : {a : Counted} → OverlapsSays ws d a → Demand1Overlaps a
  demand_1_overlaps (bad_screen b e) = record { number_is = inr (inl (ap (λ (c : Counted). c.number) e)); refused = λ _. ap (λ (c : Counted). c.totals) e }
  demand_1_overlaps (bad_list l b e) = record { number_is = inr (inr (inl (ap (λ (c : Counted). c.number) e))); refused = λ _. ap (λ (c : Counted). c.totals) e }
  demand_1_overlaps (done l r t h e) = let zero = ap (λ (c : Counted). c.number) e in record { number_is = inl zero; refused = λ ne. absurd (ne zero) }

  pub overlaps_one_outcome : {a b : Counted} → OverlapsSays ws d a → OverlapsSays ws d b → a ≡ b
  overlaps_one_outcome (bad_screen n e) (bad_screen n' e') = cc
  overlaps_one_outcome (bad_screen n e) (bad_list l' n' e') = absurd (n l')
  overlaps_one_outcome (bad_screen n e) (done l' r' t' h' e') = absurd (n l')
  overlaps_one_outcome (bad_list l n e) (bad_screen n' e') = absurd (n' l)
  overlaps_one_outcome (bad_list l n e) (bad_list l' n' e') = cc
  overlaps_one_outcome (bad_list l n e) (done l' r' t' h' e') = absurd (n r')
  overlaps_one_outcome (done l r t h e) (bad_screen n' e') = absurd (n' l)
  overlaps_one_outcome (done l r t h e) (bad_list l' n' e') = absurd (n' r)
  overlaps_one_outcome (done l r t h e) (done l' r' t' h' e') = let same = totals_once d (shape_at 7 ws) (count_of 7 ws) h h' in cc

  -- each shape of an accepted list is counted once, in range or out of it
  pub each_counted_once : {a : Counted} → OverlapsSays ws d a → a.number ≡ 0 → a.totals.shapes + a.totals.out_of_range ≡ count_of 7 ws
  each_counted_once (bad_screen n e) z = absurd (omega (arith, ap (λ (c : Counted). c.number) e))
  each_counted_once (bad_list l n e) z = absurd (omega (arith, ap (λ (c : Counted). c.number) e))
  each_counted_once (done l r t h e) z = ap (λ (c : Counted). c.totals.shapes + c.totals.out_of_range) e ∙ counts_both h.shapes_is h.out_of_range_is

-- a shape that is binned is listed in as many tiles of the pool's screen as are counted for it there
pub counted_as_binned : {p q : List ℕ} {shape : Shape} {id c : ℕ} {a : Binned} → BinSays p shape id a q → a.number ≡ 0 → TilesByTouching (screen_of p) shape c → a.tiles ≡ c
counted_as_binned (BinSays.damaged n e k) z h = absurd (omega (arith, ap (λ (b : Binned). b.number) e))
counted_as_binned (BinSays.bad_id l n e k) z h = absurd (omega (arith, ap (λ (b : Binned). b.number) e))
counted_as_binned (BinSays.out_of_range l i n e k) z h = absurd (omega (arith, ap (λ (b : Binned). b.number) e))
counted_as_binned (BinSays.placed l i r (PlaceSays.no_room ts t n e k)) z h = absurd (omega (arith, ap (λ (b : Binned). b.number) e))
counted_as_binned {p} {shape = shape} (BinSays.placed l i r (PlaceSays.done ts t n flag F tests C e k)) z h =
    ap (λ (b : Binned). b.tiles) e ∙ counts_once (list_counts (screen_of p) shape l.opened.screen ts t) h
