-- The map of a shape: demand 1 holds of it, its contract admits one outcome only, and it agrees with the walk and with what a bin lists.
use mathlib.Core.Path.{◌≡◌, sym, ap, ◌∙◌}
use mathlib.Core.Logic.{inl, inr, ⊎_elim}
use mathlib.Core.List.{List}
use Prim.Native.Nat.{ℕ, ◌+◌}
use native.Mathlib.Omega.{arith}
use lib.ListN.{length, get_or, length-append}
use Rattle.screen.specs.declared.Screen.{Screen}
use Rattle.screen.specs.Screen.{Allowed}
use Rattle.screen.specs.Rectangle.{rectangle}
use Rattle.shape.specs.declared.Shape.{Shape}
use Rattle.touch.specs.declared.Cover.{Cover}
use Rattle.touch.specs.declared.Cover.TheVariants.{Apart, Partly, Wholly}
use Rattle.touch.specs.Cover.{CoverSays}
use Rattle.touch.proofs.Points.{wholly_touches}
use Rattle.walk.proofs.Exists.{cover_exists}
use Rattle.quarters.specs.Map.{Mapped, MapSays}
use Rattle.quarters.specs.Map.MapSays.{bad_screen, out_of_range, too_short, done}
use Rattle.quarters.proofs.Mapped.{decided, one_map, agrees_with_the_walk}
use Rattle.pool.specs.Sound.{screen_of}
use Rattle.calls.specs.Tables.{list_in}
use Rattle.demands.specs.Demand2.{gained}
use Rattle.demands.specs.Map.{Demand1Map, AgreesWithTheWalk, AgreesWithTheBin}
use Rattle.demands.proofs.Touched.{tile_proper}
use Rattle.demands.proofs.Demand2.{demand_2_bin}

-- an accepted call was in order, and wrote the map
accepted-map : {d : Screen} {shape : Shape} {p : List ℕ} {a : ℕ} {q : List ℕ} → MapSays d shape p a q → a ≡ 0 → Allowed d × Mapped d shape p q
accepted-map (bad_screen n e f) z = absurd (omega arith)
accepted-map (out_of_range s n e f) z = absurd (omega arith)
accepted-map (too_short s i l e f) z = absurd (omega arith)
accepted-map (done s i l e m) z = (s, m)

-- ---- demand 1

module _ {d : Screen} {shape : Shape} {p q : List ℕ} where
  pub demand_1_map : {a : ℕ} → MapSays d shape p a q → Demand1Map d p a q
  demand_1_map (bad_screen n e f) = record { number_is = inr (inl e); refused = λ _. f; outside = λ z. absurd (omega arith); bytes = λ z. absurd (omega arith) }
  demand_1_map (out_of_range s n e f) =
      record { number_is = inr (inr (inl e)); refused = λ _. f; outside = λ z. absurd (omega arith); bytes = λ z. absurd (omega arith) }
  demand_1_map (too_short s i l e f) =
      record { number_is = inr (inr (inr (inl e))); refused = λ _. f; outside = λ z. absurd (omega arith); bytes = λ z. absurd (omega arith) }
  demand_1_map (done s i l e m) = record {
    number_is = inl e;
    refused = λ ne. absurd (ne e);
    outside = λ _. record { long = m.size; tail = m.rest };
    bytes = λ _ t h. ⊎_elim (λ k. inr (inl (m.touched t h k))) (λ k. inl (m.apart t h k)) (decided d s shape t h);
  }

-- ---- one outcome only

module _ {d : Screen} {shape : Shape} {p : List ℕ} where
  pub map_one_outcome : {a b : ℕ} {q r : List ℕ} → MapSays d shape p a q → MapSays d shape p b r → (a ≡ b) × (q ≡ r)
  map_one_outcome (bad_screen n e f) (bad_screen n' e' f') = (cc, cc)
  map_one_outcome (bad_screen n e f) (out_of_range s' o' e' f') = absurd (n s')
  map_one_outcome (bad_screen n e f) (too_short s' o' l' e' f') = absurd (n s')
  map_one_outcome (bad_screen n e f) (done s' o' l' e' m') = absurd (n s')
  map_one_outcome (out_of_range s o e f) (bad_screen n' e' f') = absurd (n' s)
  map_one_outcome (out_of_range s o e f) (out_of_range s' o' e' f') = (cc, cc)
  map_one_outcome (out_of_range s o e f) (too_short s' o' l' e' f') = absurd (o o')
  map_one_outcome (out_of_range s o e f) (done s' o' l' e' m') = absurd (o o')
  map_one_outcome (too_short s o l e f) (bad_screen n' e' f') = absurd (n' s)
  map_one_outcome (too_short s o l e f) (out_of_range s' o' e' f') = absurd (o' o)
  map_one_outcome (too_short s o l e f) (too_short s' o' l' e' f') = (cc, cc)
  map_one_outcome (too_short s o l e f) (done s' o' l' e' m') = absurd (omega arith)
  map_one_outcome (done s o l e m) (bad_screen n' e' f') = absurd (n' s)
  map_one_outcome (done s o l e m) (out_of_range s' o' e' f') = absurd (o' o)
  map_one_outcome (done s o l e m) (too_short s' o' l' e' f') = absurd (omega arith)
  map_one_outcome (done s o l e m) (done s' o' l' e' m') = (cc, one_map d s shape m m')

-- ---- the walk and the bin

pub map_agrees_with_the_walk : AgreesWithTheWalk
map_agrees_with_the_walk d shape p q m ts w = let k = accepted-map m (omega arith) in agrees_with_the_walk d k.0 shape k.1 w

pub map_agrees_with_the_bin : AgreesWithTheBin
map_agrees_with_the_bin p S shape id a q b z old new m t h =
    let d = screen_of p in
    let k = accepted-map m (omega arith) in
    let c = cover_exists d k.0 shape t h in
    ap length (((demand_2_bin S b).listed z).lists t h c.0 c.1) ∙ length-append (list_in p t) (gained c.0 id)
    ∙ ap (λ (n : ℕ). length (list_in p t) + n) (as_said c.0 k.0 k.1 c.1)
  where
    -- a tile gains an entry exactly if it is touched
    as_said : (r : Cover) → Allowed (screen_of p) → Mapped (screen_of p) shape old new → CoverSays r shape (rectangle (screen_of p) t)
        → length (gained r id) ≡ get_or new t 0
    as_said Apart s k n = sym (k.apart t h n)
    as_said Partly s k c = sym (k.touched t h c.0)
    as_said Wholly s k w = sym (k.touched t h (wholly_touches (tile_proper (screen_of p) s t h) w))
