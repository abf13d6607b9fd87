-- How many blocks are enough. A bin that the smaller pool refuses for room would have left the larger one fewer than n free blocks; and the blocks in use
-- are never more than the marks ask for.
use mathlib.Core.Path.{◌≡◌, refl, sym, ap, subst, ◌∙◌}
use mathlib.Core.Logic.{◌≢◌, ◌⊎◌, inl, inr, ⊎_elim}
use mathlib.Core.List.{List, [], ◌∷◌}
use Prim.Native.Nat.{ℕ, ◌+◌, ◌≤◌, ◌<◌}
use native.Mathlib.Omega.{arith}
use lib.ListN.{length}
use Rattle.numbers.specs.Ceil.{ceil}
use Rattle.numbers.specs.Flag.{flagged}
use Rattle.numbers.specs.Sum.{sum_to}
use Rattle.numbers.proofs.Ceil.{lt_or_ge, ceil≤}
use Rattle.numbers.proofs.Sum.{sum_to≤}
use Rattle.screen.specs.declared.Screen.{Screen}
use Rattle.screen.specs.Screen.{tiles}
use Rattle.shape.specs.declared.Shape.{Shape}
use Rattle.walk.specs.Touched.{TouchedTiles}
use Rattle.walk.proofs.Exists.{flags_exist}
use Rattle.stepping.proofs.Exists.{tests_exist}
use Rattle.pool.specs.Words.{Layout, Known, id_limit, layout_of}
use Rattle.pool.specs.State.{State, tile_of}
use Rattle.pool.specs.Sound.{Sound, screen_of, tiles_of, blocks_of}
use Rattle.pool.proofs.Editions.{known_fair, layout_fair}
use Rattle.pool.proofs.Total.{blocks_total, blocks_in_tiles-sum}
use Rattle.lists.specs.Appending.{need, append_all}
use Rattle.lists.specs.Wider.{Wider}
use Rattle.lists.proofs.Widening.{wider_free}
use Rattle.calls.specs.Told.{Binned}
use Rattle.calls.specs.Told.{Released}
use Rattle.calls.specs.Told.{Found}
use Rattle.calls.specs.Tables.{PlaceSays, BinSays, BinPixelsSays, ReadSays, ReleaseSays, refused_bin, mark_in, free_in}
use Rattle.calls.proofs.Placing.{touched_distinct}
use Rattle.calls.proofs.Keeping.{bin_appends}
use Rattle.demands.specs.History.{Entry, binned, binned_pixels, found, released, call_of, calls_of, number_of, Step, Run}
use Rattle.demands.specs.Sizing.{NoneForRoom, FreeThroughout, blocks_by_marks, FewerAreEnough, MarksAreEnough}
use Rattle.demands.proofs.Demand2.{demand_2_bin, demand_2_pixels}
use Rattle.demands.proofs.Runs.{step_one_outcome, run_stays}
use Rattle.demands.proofs.Alike.{alike_sound, alike_sound', need_same, step_follows}
use Rattle.demands.proofs.HighWater.{step_marks}
use Rattle.demands.proofs.Demand3.{accepted-opening, fresh, openings_wider}

-- ---- a call that the smaller pool refuses for room

read_not_8 : {p : List ℕ} {t place : ℕ} {a : Found} → ReadSays p t place a → a.number ≢ 8
read_not_8 (ReadSays.damaged d e) z = absurd (omega (arith, ap (λ (b : Found). b.number) e))
read_not_8 (ReadSays.no_tile S h e) z = absurd (omega (arith, ap (λ (b : Found). b.number) e))
read_not_8 (ReadSays.past S h l e) z = absurd (omega (arith, ap (λ (b : Found). b.number) e))
read_not_8 (ReadSays.done S h l e) z = absurd (omega (arith, ap (λ (b : Found). b.number) e))

release_not_8 : {p : List ℕ} {t : ℕ} {a : Released} {q : List ℕ} → ReleaseSays p t a q → a.number ≢ 8
release_not_8 (ReleaseSays.damaged d e f) z = absurd (omega (arith, ap (λ (b : Released). b.number) e))
release_not_8 (ReleaseSays.no_tile S h e f) z = absurd (omega (arith, ap (λ (b : Released). b.number) e))
release_not_8 (ReleaseSays.done S h e f) z = absurd (omega (arith, ap (λ (b : Released). b.number) e))

module _ {L : Layout} (known : Known L) {n : ℕ} {p w : List ℕ} {s : State} (W : Wider L n p w s) where
  -- the larger pool refuses the shape too, or is left with fewer than n free blocks
  place_tight : (shape : Shape) (id : ℕ) (ts : List ℕ) → id < id_limit → TouchedTiles (screen_of p) shape ts → free_in p < need (layout_of p) p ts
      → (b : Binned) × (v : List ℕ) × PlaceSays w shape id b v × ((b.number ≡ 8) ⊎ (free_in v < n))
  place_tight shape id ts i T l =
      let T' : TouchedTiles (screen_of w) shape ts = subst (λ (d : Screen). TouchedTiles d shape ts) (sym W.screens) T in
      let same = need_same known W ts (touched_distinct T) in
      let more = wider_free (known_fair known) W in
      let flags = flags_exist (screen_of w) W.opened'.screen shape in
      let tests = tests_exist (screen_of w) W.opened'.screen shape in
      ⊎_elim
      (λ (lt : free_in w < need (layout_of w) w ts). (refused_bin 8, w, PlaceSays.no_room ts T' lt refl refl, inl refl))
      (λ (ge : need (layout_of w) w ts ≤ free_in w). (
        record { number = 0; tiles = length ts; blocks = need (layout_of w) w ts; tests = tests.0 },
        append_all (layout_of w) (tiles_of w) w ts (λ t. flagged id (flags.0 t)),
        PlaceSays.done ts T' ge flags.0 flags.1 tests.0 tests.1 refl refl,
        inr (omega (arith, (bin_appends (alike_sound' known W) id i T' ge flags.0).taken)),
      ))
      (lt_or_ge (free_in w) (need (layout_of w) w ts))

  step_tight : (e : Entry) (q : List ℕ) → Step p e q → number_of e ≡ 8
      → (f : Entry) × (v : List ℕ) × (call_of f ≡ call_of e) × Step w f v × ((number_of f ≡ 8) ⊎ (free_in v < n))
  step_tight (binned shape id a) q k z =
      let r = (demand_2_bin (alike_sound known W) k).no_room.0 z in
      let o = r.0 in
      let P = place_tight shape id o.ts o.id< o.touched r.1 in
      (binned shape id P.0, P.1, refl, BinSays.placed (alike_sound' known W) o.id< o.in_range P.2, P.3)
  step_tight (binned_pixels shape id a) q k z =
      let r = (demand_2_pixels (alike_sound known W) k).no_room.0 z in
      let o = r.2.0 in
      let P = place_tight r.0 id o.ts o.id< o.touched r.2.1 in
      (binned_pixels shape id P.0, P.1, refl, BinPixelsSays.placed (alike_sound' known W) o.id< r.0 r.1 P.2, P.3)
  step_tight (found tile place a) q k z = absurd (read_not_8 k.0 z)
  step_tight (released tile a) q k z = absurd (release_not_8 k z)

  -- so where the larger pool does not refuse a call and keeps n free blocks, the smaller does not refuse it either
  not_refused : (e f : Entry) (q v : List ℕ) → call_of e ≡ call_of f → Step p e q → Step w f v → number_of f ≢ 8 → n ≤ free_in v → number_of e ≢ 8
  not_refused e f q v c k l ne free z =
      let G = step_tight e q k z in
      let one = step_one_outcome w G.0 f G.1 v (G.2 ∙ c) G.3 l in
      ⊎_elim (λ (y : number_of G.0 ≡ 8). ne (sym (ap number_of one.0) ∙ y))
      (λ (y : free_in G.1 < n). absurd (omega (arith, ap free_in one.1)))
      G.4

  -- and answers as the larger
  step_fits : (e f : Entry) (q v : List ℕ) → call_of e ≡ call_of f → Step p e q → Step w f v → number_of f ≢ 8 → n ≤ free_in v
      → (e ≡ f) × (r : State) × Wider L n q v r
  step_fits e f q v c k l ne free =
      let F = step_follows known W e q k (not_refused e f q v c k l ne free) in
      let one = step_one_outcome w e f F.0 v c F.2 l in
      (one.0, F.1, subst (λ (x : List ℕ). Wider L n q x F.1) one.1 F.3)

-- ---- histories

run_fits : {L : Layout} → Known L → {n : ℕ} {p w : List ℕ} {s : State} → Wider L n p w s → (h k : List Entry) (q v : List ℕ) → calls_of h ≡ calls_of k → Run p h q
    → (r : Run w k v) → NoneForRoom k → FreeThroughout n w k v r → (h ≡ k) × (t : State) × Wider L n q v t
run_fits {L} known {n} {p} {w} {s} W [] [] q v c R r none free =
    (refl, s, subst (λ (x : List ℕ). Wider L n x v s) (sym R) (subst (λ (x : List ℕ). Wider L n p x s) (sym r) W))
run_fits known W [] (f ∷ k) q v c R r none free = absurd (omega (arith, ap length c))
run_fits known W (e ∷ h) [] q v c R r none free = absurd (omega (arith, ap length c))
run_fits known W (e ∷ h) (f ∷ k) q v c R r none free =
    let before = run_fits known W h k R.0 r.0 (cc) R.1 r.1 none.1 free.1 in
    let step = step_fits known before.2 e f q v (cc) R.2 r.2 none.0 free.0 in
    (λ i. step.0 i ∷ before.0 i, step.1, step.2)

pub fewer_are_enough : FewerAreEnough
fewer_are_enough L d N n p₁ p₂ O h₂ q₂ r₂ none free h₁ q₁ same R₁ =
    let A = accepted-opening O.first in
    (run_fits A.known (openings_wider A (accepted-opening O.second)) h₁ h₂ q₁ q₂ same R₁ r₂ none free).0

-- ---- the marks

-- the blocks that are not free are no more than the marks ask for
in_use≤ : {q : List ℕ} → Sound (layout_of q) q → blocks_of q ≤ free_in q + blocks_by_marks (layout_of q) (screen_of q) q
in_use≤ {q} S =
    let R = S.shows in
    let s = S.state in
    let ids = (layout_of q).ids in
    let by : sum_to (tiles_of q) (λ t. length (tile_of s t).blocks) ≤ blocks_by_marks (layout_of q) (screen_of q) q
    = sum_to≤ (tiles_of q) (λ t. length (tile_of s t).blocks) (λ t. ceil (mark_in q t) ids)
    (λ t ht.
    let k = R.tile t ht in
    rw (k.many, k.mark) (ceil≤ ids (layout_fair q).ids> k.mark≥)) in
    omega (arith, blocks_total R, blocks_in_tiles-sum s.tiles, R.count, ap (λ (T : ℕ). sum_to T (λ t. length (tile_of s t).blocks)) R.tiled)

free_throughout : (N n : ℕ) {p : List ℕ} → Sound (layout_of p) p → blocks_of p ≡ N + n → (h : List Entry) (q : List ℕ) (r : Run p h q)
    → blocks_by_marks (layout_of p) (screen_of p) q ≤ N → FreeThroughout n p h q r
free_throughout N n S b [] q r l = tt
free_throughout N n {p} S b (e ∷ h) q r l =
    let M = run_stays p h r.0 S r.1 in
    let Q = run_stays p (e ∷ h) q S r in
    let ids = (layout_of p).ids in
    let rises : blocks_by_marks (layout_of p) (screen_of p) r.0 ≤ blocks_by_marks (layout_of p) (screen_of p) q
    = sum_to≤ (tiles_of p) (λ t. ceil (mark_in r.0 t) ids) (λ t. ceil (mark_in q t) ids)
    (λ t ht.
    ceil≤ ids (layout_fair p).ids>
    (omega (arith, step_marks r.0 e q M.sound r.2 t (subst (λ (d : Screen). t < tiles d) (sym M.screen) ht)))) in
    let in_use : blocks_of q ≤ free_in q + blocks_by_marks (layout_of p) (screen_of p) q
    = subst (λ (L : Layout). blocks_of q ≤ free_in q + blocks_by_marks L (screen_of p) q) Q.layout
    (subst (λ (d : Screen). blocks_of q ≤ free_in q + blocks_by_marks (layout_of q) d q) Q.screen (in_use≤ Q.sound)) in
    (omega (arith, Q.blocks), free_throughout N n S b h r.0 r.1 (omega arith))

pub marks_are_enough : MarksAreEnough
marks_are_enough L d N n p₁ p₂ O h₂ q₂ r₂ none few =
    let P = fresh (accepted-opening O.second) in
    let few' : blocks_by_marks (layout_of p₂) (screen_of p₂) q₂ ≤ N = subst (λ (x : Screen). blocks_by_marks (layout_of p₂) x q₂ ≤ N) (sym P.screen) (rw P.layout few) in
    fewer_are_enough L d N n p₁ p₂ O h₂ q₂ r₂ none (free_throughout N n P.sound P.blocks h₂ q₂ r₂ few')
