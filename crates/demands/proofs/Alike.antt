-- Two pools that say the same, the second with more blocks, are still so after any calls on the first and the same less those refused for room on the
-- second; and the second gives the same answers.
use mathlib.Core.Path.{◌≡◌, refl, sym, ap, subst, ◌∙◌}
use mathlib.Core.Logic.{◌≢◌, ⊎_elim}
use mathlib.Core.Bool.{Bool, cond}
use mathlib.Core.List.{List, [], ◌∷◌}
use Prim.Native.Nat.{ℕ, ◌<◌}
use native.Mathlib.Omega.{arith}
use lib.ListN.{length}
use borrow.Author.Tests.{eq-eqb, ne_eqb}
use Rattle.numbers.specs.Ceil.{ceil}
use Rattle.numbers.proofs.Ceil.{eq_or_ne}
use Rattle.numbers.specs.Flag.{flagged}
use Rattle.screen.specs.declared.Screen.{Screen}
use Rattle.shape.specs.declared.Shape.{Shape}
use Rattle.stepping.specs.Stepped.{TestsSay}
use Rattle.snap.specs.declared.PixelShape.{PixelShape}
use Rattle.walk.specs.Touched.{TouchedTiles, FlagsOf}
use Rattle.pool.specs.Words.{Layout, Fair, Known, id_limit, layout_of}
use Rattle.pool.specs.State.{State}
use Rattle.pool.specs.Sound.{Sound, screen_of, tiles_of}
use Rattle.pool.proofs.Editions.{known_fair, opened_layout}
use Rattle.lists.specs.Appending.{need, append_all, Distinct}
use Rattle.lists.specs.Releasing.{release}
use Rattle.lists.specs.Steps.{append_all_state, release_state}
use Rattle.lists.specs.Wider.{Wider}
use Rattle.lists.proofs.Widening.{wider_tiles, wider_sound, wider_sound', wider_lists, wider_marks, wider_need, wider_free, wider_append_all, wider_release}
use Rattle.calls.specs.Told.{Binned}
use Rattle.calls.specs.Told.{Released}
use Rattle.calls.specs.Told.{Found}
use Rattle.calls.specs.Tables.{PlaceSays, BinSays, BinPixelsSays, ReadSays, ReleaseSays, list_in, mark_in}
use Rattle.demands.specs.History.{Entry, binned, binned_pixels, found, released, number_of, Step, Run, less_room}
use Rattle.calls.proofs.Keeping.{entry_in_range}
use Rattle.calls.proofs.Placing.{touched_distinct}
use Rattle.demands.proofs.Demand1.{demand_1}

-- the second pool answers so too, and leaves words that are still n blocks wider than q
abbrev Follows : (L : Layout) (n : ℕ) (Says : List ℕ → Type 0) (q : List ℕ) → Type 0
Follows L n Says q = (v : List ℕ) × (r : State) × Says v × Wider L n q v r

module _ {L : Layout} (k : Known L) {n : ℕ} {p w : List ℕ} {s : State} (W : Wider L n p w s) where
  fair : Fair L
  fair = known_fair k

  layout : layout_of p ≡ L
  layout = opened_layout k W.opened

  layout' : layout_of w ≡ L
  layout' = opened_layout k W.opened'

  pub alike_sound : Sound (layout_of p) p
  alike_sound = rw layout (wider_sound fair W)

  pub alike_sound' : Sound (layout_of w) w
  alike_sound' = rw layout' (wider_sound' fair W)

  tiles_same : tiles_of w ≡ tiles_of p
  tiles_same = wider_tiles fair W

  pub lists_same : (t : ℕ) → t < tiles_of p → list_in w t ≡ list_in p t
  lists_same t ht = rw (layout, layout') (wider_lists fair W t ht)

  pub marks_same : (t : ℕ) → t < tiles_of p → mark_in w t ≡ mark_in p t
  marks_same t ht = rw (layout, layout') (wider_marks fair W t ht)

  pub need_same : (ts : List ℕ) → Distinct (tiles_of p) ts → need (layout_of w) w ts ≡ need (layout_of p) p ts
  need_same ts D = rw (layout, layout') (wider_need fair W ts D)

  -- where the first pool is left as it was, so is the second
  unchanged : {q : List ℕ} (Says : List ℕ → Type 0) → q ≡ p → Says w → Follows L n Says q
  unchanged {q} Says e h = (w, s, h, subst (λ (x : List ℕ). Wider L n x w s) (sym e) W)

  place_follows : {shape : Shape} {id : ℕ} {a : Binned} {q : List ℕ} → id < id_limit → PlaceSays p shape id a q → a.number ≢ 8
      → Follows L n (λ v. PlaceSays w shape id a v) q
  place_follows i (PlaceSays.no_room ts T l e f) ne = absurd (ne (ap (λ (b : Binned). b.number) e))
  place_follows {shape} {id} {a} {q} i (PlaceSays.done ts T l flag F tests C e f) ne =
      let entry : ℕ → ℕ = (λ t. flagged id (flag t)) in
      let D = touched_distinct T in
      let T' : TouchedTiles (screen_of w) shape ts = subst (λ (d : Screen). TouchedTiles d shape ts) (sym W.screens) T in
      let same = need_same ts D in
      let more = wider_free fair W in
      let e' : a ≡ record { number = 0; tiles = length ts; blocks = need (layout_of w) w ts; tests = tests } = rw same e in (
        append_all (layout_of w) (tiles_of w) w ts entry,
        append_all_state L.ids s ts entry,
        PlaceSays.done ts T' (omega arith) flag (subst (λ (d : Screen). FlagsOf d shape flag) (sym W.screens) F) tests
            (subst (λ (d : Screen). TestsSay d shape tests) (sym W.screens) C) e' refl,
        rw (f, layout, layout') (wider_append_all fair W ts entry D (λ t. entry_in_range k i (flag t)) (rw layout at l)),
      )

  bin_follows : {shape : Shape} {id : ℕ} {a : Binned} {q : List ℕ} → BinSays p shape id a q → a.number ≢ 8 → Follows L n (λ v. BinSays w shape id a v) q
  bin_follows (BinSays.damaged d e f) ne = absurd (d alike_sound)
  bin_follows (BinSays.bad_id S i e f) ne = unchanged _ f (BinSays.bad_id alike_sound' i e refl)
  bin_follows (BinSays.out_of_range S i o e f) ne = unchanged _ f (BinSays.out_of_range alike_sound' i o e refl)
  bin_follows (BinSays.placed S i o k) ne = let F = place_follows i k ne in (F.0, F.1, BinSays.placed alike_sound' i o F.2, F.3)

  bin_pixels_follows : {shape : PixelShape} {id : ℕ} {a : Binned} {q : List ℕ} → BinPixelsSays p shape id a q → a.number ≢ 8
      → Follows L n (λ v. BinPixelsSays w shape id a v) q
  bin_pixels_follows (BinPixelsSays.damaged d e f) ne = absurd (d alike_sound)
  bin_pixels_follows (BinPixelsSays.bad_id S i e f) ne = unchanged _ f (BinPixelsSays.bad_id alike_sound' i e refl)
  bin_pixels_follows (BinPixelsSays.offence S i m o e f) ne = unchanged _ f (BinPixelsSays.offence alike_sound' i m o e refl)
  bin_pixels_follows (BinPixelsSays.placed S i whole o k) ne = let F = place_follows i k ne in (F.0, F.1, BinPixelsSays.placed alike_sound' i whole o F.2, F.3)

  read_follows : {t place : ℕ} {a : Found} → ReadSays p t place a → ReadSays w t place a
  read_follows (ReadSays.damaged d e) = absurd (d alike_sound)
  read_follows {t} {place} {a} (ReadSays.no_tile S h e) = ReadSays.no_tile alike_sound' (omega (arith, tiles_same)) e
  read_follows {t} {place} {a} (ReadSays.past S h l e) = ReadSays.past alike_sound' (omega (arith, tiles_same)) (rw (lists_same t h) l) e
  read_follows {t} {place} {a} (ReadSays.done S h l e) = ReadSays.done alike_sound' (omega (arith, tiles_same)) (rw (lists_same t h) l) (rw (lists_same t h) e)

  release_follows : {t : ℕ} {a : Released} {q : List ℕ} → ReleaseSays p t a q → Follows L n (λ v. ReleaseSays w t a v) q
  release_follows (ReleaseSays.damaged d e f) = absurd (d alike_sound)
  release_follows (ReleaseSays.no_tile S h e f) = unchanged _ f (ReleaseSays.no_tile alike_sound' (omega (arith, tiles_same)) e refl)
  release_follows {t} {a} {q} (ReleaseSays.done S h e f) =
      let e' : a ≡ record { number = 0; blocks = ceil (length (list_in w t)) (layout_of w).ids } = rw (lists_same t h, layout' ∙ sym layout) e in (
        release (layout_of w) (tiles_of w) w t,
        release_state s t,
        ReleaseSays.done alike_sound' (omega (arith, tiles_same)) e' refl,
        rw (f, layout, layout') (wider_release fair W t h),
      )

  pub step_follows : (e : Entry) (q : List ℕ) → Step p e q → number_of e ≢ 8 → Follows L n (λ v. Step w e v) q
  step_follows (binned shape id a) q k ne = bin_follows k ne
  step_follows (binned_pixels shape id a) q k ne = bin_pixels_follows k ne
  step_follows (found tile place a) q k ne = unchanged _ k.1 (read_follows k.0, refl)
  step_follows (released tile a) q k ne = release_follows k

-- ---- histories

dropped : (e : Entry) (h : List Entry) → number_of e ≡ 8 → less_room (e ∷ h) ≡ less_room h
dropped e h z = ap (λ (b : Bool). cond b (less_room h) (e ∷ less_room h)) (eq-eqb (number_of e) 8 z)

shared : (e : Entry) (h : List Entry) → number_of e ≢ 8 → less_room (e ∷ h) ≡ e ∷ less_room h
shared e h ne = ap (λ (b : Bool). cond b (less_room h) (e ∷ less_room h)) (ne_eqb (number_of e) 8 ne)

pub run_follows : {L : Layout} (k : Known L) {n : ℕ} {p w : List ℕ} {s : State} → Wider L n p w s → (h : List Entry) (q : List ℕ) → Run p h q
    → Follows L n (λ v. Run w (less_room h) v) q
run_follows k W [] q r = unchanged k W _ r refl
run_follows {L} k {n} {p} {w} {s} W (e ∷ h) q r =
    let F = run_follows k W h r.0 r.1 in
    ⊎_elim
    (λ (z : number_of e ≡ 8).
    let same : q ≡ r.0 = ((demand_1 r.0 e q r.2).refused (λ (y : number_of e ≡ 0). omega arith)).0 in
    (F.0, F.1, subst (λ (x : List Entry). Run w x F.0) (sym (dropped e h z)) F.2, subst (λ (x : List ℕ). Wider L n x F.0 F.1) (sym same) F.3))
    (λ (ne : number_of e ≢ 8).
    let G = step_follows k F.3 e q r.2 ne in
    (G.0, G.1, subst (λ (x : List Entry). Run w x G.0) (sym (shared e h ne)) (F.0, F.2, G.2), G.3))
    (eq_or_ne (number_of e) 8)
