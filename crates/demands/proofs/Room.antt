-- The words past the room do not matter: the second slice can be answered as the first was, and is then left with the same words in the room; and a contract
-- admits one outcome only.
use mathlib.Core.Path.{◌≡◌, refl, sym, ap, ap₂, subst, ◌∙◌}
use mathlib.Core.Logic.{◌↔◌}
use mathlib.Core.Bool.{Bool}
use mathlib.Core.List.{List, [], ◌∷◌}
use Prim.Native.Nat.{ℕ, ◌≤◌, ◌<◌}
use native.Mathlib.Omega.{arith}
use lib.ListN.{length}
use Rattle.numbers.specs.Flag.{flagged}
use Rattle.screen.specs.declared.Screen.{Screen}
use Rattle.screen.specs.Screen.{Allowed, tiles}
use Rattle.shape.specs.declared.Shape.{Shape}
use Rattle.stepping.specs.Stepped.{TestsSay}
use Rattle.snap.specs.declared.PixelShape.{PixelShape}
use Rattle.walk.specs.Touched.{TouchedTiles, FlagsOf}
use Rattle.pool.specs.Words.{Layout, Known, id_limit, layout_of, room}
use Rattle.pool.specs.Sound.{Sound, screen_of, tiles_of, blocks_of}
use Rattle.pool.specs.Lists.{list_of}
use Rattle.pool.specs.Opening.{opening, OpenSays}
use Rattle.pool.proofs.Editions.{layout_known, layout_fair, known_fair, opened_layout, keeps_layout}
use Rattle.pool.proofs.Lists.{list_of_shows}
use Rattle.pool.proofs.Header.{Keeps, keeps-tiles, keeps_blocks}
use Rattle.pool.proofs.Opening.{header_fits, opening-length, opening-tiles, opening_blocks, opening_opened}
use Rattle.pool.proofs.Room.{Agree, header_agrees, tile_agrees, agree_shows, agree_layout, agree_screen, agree_tiles, agree_room, agree_sound, opening_agrees}
use Rattle.lists.specs.Appending.{need, append_all, Distinct}
use Rattle.lists.specs.Releasing.{release}
use Rattle.lists.proofs.Counts.{need_shows}
use Rattle.lists.proofs.Several.{kept-keeps}
use Rattle.lists.proofs.Releases.{release_releases}
use Rattle.lists.proofs.AppendLoop.{need-kept}
use Rattle.lists.proofs.Together.{Together, append_all_together, release-together}
use Rattle.calls.specs.Told.{Binned}
use Rattle.calls.specs.Told.{Released}
use Rattle.calls.specs.Told.{Found}
use Rattle.calls.specs.Told.{HighWater}
use Rattle.calls.specs.Tables.{AuditSays, PlaceSays, BinSays, BinPixelsSays, ReadSays, HighWaterSays, ReleaseSays, list_in, free_in}
use Rattle.calls.proofs.Placing.{touched_distinct}
use Rattle.calls.proofs.Keeping.{bin_appends, entry_in_range}
use Rattle.demands.specs.History.{Entry, binned, binned_pixels, found, released, Step, Run}
use Rattle.demands.specs.Room.{room_of, SameRoom, PastTheRoom, PastTheRoomAudit, PastTheRoomHighWater, PastTheRoomOpen}
use Rattle.demands.proofs.OneOutcome.{open_one_outcome, audit_one_outcome, high_water_one_outcome}
use Rattle.demands.proofs.Runs.{runs_one_outcome}

-- ---- two slices with the same room

agree : {p w : List ℕ} → SameRoom p w → Agree (layout_of p) (tiles_of p) (blocks_of p) p w
agree S = record { words = λ i h. S.words i (omega arith) }

layout_same : {p w : List ℕ} → SameRoom p w → layout_of w ≡ layout_of p
layout_same S = agree_layout (agree S)

pub same_sound : {p w : List ℕ} → SameRoom p w → Sound (layout_of p) p → Sound (layout_of w) w
same_sound {p} S P = rw (layout_same S) (agree_sound (layout_fair p) (agree S) (S.long.0 P.opened.long) P)

pub same_sym : {p w : List ℕ} → SameRoom p w → SameRoom w p
same_sym {p} {w} S =
    let e : room_of w ≡ room_of p = ap (λ (L : Layout). room L (tiles_of w) (blocks_of w)) (layout_same S) ∙ agree_room (layout_fair p) (agree S) in
    record { words = λ i h. sym (S.words i (omega arith)); long = rw e (S.long.1, S.long.0) }

-- it is the room of a layout, of T tiles and N blocks
same_in : {L : Layout} {T N : ℕ} {p w : List ℕ} → layout_of p ≡ L → tiles_of p ≡ T → blocks_of p ≡ N → Together L T N p w → SameRoom p w
same_in {L} {T} {N} {p} {w} el et en G =
    let e : room_of p ≡ room L T N = (λ i. room (el i) (et i) (en i)) in
    record { words = λ i h. G.agree.words i (omega arith); long = omega arith }

-- ---- the calls, row by row

-- the second slice is answered so too, and is left with the words of q in the room
abbrev Follows : (Says : List ℕ → Type 0) (q : List ℕ) → Type 0
Follows Says q = (v : List ℕ) × Says v × SameRoom q v

module _ {p w : List ℕ} (S : SameRoom p w) where
  same : layout_of w ≡ layout_of p
  same = layout_same S

  sound : Sound (layout_of p) p → Sound (layout_of w) w
  sound = same_sound S

  unsound : (Sound (layout_of p) p → ⊥) → Sound (layout_of w) w → ⊥
  unsound n P = n (same_sound (same_sym S) P)

  pub tiles_same : tiles_of w ≡ tiles_of p
  tiles_same = agree_tiles (layout_fair p) (agree S)

  pub blocks_same : blocks_of w ≡ blocks_of p
  blocks_same = header_agrees (agree S) 3 (omega (arith, (layout_fair p).header>))

  pub free_same : free_in w ≡ free_in p
  free_same = header_agrees (agree S) 4 (omega (arith, (layout_fair p).header>))

  need_same : {ts : List ℕ} → Distinct (tiles_of p) ts → need (layout_of w) w ts ≡ need (layout_of p) p ts
  need_same {ts} D = rw same (need-kept (layout_of p) p w ts (λ u h. tile_agrees (agree S) u 0 (D.below u h) (omega (arith, (layout_fair p).tile>))))

  screen_same : screen_of w ≡ screen_of p
  screen_same = agree_screen (layout_fair p) (agree S)

  touched_same : {shape : Shape} {ts : List ℕ} → TouchedTiles (screen_of p) shape ts → TouchedTiles (screen_of w) shape ts
  touched_same {shape} {ts} T = subst (λ (d : Screen). TouchedTiles d shape ts) (sym screen_same) T

  -- where the first slice is left as it was, so is the second
  unchanged : {q : List ℕ} (Says : List ℕ → Type 0) → q ≡ p → Says w → Follows Says q
  unchanged Says e h = (w, h, subst (λ (x : List ℕ). SameRoom x w) (sym e) S)

  audit_follows : {a : ℕ} → AuditSays p a → AuditSays w a
  audit_follows (AuditSays.damaged n e) = AuditSays.damaged (unsound n) e
  audit_follows (AuditSays.done P e) = AuditSays.done (sound P) e

  high_water_follows : {t : ℕ} {a : HighWater} → HighWaterSays p t a → HighWaterSays w t a
  high_water_follows (HighWaterSays.damaged n e) = HighWaterSays.damaged (unsound n) e
  high_water_follows (HighWaterSays.no_tile P h e) = HighWaterSays.no_tile (sound P) (rw tiles_same h) e
  high_water_follows {t} {a} (HighWaterSays.done P h e) =
      HighWaterSays.done (sound P) (rw tiles_same h) (rw (same, tile_agrees (agree S) t 3 h (layout_fair p).tile>) e)

  module _ (P : Sound (layout_of p) p) where
    together : Together (layout_of p) (tiles_of p) (blocks_of p) p w
    together = record { long = P.opened.long; long' = S.long.0 P.opened.long; agree = agree S }

    pub lists_same : (t : ℕ) → t < tiles_of p → list_in w t ≡ list_in p t
    lists_same t ht =
        ap₂ (λ (L : Layout) (T : ℕ). list_of L T w t) same tiles_same
        ∙ list_of_shows (layout_fair p) (agree_shows (agree S) (layout_fair p) P.shows) t ht
        ∙ sym (list_of_shows (layout_fair p) P.shows t ht)

    -- what keeps the fixed words of p is left in the same room
    kept_same : {q v : List ℕ} → Keeps (layout_of p) p q → Together (layout_of p) (tiles_of p) (blocks_of p) q v → SameRoom q v
    kept_same K G = same_in (keeps_layout (layout_known p) P.opened K) (keeps-tiles (layout_fair p) K) (keeps_blocks (layout_fair p) K) G

    appended_same : {shape : Shape} {ts : List ℕ} (id : ℕ) → id < id_limit → TouchedTiles (screen_of p) shape ts → need (layout_of p) p ts ≤ free_in p
        → (flag : ℕ → Bool)
        → SameRoom (append_all (layout_of p) (tiles_of p) p ts (λ t. flagged id (flag t))) (append_all (layout_of w) (tiles_of w) w ts (λ t. flagged id (flag t)))
    appended_same {shape} {ts} id i T l flag =
        let D = touched_distinct T in
        rw (same, tiles_same)
        (kept_same (kept-keeps (bin_appends P id i T l flag).kept)
        (append_all_together (layout_fair p) (λ t. flagged id (flag t)) (λ t. entry_in_range (layout_known p) i (flag t)) ts together P.shows D
        (omega (arith, need_shows P.shows ts D.below, P.shows.count))))

    released_same : (t : ℕ) → t < tiles_of p → SameRoom (release (layout_of p) (tiles_of p) p t) (release (layout_of w) (tiles_of w) w t)
    released_same t ht =
        rw (same, tiles_same)
        (kept_same (kept-keeps (release_releases (layout_fair p) P t ht).kept) (release-together (layout_fair p) together P.shows t ht))

  place_follows : {shape : Shape} {id : ℕ} {a : Binned} {q : List ℕ} → Sound (layout_of p) p → id < id_limit → PlaceSays p shape id a q
      → Follows (λ v. PlaceSays w shape id a v) q
  place_follows P i (PlaceSays.no_room ts T l e f) =
      unchanged _ f (PlaceSays.no_room ts (touched_same T) (omega (arith, need_same (touched_distinct T), free_same)) e refl)
  place_follows {shape} {id} P i (PlaceSays.done ts T l flag F tests C e f) =
      let needs = need_same (touched_distinct T) in (
        append_all (layout_of w) (tiles_of w) w ts (λ t. flagged id (flag t)),
        PlaceSays.done ts (touched_same T) (omega (arith, free_same)) flag (subst (λ (d : Screen). FlagsOf d shape flag) (sym screen_same) F) tests
            (subst (λ (d : Screen). TestsSay d shape tests) (sym screen_same) C) (rw needs e) refl,
        rw f (appended_same P id i T l flag),
      )

  pub bin_follows : {shape : Shape} {id : ℕ} {a : Binned} {q : List ℕ} → BinSays p shape id a q → Follows (λ v. BinSays w shape id a v) q
  bin_follows (BinSays.damaged n e f) = unchanged _ f (BinSays.damaged (unsound n) e refl)
  bin_follows (BinSays.bad_id P i e f) = unchanged _ f (BinSays.bad_id (sound P) i e refl)
  bin_follows (BinSays.out_of_range P i o e f) = unchanged _ f (BinSays.out_of_range (sound P) i o e refl)
  bin_follows (BinSays.placed P i o k) = let F = place_follows P i k in (F.0, BinSays.placed (sound P) i o F.1, F.2)

  bin_pixels_follows : {shape : PixelShape} {id : ℕ} {a : Binned} {q : List ℕ} → BinPixelsSays p shape id a q → Follows (λ v. BinPixelsSays w shape id a v) q
  bin_pixels_follows (BinPixelsSays.damaged n e f) = unchanged _ f (BinPixelsSays.damaged (unsound n) e refl)
  bin_pixels_follows (BinPixelsSays.bad_id P i e f) = unchanged _ f (BinPixelsSays.bad_id (sound P) i e refl)
  bin_pixels_follows (BinPixelsSays.offence P i m o e f) = unchanged _ f (BinPixelsSays.offence (sound P) i m o e refl)
  bin_pixels_follows (BinPixelsSays.placed P i whole o k) = let F = place_follows P i k in (F.0, BinPixelsSays.placed (sound P) i whole o F.1, F.2)

  read_follows : {t place : ℕ} {a : Found} → ReadSays p t place a → ReadSays w t place a
  read_follows (ReadSays.damaged n e) = ReadSays.damaged (unsound n) e
  read_follows (ReadSays.no_tile P h e) = ReadSays.no_tile (sound P) (rw tiles_same h) e
  read_follows {t} {place} {a} (ReadSays.past P h l e) = ReadSays.past (sound P) (rw tiles_same h) (rw (lists_same P t h) l) e
  read_follows {t} {place} {a} (ReadSays.done P h l e) = ReadSays.done (sound P) (rw tiles_same h) (rw (lists_same P t h) l) (rw (lists_same P t h) e)

  release_follows : {t : ℕ} {a : Released} {q : List ℕ} → ReleaseSays p t a q → Follows (λ v. ReleaseSays w t a v) q
  release_follows (ReleaseSays.damaged n e f) = unchanged _ f (ReleaseSays.damaged (unsound n) e refl)
  release_follows (ReleaseSays.no_tile P h e f) = unchanged _ f (ReleaseSays.no_tile (sound P) (rw tiles_same h) e refl)
  release_follows {t} {a} {q} (ReleaseSays.done P h e f) =
      (release (layout_of w) (tiles_of w) w t, ReleaseSays.done (sound P) (rw tiles_same h) (rw (lists_same P t h, same) e) refl, rw f (released_same P t h))

  step_follows : (e : Entry) (q : List ℕ) → Step p e q → Follows (λ v. Step w e v) q
  step_follows (binned shape id a) q k = bin_follows k
  step_follows (binned_pixels shape id a) q k = bin_pixels_follows k
  step_follows (found tile place a) q k = unchanged _ k.1 (read_follows k.0, refl)
  step_follows (released tile a) q k = release_follows k

run_follows : {p w : List ℕ} → SameRoom p w → (h : List Entry) (q : List ℕ) → Run p h q → Follows (λ v. Run w h v) q
run_follows S [] q r = unchanged S _ r refl
run_follows S (e ∷ h) q r =
    let F = run_follows S h r.0 r.1 in
    let G = step_follows F.2 e q r.2 in
    (G.0, (F.0, F.1, G.1), G.2)

-- ---- an opening

module _ {L : Layout} (p w : List ℕ) (d : Screen) (N : ℕ) (both : (room L (tiles d) N ≤ length p) ↔ (room L (tiles d) N ≤ length w)) where
  openings_same : Known L → Allowed d → N ≤ 2048 → room L (tiles d) N ≤ length p → SameRoom (opening L d N p) (opening L d N w)
  openings_same k s m l =
      let fits = header_fits k d N in
      let A = known_fair k in
      same_in (opened_layout k (opening_opened L d N p fits A s m l)) (opening-tiles L d N p fits A) (opening_blocks L d N p fits A)
      (record {
        long = rw (opening-length L d N p fits l) l;
        long' = rw (opening-length L d N w fits (both.0 l)) (both.0 l);
        agree = opening_agrees L d N fits p w;
      })

  open_follows : {a : ℕ} {q : List ℕ} → OpenSays L p d N a q → (v : List ℕ) × OpenSays L w d N a v × (a ≡ 0 → SameRoom q v)
  open_follows (OpenSays.bad_screen n e f) = (w, OpenSays.bad_screen n e refl, λ z. absurd (omega arith))
  open_follows (OpenSays.bad_blocks s m e f) = (w, OpenSays.bad_blocks s m e refl, λ z. absurd (omega arith))
  open_follows (OpenSays.too_short s m k l e f) =
      let short : room L (tiles d) N ≤ length w → ⊥ = (λ h. omega (arith, both.1 h)) in
      (w, OpenSays.too_short s m k (omega arith) e refl, λ z. absurd (omega arith))
  open_follows (OpenSays.done s m k l e f) = (opening L d N w, OpenSays.done s m k (both.0 l) e refl, λ z. rw f (openings_same k s m l))

-- ---- the theorems

pub past_the_room : PastTheRoom
past_the_room p₁ p₂ S h₁ h₂ q₁ q₂ c R₁ R₂ =
    let F = run_follows S h₁ q₁ R₁ in
    let one = runs_one_outcome p₂ h₁ h₂ F.0 q₂ c F.1 R₂ in
    (one.0, subst (λ (x : List ℕ). SameRoom q₁ x) one.1 F.2)

pub past_the_room_audit : PastTheRoomAudit
past_the_room_audit p₁ p₂ S a₁ a₂ A₁ A₂ = audit_one_outcome (audit_follows S A₁) A₂

pub past_the_room_high_water : PastTheRoomHighWater
past_the_room_high_water p₁ p₂ S t a₁ a₂ A₁ A₂ = high_water_one_outcome (high_water_follows S A₁) A₂

pub past_the_room_open : PastTheRoomOpen
past_the_room_open L p₁ p₂ d N both a₁ a₂ q₁ q₂ O₁ O₂ =
    let F = open_follows p₁ p₂ d N both O₁ in
    let one = open_one_outcome F.1 O₂ in
    (one.0, λ z. subst (λ (x : List ℕ). SameRoom q₁ x) one.1 (F.2 z))
