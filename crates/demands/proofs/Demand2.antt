-- Demand 2 holds of every bin and every release of a sound pool.
use mathlib.Core.Path.{◌≡◌, refl, sym, ap, subst, ◌∙◌}
use mathlib.Core.Logic.{◌≢◌, ⊎_elim}
use mathlib.Core.Bool.{Bool}
use mathlib.Core.List.{List, [], ◌∷◌, ◌++◌, append-nil}
use Prim.Native.Nat.{ℕ, ◌≤◌, ◌<◌}
use native.Mathlib.Omega.{arith}
use lib.ListN.{length}
use Rattle.numbers.specs.Ceil.{ceil}
use Rattle.numbers.specs.Flag.{flagged}
use Rattle.numbers.proofs.Says.{says_true, says_false}
use Rattle.screen.specs.Rectangle.{rectangle}
use Rattle.shape.specs.declared.Shape.{Shape}
use Rattle.shape.specs.Shape.{InRange}
use Rattle.touch.specs.declared.Cover.{Cover}
use Rattle.touch.specs.declared.Cover.TheVariants.{Apart, Partly, Wholly}
use Rattle.touch.specs.Cover.{CoverSays}
use Rattle.touch.proofs.Points.{wholly_touches}
use Rattle.walk.specs.Touched.{TouchedTiles, FlagsOf}
use Rattle.walk.proofs.Exists.{flags_exist}
use Rattle.stepping.specs.Stepped.{TestsSay}
use Rattle.stepping.proofs.Exists.{tests_exist}
use Rattle.snap.specs.declared.PixelShape.{PixelShape}
use Rattle.std.specs.Prelude.{Ok, Err}
use Rattle.numbers.specs.declared.Refusal.{Refusal}
use Rattle.numbers.specs.Refusal.{number_of}
use Rattle.snap.specs.Shapes.{shape_of}
use Rattle.snap.proofs.Shapes.{SixOrSeven, refused_six_or_seven, whole_in_range}
use Rattle.pool.specs.Words.{Layout, id_limit, layout_of, tile_word}
use Rattle.pool.specs.State.{State, tile_of, times}
use Rattle.pool.specs.Sound.{Shows, Sound, screen_of, tiles_of, blocks_of}
use Rattle.pool.proofs.Editions.{layout_known, layout_fair, known_poison}
use Rattle.pool.proofs.Lists.{list_of_shows}
use Rattle.pool.proofs.Unique.{state_unique}
use Rattle.lists.specs.Releasing.{release}
use Rattle.lists.specs.Steps.{release_state}
use Rattle.lists.specs.Promises.{Appended}
use Rattle.lists.proofs.Gives.{times-onto}
use Rattle.lists.proofs.Releases.{release_releases}
use Rattle.calls.specs.Told.{Binned}
use Rattle.calls.specs.Told.{Released}
use Rattle.calls.specs.Tables.{PlaceSays, BinSays, BinPixelsSays, ReleaseSays, refused_bin, list_in}
use Rattle.calls.proofs.Keeping.{bin_appends, kept_layout}
use Rattle.demands.specs.Demand2.{StaysSound, NoRoom, HasRoom, gained, Listed, Demand2Bin, Demand2Pixels, Emptied, Demand2Release}
use Rattle.demands.proofs.Touched.{tile_proper, touched_in, untouched_in}
use Rattle.demands.proofs.OneOutcome.{bin_one_outcome, bin_pixels_one_outcome}
use Rattle.demands.proofs.Accepted.{same_stays, kept_stays, kept_list, kept_mark}

-- ---- the last rows of both bins

-- a row of another number
other : {C : Type 0} {a : Binned} {m n : ℕ} → a ≡ refused_bin m → a.number ≡ n → m ≢ n → C
other {C} {a} {m} {n} e z ne = absurd (ne (sym (ap (λ (b : Binned). b.number) e) ∙ z))

-- each list gains what the shape's cover of its tile says
appended_lists : {p : List ℕ} {shape : Shape} (id : ℕ) (S : Sound (layout_of p) p) {ts : List ℕ} → TouchedTiles (screen_of p) shape ts
    → (flag : ℕ → Bool) → FlagsOf (screen_of p) shape flag → {q : List ℕ} → Appended (layout_of p) p S q ts (λ t. flagged id (flag t))
    → (t : ℕ) → t < tiles_of p → (r : Cover) → CoverSays r shape (rectangle (screen_of p) t) → list_in q t ≡ list_in p t ++ gained r id
appended_lists {p} id S T flag F A t h Apart n = kept_list S A.kept t ∙ A.others t h (untouched_in T t h n) ∙ sym (append-nil (list_in p t))
appended_lists {p} id S T flag F A t h Partly (k, n) =
    kept_list S A.kept t ∙ A.gains t (touched_in T t h k) ∙ ap (λ (b : Bool). list_in p t ++ (flagged id b ∷ [])) (says_false (F t h) n)
appended_lists {p} id S T flag F A t h Wholly w =
    let k = wholly_touches (tile_proper (screen_of p) S.opened.screen t h) w in
    kept_list S A.kept t ∙ A.gains t (touched_in T t h k) ∙ ap (λ (b : Bool). list_in p t ++ (flagged id b ∷ [])) (says_true (F t h) w)

module _ {p : List ℕ} {shape : Shape} {id : ℕ} {a : Binned} {q : List ℕ} where
  place_other : {n : ℕ} → PlaceSays p shape id a q → a.number ≡ n → 8 ≢ n → 0 ≢ n → ⊥
  place_other (PlaceSays.no_room ts T l e f) z ne ne' = other e z ne
  place_other (PlaceSays.done ts T l flag F tests C e f) z ne ne' = ne' (sym (ap (λ (b : Binned). b.number) e) ∙ z)

  place_no_room : id < id_limit → InRange shape → PlaceSays p shape id a q → a.number ≡ 8 → NoRoom p shape id
  place_no_room i o (PlaceSays.no_room ts T l e f) z = (record { id< = i; in_range = o; ts = ts; touched = T }, l)
  place_no_room i o (PlaceSays.done ts T l flag F tests C e f) z = absurd (omega (arith, ap (λ (b : Binned). b.number) e))

  place_done : id < id_limit → InRange shape → PlaceSays p shape id a q → a.number ≡ 0 → HasRoom p shape id
  place_done i o (PlaceSays.no_room ts T l e f) z = other e z (omega arith)
  place_done i o (PlaceSays.done ts T l flag F tests C e f) z = (record { id< = i; in_range = o; ts = ts; touched = T }, l)

  place_stays : Sound (layout_of p) p → id < id_limit → PlaceSays p shape id a q → StaysSound p q
  place_stays S i (PlaceSays.no_room ts T l e f) = same_stays S f
  place_stays S i (PlaceSays.done ts T l flag F tests C e f) =
      let A = bin_appends S id i T l flag in
      subst (λ (x : List ℕ). StaysSound p x) (sym f) (kept_stays S A.kept A.sound)

  place_listed : Sound (layout_of p) p → id < id_limit → PlaceSays p shape id a q → a.number ≡ 0 → Listed p shape id a q
  place_listed S i (PlaceSays.no_room ts T l e f) z = other e z (omega arith)
  place_listed S i (PlaceSays.done ts T l flag F tests C e f) z =
      let A = bin_appends S id i T l flag in
      subst (λ (x : List ℕ). Listed p shape id a x) (sym f)
      (record {
        lists = appended_lists id S T flag F A;
        marks = λ t h. rw (kept_list S A.kept t, kept_mark S A.kept t) (A.marks t h);
        tiles = (ts, T, ap (λ (b : Binned). b.tiles) e);
        blocks = omega (arith, ap (λ (b : Binned). b.blocks) e, A.taken);
        tests = subst (TestsSay (screen_of p) shape) (sym (ap (λ (b : Binned). b.tests) e)) C;
      })

-- ---- bin of a shape in units

module _ {p : List ℕ} {shape : Shape} {id : ℕ} {a : Binned} {q : List ℕ} where
  bin_not_damaged : Sound (layout_of p) p → BinSays p shape id a q → a.number ≢ 4
  bin_not_damaged S (BinSays.damaged n e f) z = n S
  bin_not_damaged S (BinSays.bad_id S' i e f) z = other e z (omega arith)
  bin_not_damaged S (BinSays.out_of_range S' i o e f) z = other e z (omega arith)
  bin_not_damaged S (BinSays.placed S' i o w) z = place_other w z (omega arith) (omega arith)

  bin_bad_id : BinSays p shape id a q → a.number ≡ 5 → id_limit ≤ id
  bin_bad_id (BinSays.damaged n e f) z = other e z (omega arith)
  bin_bad_id (BinSays.bad_id S i e f) z = i
  bin_bad_id (BinSays.out_of_range S i o e f) z = other e z (omega arith)
  bin_bad_id (BinSays.placed S i o w) z = absurd (place_other w z (omega arith) (omega arith))

  bin_out_of_range : BinSays p shape id a q → a.number ≡ 7 → (id < id_limit) × (InRange shape → ⊥)
  bin_out_of_range (BinSays.damaged n e f) z = other e z (omega arith)
  bin_out_of_range (BinSays.bad_id S i e f) z = other e z (omega arith)
  bin_out_of_range (BinSays.out_of_range S i o e f) z = (i, o)
  bin_out_of_range (BinSays.placed S i o w) z = absurd (place_other w z (omega arith) (omega arith))

  bin_no_room : BinSays p shape id a q → a.number ≡ 8 → NoRoom p shape id
  bin_no_room (BinSays.damaged n e f) z = other e z (omega arith)
  bin_no_room (BinSays.bad_id S i e f) z = other e z (omega arith)
  bin_no_room (BinSays.out_of_range S i o e f) z = other e z (omega arith)
  bin_no_room (BinSays.placed S i o w) z = place_no_room i o w z

  bin_done : BinSays p shape id a q → a.number ≡ 0 → HasRoom p shape id × Listed p shape id a q
  bin_done (BinSays.damaged n e f) z = other e z (omega arith)
  bin_done (BinSays.bad_id S i e f) z = other e z (omega arith)
  bin_done (BinSays.out_of_range S i o e f) z = other e z (omega arith)
  bin_done (BinSays.placed S i o w) z = (place_done i o w z, place_listed S i w z)

  bin_stays : Sound (layout_of p) p → BinSays p shape id a q → StaysSound p q
  bin_stays S (BinSays.damaged n e f) = same_stays S f
  bin_stays S (BinSays.bad_id S' i e f) = same_stays S f
  bin_stays S (BinSays.out_of_range S' i o e f) = same_stays S f
  bin_stays S (BinSays.placed S' i o w) = place_stays S i w

  -- an outcome of the contract has the number of a row that applies
  bin_number : {b : Binned} {r : List ℕ} → BinSays p shape id a q → BinSays p shape id b r → a.number ≡ b.number
  bin_number B C = ap (λ (b : Binned). b.number) (bin_one_outcome B C).0

  pub demand_2_bin : Sound (layout_of p) p → BinSays p shape id a q → Demand2Bin p shape id a q
  demand_2_bin S B = record {
    not_damaged = bin_not_damaged S B;
    bad_id = (bin_bad_id B, λ h. bin_number B (BinSays.bad_id S h refl refl));
    out_of_range = (bin_out_of_range B, λ h. bin_number B (BinSays.out_of_range S h.0 h.1 refl refl));
    no_room = (
      bin_no_room B,
      λ h. let o = h.0 in bin_number B (BinSays.placed S o.id< o.in_range (PlaceSays.no_room o.ts o.touched h.1 refl refl)),
    );
    done = (
      (λ z. (bin_done B z).0),
      λ h.
          let o = h.0 in
          let flags = flags_exist (screen_of p) S.opened.screen shape in
          let tests = tests_exist (screen_of p) S.opened.screen shape in
          bin_number B (BinSays.placed S o.id< o.in_range (PlaceSays.done o.ts o.touched h.1 flags.0 flags.1 tests.0 tests.1 refl refl)),
    );
    listed = λ z. (bin_done B z).1;
    stays = bin_stays S B;
  }

-- ---- bin of a shape in pixels

-- the shape is refused with 6 or 7
offence_other : (shape : PixelShape) {C : Type 0} {a : Binned} {r : Refusal} {n : ℕ} → shape_of shape ≡ Err r → a ≡ refused_bin (number_of r)
    → a.number ≡ n → 6 ≢ n → 7 ≢ n → C
offence_other shape {C} {a} {r} {n} o e z n6 n7 =
    ⊎_elim (λ (s : number_of r ≡ 6). other e z (λ u. n6 (sym s ∙ u))) (λ (s : number_of r ≡ 7). other e z (λ u. n7 (sym s ∙ u))) (refused_six_or_seven shape o)

module _ {p : List ℕ} {shape : PixelShape} {id : ℕ} {a : Binned} {q : List ℕ} where
  pixels_not_damaged : Sound (layout_of p) p → BinPixelsSays p shape id a q → a.number ≢ 4
  pixels_not_damaged S (BinPixelsSays.damaged n e f) z = n S
  pixels_not_damaged S (BinPixelsSays.bad_id S' i e f) z = other e z (omega arith)
  pixels_not_damaged S (BinPixelsSays.offence S' i n o e f) z = offence_other shape o e z (omega arith) (omega arith)
  pixels_not_damaged S (BinPixelsSays.placed S' i whole o w) z = place_other w z (omega arith) (omega arith)

  pixels_bad_id : BinPixelsSays p shape id a q → a.number ≡ 5 → id_limit ≤ id
  pixels_bad_id (BinPixelsSays.damaged n e f) z = other e z (omega arith)
  pixels_bad_id (BinPixelsSays.bad_id S i e f) z = i
  pixels_bad_id (BinPixelsSays.offence S i n o e f) z = offence_other shape o e z (omega arith) (omega arith)
  pixels_bad_id (BinPixelsSays.placed S i whole o w) z = absurd (place_other w z (omega arith) (omega arith))

  pixels_offence : Sound (layout_of p) p → BinPixelsSays p shape id a q → (n : ℕ) → SixOrSeven n → a.number ≡ n
      → (id < id_limit) × ((r : Refusal) × (shape_of shape ≡ Err r) × (number_of r ≡ n))
  pixels_offence S (BinPixelsSays.damaged d e f) n s z = absurd (d S)
  pixels_offence S (BinPixelsSays.bad_id S' i e f) n s z =
      ⊎_elim (λ (u : n ≡ 6). other e z (omega arith)) (λ (u : n ≡ 7). other e z (omega arith)) s
  pixels_offence S (BinPixelsSays.offence S' i m o e f) n s z =
      (i, (m, o, sym (ap (λ (b : Binned). b.number) e) ∙ z))
  pixels_offence S (BinPixelsSays.placed S' i whole o w) n s z =
      ⊎_elim (λ (u : n ≡ 6). absurd (place_other w z (omega arith) (omega arith))) (λ (u : n ≡ 7). absurd (place_other w z (omega arith) (omega arith))) s

  pixels_no_room : BinPixelsSays p shape id a q → a.number ≡ 8 → (whole : Shape) × (shape_of shape ≡ Ok whole) × NoRoom p whole id
  pixels_no_room (BinPixelsSays.damaged n e f) z = other e z (omega arith)
  pixels_no_room (BinPixelsSays.bad_id S i e f) z = other e z (omega arith)
  pixels_no_room (BinPixelsSays.offence S i n o e f) z = offence_other shape o e z (omega arith) (omega arith)
  pixels_no_room (BinPixelsSays.placed S i whole o w) z = (whole, o, place_no_room i (whole_in_range shape o) w z)

  pixels_done : BinPixelsSays p shape id a q → a.number ≡ 0
      → (whole : Shape) × (shape_of shape ≡ Ok whole) × HasRoom p whole id × Listed p whole id a q
  pixels_done (BinPixelsSays.damaged n e f) z = other e z (omega arith)
  pixels_done (BinPixelsSays.bad_id S i e f) z = other e z (omega arith)
  pixels_done (BinPixelsSays.offence S i n o e f) z = offence_other shape o e z (omega arith) (omega arith)
  pixels_done (BinPixelsSays.placed S i whole o w) z = (whole, o, place_done i (whole_in_range shape o) w z, place_listed S i w z)

  pixels_stays : Sound (layout_of p) p → BinPixelsSays p shape id a q → StaysSound p q
  pixels_stays S (BinPixelsSays.damaged n e f) = same_stays S f
  pixels_stays S (BinPixelsSays.bad_id S' i e f) = same_stays S f
  pixels_stays S (BinPixelsSays.offence S' i n o e f) = same_stays S f
  pixels_stays S (BinPixelsSays.placed S' i whole o w) = place_stays S i w

  pixels_number : {b : Binned} {r : List ℕ} → BinPixelsSays p shape id a q → BinPixelsSays p shape id b r → a.number ≡ b.number
  pixels_number B C = ap (λ (b : Binned). b.number) (bin_pixels_one_outcome B C).0

  pub demand_2_pixels : Sound (layout_of p) p → BinPixelsSays p shape id a q → Demand2Pixels p shape id a q
  demand_2_pixels S B = record {
    not_damaged = pixels_not_damaged S B;
    bad_id = (pixels_bad_id B, λ h. pixels_number B (BinPixelsSays.bad_id S h refl refl));
    offence = λ n s. (pixels_offence S B n s, λ h. pixels_number B (BinPixelsSays.offence S h.0 h.1.0 h.1.1 refl refl) ∙ h.1.2);
    no_room = (
      pixels_no_room B,
      λ h. let o = h.2.0 in pixels_number B (BinPixelsSays.placed S o.id< h.0 h.1 (PlaceSays.no_room o.ts o.touched h.2.1 refl refl)),
    );
    done = (
      (λ z. let r = pixels_done B z in (r.0, r.1, r.2)),
      λ h.
          let o = h.2.0 in
          let flags = flags_exist (screen_of p) S.opened.screen h.0 in
          let tests = tests_exist (screen_of p) S.opened.screen h.0 in
          pixels_number B (BinPixelsSays.placed S o.id< h.0 h.1 (PlaceSays.done o.ts o.touched h.2.1 flags.0 flags.1 tests.0 tests.1 refl refl)),
    );
    listed = λ z. let r = pixels_done B z in (r.0, r.1, r.3);
    stays = pixels_stays S B;
  }

-- ---- release

release-emptied : {p : List ℕ} (S : Sound (layout_of p) p) (t : ℕ) (a : Released) → t < tiles_of p → a.blocks ≡ ceil (length (list_in p t)) (layout_of p).ids
    → Emptied p S t a (release (layout_of p) (tiles_of p) p t)
release-emptied {p} S t a h e =
    let q = release (layout_of p) (tiles_of p) p t in
    let E = release_releases (layout_fair p) S t h in
    let entries : tile_word (layout_of p) p t 0 ≡ length (list_in p t)
    = (S.shows.tile t h).entries ∙ ap length (sym (list_of_shows (layout_fair p) S.shows t h)) in
    record {
      emptied = kept_list S E.kept t ∙ E.emptied;
      others = λ u hu ne. kept_list S E.kept u ∙ E.others u hu ne;
      marks = λ u hu. kept_mark S E.kept u ∙ E.marks u hu;
      count = e;
      given = omega (arith, E.given, ap (λ (n : ℕ). ceil n (layout_of p).ids) entries);
      free = λ R b hb.
          let shows = subst (λ (L : Layout). Shows L (tiles_of q) (blocks_of q) q R.state) (kept_layout S E.kept) R.shows in
          let same : R.state ≡ release_state S.state t = state_unique (layout_fair p) shows E.sound.shows ∙ E.says in
          subst (λ (s : State). 0 < times b s.free) (sym same) (omega (arith, times-onto b (tile_of S.state t).blocks S.state.free));
      poisoned = λ b hb k hk. E.poisoned b hb k hk ∙ known_poison (layout_known p);
    }

module _ {p : List ℕ} (S : Sound (layout_of p) p) {t : ℕ} {a : Released} {q : List ℕ} where
  pub demand_2_release : ReleaseSays p t a q → Demand2Release p S t a q
  demand_2_release (ReleaseSays.damaged n e f) = absurd (n S)
  demand_2_release (ReleaseSays.no_tile S' h e f) =
      let nine = ap (λ (b : Released). b.number) e in
      record {
        no_tile = (λ _. h, λ _. nine);
        done = ((λ z. absurd (omega arith)), (λ k. absurd (omega arith)));
        emptied = λ z. absurd (omega arith);
        stays = same_stays S f;
      }
  demand_2_release (ReleaseSays.done S' h e f) =
      let zero_is = ap (λ (b : Released). b.number) e in
      let E = release_releases (layout_fair p) S t h in
      subst (λ (x : List ℕ). Demand2Release p S t a x) (sym f)
      (record {
        no_tile = ((λ z. absurd (omega arith)), (λ k. absurd (omega arith)));
        done = (λ _. h, λ _. zero_is);
        emptied = λ _. release-emptied S t a h (ap (λ (b : Released). b.blocks) e);
        stays = kept_stays S E.kept E.sound;
      })
