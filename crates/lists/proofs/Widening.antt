-- Two pools that say the same, the second with n blocks more: appends and releases keep them so, and what that means for their words.
use mathlib.Core.Path.{◌≡◌, refl, sym, ap, ◌∙◌, subst}
use mathlib.Core.Bool.{Bool, true, false}
use mathlib.Core.List.{List, [], ◌∷◌, ◌++◌}
use Prim.Native.Nat.{ℕ, zero, suc, ◌+◌, ◌≤◌, ◌<◌}
use native.Mathlib.Nat.{not-suc-le-zero}
use native.Mathlib.Omega.{arith}
use lib.ListN.{length, length-append}
use Rattle.numbers.specs.Sum.{one}
use Rattle.screen.specs.declared.Screen.{Screen}
use Rattle.screen.specs.Screen.{Allowed, tiles}
use Rattle.pool.specs.Words.{Layout, Fair, room, header_word, tile_word, block_word}
use Rattle.pool.specs.State.{State, tile_of}
use Rattle.pool.specs.Sound.{Shows, Sound, tiles_of, blocks_of}
use Rattle.pool.specs.Lists.{list_of}
use Rattle.pool.specs.Opening.{rising, header_for, opening, opening_state}
use Rattle.pool.proofs.Times.{times-append}
use Rattle.pool.proofs.Rising.{length-rising, times-rising}
use Rattle.pool.proofs.Opening.{opening-screen, opening-tiles, opening_blocks, opening_opened, opening_shows}
use Rattle.pool.proofs.Chain.{holds_nothing}
use Rattle.pool.proofs.Lists.{list_of_shows}
use Rattle.pool.proofs.Header.{Keeps, keeps-screen, keeps-tiles, keeps_blocks, keeps_opened}
use Rattle.lists.specs.Appending.{pick, multiple, need, append_all, Distinct}
use Rattle.lists.specs.Releasing.{release}
use Rattle.lists.specs.Steps.{head_or, tail, onto, in_new, in_last, append_state, append_all_state, need_state, release_state}
use Rattle.lists.specs.Wider.{widen, Wider}
use Rattle.lists.proofs.Counts.{append_free, need_other, need_shows, distinct_first, distinct_rest}
use Rattle.lists.proofs.Several.{kept-keeps, append_all_shows}
use Rattle.lists.proofs.Releases.{release_shows}

-- ---- the steps do not see the blocks at the end of the free chain

head_more : (f e : List ℕ) → 0 < length f → head_or 0 (f ++ e) ≡ head_or 0 f
head_more [] e h = absurd (not-suc-le-zero h)
head_more (x ∷ f) e h = refl

tail_more : (f e : List ℕ) → 0 < length f → tail (f ++ e) ≡ tail f ++ e
tail_more [] e h = absurd (not-suc-le-zero h)
tail_more (x ∷ f) e h = refl

onto_more : (bs f e : List ℕ) → onto bs (f ++ e) ≡ onto bs f ++ e
onto_more [] f e = refl
onto_more (b ∷ bs) f e = onto_more bs (b ∷ f) e

widen_by : (c : Bool) (N n : ℕ) (s : State) (t id : ℕ) → one c ≤ length s.free
    → pick c (in_new (widen N n s) t id) (in_last (widen N n s) t id) ≡ widen N n (pick c (in_new s t id) (in_last s t id))
widen_by true N n s t id h = rw (head_more s.free (rising N n) h, tail_more s.free (rising N n) h)
widen_by false N n s t id h = refl

pub widen-append : (ids N n : ℕ) (s : State) (t id : ℕ) → one (multiple ids (length (tile_of s t).list)) ≤ length s.free
    → append_state ids (widen N n s) t id ≡ widen N n (append_state ids s t id)
widen-append ids N n s t id h = widen_by (multiple ids (length (tile_of s t).list)) N n s t id h

pub widen-need : (ids N n : ℕ) (s : State) (ts : List ℕ) → need_state ids (widen N n s) ts ≡ need_state ids s ts
unfolding need_state
widen-need ids N n s [] = refl
widen-need ids N n s (t ∷ ts) = ap (λ (k : ℕ). one (multiple ids (length (tile_of s t).list)) + k) (widen-need ids N n s ts)

pub widen_append_all : (ids T N n : ℕ) (s : State) (ts : List ℕ) (entry : ℕ → ℕ) → Distinct T ts → need_state ids s ts ≤ length s.free
    → append_all_state ids (widen N n s) ts entry ≡ widen N n (append_all_state ids s ts entry)
unfolding append_all_state need_state
widen_append_all ids T N n s [] entry D h = refl
widen_append_all ids T N n s (t ∷ ts) entry D h =
    let here : one (multiple ids (length (tile_of s t).list)) ≤ length s.free = omega arith in
    let r = append_state ids s t (entry t) in
    ap (λ (x : State). append_all_state ids x ts entry) (widen-append ids N n s t (entry t) here)
    ∙ widen_append_all ids T N n r ts entry (distinct_rest D)
    (omega (arith, append_free ids s t (entry t) here, need_other ids s t (entry t) ts (distinct_first D)))

pub widen-release : (N n : ℕ) (s : State) (t : ℕ) → release_state (widen N n s) t ≡ widen N n (release_state s t)
widen-release N n s t = rw (onto_more (tile_of s t).blocks s.free (rising N n))

rising_more : (a k n : ℕ) → rising a k ++ rising (a + k) n ≡ rising a (k + n)
rising_more a zero n =
    let e : a + 0 ≡ a = omega arith in
    let f : 0 + n ≡ n = omega arith in
    rw (e, f)
rising_more a (suc k) n =
    let e : a + suc k ≡ suc a + k = omega arith in
    let f : suc k + n ≡ suc (k + n) = omega arith in
    rw (e, f) (ap (λ (l : List ℕ). a ∷ l) (rising_more (suc a) k n))

pub widen-opening : (T N n : ℕ) → opening_state T (N + n) ≡ widen N n (opening_state T N)
widen-opening T N n = let z : 0 + N ≡ N = omega arith in rw (← rising_more 0 N n, z)

-- ---- the two pools

module _ {L : Layout} {n : ℕ} {p w : List ℕ} {s : State} (A : Fair L) (W : Wider L n p w s) where
  pub wider_tiles : tiles_of w ≡ tiles_of p
  wider_tiles = ap tiles W.screens

  -- both are sound
  pub wider_sound : Sound L p
  wider_sound = record { opened = W.opened; state = s; shows = W.shows }

  pub wider_sound' : Sound L w
  wider_sound' = record {
    opened = W.opened';
    state = widen (blocks_of p) n s;
    shows = subst (λ (T : ℕ). Shows L T (blocks_of w) w (widen (blocks_of p) n s)) (sym wider_tiles)
        (subst (λ (N : ℕ). Shows L (tiles_of p) N w (widen (blocks_of p) n s)) (sym W.blocks) W.shows');
  }

  -- all lists agree, and with them the entries and the blocks that a list of tiles needs
  pub wider_lists : (t : ℕ) → t < tiles_of p → list_of L (tiles_of w) w t ≡ list_of L (tiles_of p) p t
  wider_lists t ht = ap (λ (T : ℕ). list_of L T w t) wider_tiles ∙ list_of_shows A W.shows' t ht ∙ sym (list_of_shows A W.shows t ht)

  pub wider_entries : (t : ℕ) → t < tiles_of p → tile_word L w t 0 ≡ tile_word L p t 0
  wider_entries t ht = (W.shows'.tile t ht).entries ∙ sym (W.shows.tile t ht).entries

  pub wider_marks : (t : ℕ) → t < tiles_of p → tile_word L w t 3 ≡ tile_word L p t 3
  wider_marks t ht = (W.shows'.tile t ht).mark ∙ sym (W.shows.tile t ht).mark

  pub wider_need : (ts : List ℕ) → Distinct (tiles_of p) ts → need L w ts ≡ need L p ts
  wider_need ts D =
      need_shows W.shows' ts D.below ∙ widen-need L.ids (blocks_of p) n s ts ∙ sym (need_shows W.shows ts D.below)

  -- the second has n more free blocks, and no more
  pub wider_free : header_word w 4 ≡ header_word p 4 + n
  wider_free = omega (arith, W.shows.count, W.shows'.count, length-append s.free (rising (blocks_of p) n), length-rising (blocks_of p) n)

  -- the places of its further blocks hold poison
  pub wider_poison : (b : ℕ) → blocks_of p ≤ b → b < blocks_of p + n → (k : ℕ) → k < L.ids → block_word L (tiles_of w) w b k ≡ L.poison
  wider_poison b lo hi k hk =
      ap (λ (T : ℕ). block_word L T w b k) wider_tiles
      ∙ holds_nothing L.ids L.poison (block_word L (tiles_of p) w) (s.free ++ rising (blocks_of p) n) b
      (omega (arith, times-append b s.free (rising (blocks_of p) n), times-rising b (blocks_of p) n lo hi)) W.shows'.poisoned k hk

  room' : room L (tiles_of p) (blocks_of p + n) ≤ length w
  room' = subst (λ (k : ℕ). k ≤ length w) (λ i. room L (wider_tiles i) (W.blocks i)) W.opened'.long

  -- pools that keep the fixed words of two such pools
  wider_with : {q v : List ℕ} → Keeps L p q → Keeps L w v → (r : State) → Shows L (tiles_of p) (blocks_of p) q r
      → Shows L (tiles_of p) (blocks_of p + n) v (widen (blocks_of p) n r) → Wider L n q v r
  wider_with {q} {v} K J r R Q = record {
    opened = keeps_opened A K W.opened;
    opened' = keeps_opened A J W.opened';
    screens = keeps-screen A J ∙ W.screens ∙ sym (keeps-screen A K);
    blocks = keeps_blocks A J ∙ W.blocks ∙ ap (λ (m : ℕ). m + n) (sym (keeps_blocks A K));
    shows = subst (λ (T : ℕ). Shows L T (blocks_of q) q r) (sym (keeps-tiles A K))
        (subst (λ (N : ℕ). Shows L (tiles_of p) N q r) (sym (keeps_blocks A K)) R);
    shows' = subst (λ (T : ℕ). Shows L T (blocks_of q + n) v (widen (blocks_of q) n r)) (sym (keeps-tiles A K))
        (subst (λ (N : ℕ). Shows L (tiles_of p) (N + n) v (widen N n r)) (sym (keeps_blocks A K)) Q);
  }

  pub wider_append_all : (ts : List ℕ) (entry : ℕ → ℕ) → Distinct (tiles_of p) ts → ((t : ℕ) → entry t < L.limit) → need L p ts ≤ header_word p 4
      → Wider L n (append_all L (tiles_of p) p ts entry) (append_all L (tiles_of w) w ts entry) (append_all_state L.ids s ts entry)
  wider_append_all ts entry D in_range enough =
      let N = blocks_of p in
      let fits : need_state L.ids s ts ≤ length s.free = omega (arith, need_shows W.shows ts D.below, W.shows.count) in
      let I = append_all_shows A entry in_range ts W.shows W.opened.long D fits in
      let J = append_all_shows A entry in_range ts W.shows' room' D
      (omega (arith, widen-need L.ids N n s ts, length-append s.free (rising N n))) in
      subst (λ (T : ℕ). Wider L n (append_all L (tiles_of p) p ts entry) (append_all L T w ts entry) (append_all_state L.ids s ts entry)) (sym wider_tiles)
      (wider_with (kept-keeps I.1) (kept-keeps J.1)
      (append_all_state L.ids s ts entry) I.0
      (subst (λ (r : State). Shows L (tiles_of p) (N + n) (append_all L (tiles_of p) w ts entry) r) (widen_append_all L.ids (tiles_of p) N n s ts entry D fits) J.0))

  pub wider_release : (t : ℕ) → t < tiles_of p → Wider L n (release L (tiles_of p) p t) (release L (tiles_of w) w t) (release_state s t)
  wider_release t ht =
      let N = blocks_of p in
      let I = release_shows A W.shows W.opened.long t ht in
      let J = release_shows A W.shows' room' t ht in
      subst (λ (T : ℕ). Wider L n (release L (tiles_of p) p t) (release L T w t) (release_state s t)) (sym wider_tiles)
      (wider_with (kept-keeps I.1) (kept-keeps J.1) (release_state s t) I.0
      (subst (λ (r : State). Shows L (tiles_of p) (N + n) (release L (tiles_of p) w t) r) (widen-release N n s t) J.0))

-- two openings for one screen, the second with n blocks more
pub wider_opening : {L : Layout} (A : Fair L) (d : Screen) (N n : ℕ) (p w : List ℕ) → ((M : ℕ) → length (header_for L d M) ≡ L.header) → Allowed d → N + n ≤ 2048
    → room L (tiles d) N ≤ length p → room L (tiles d) (N + n) ≤ length w → Wider L n (opening L d N p) (opening L d (N + n) w) (opening_state (tiles d) N)
wider_opening {L} A d N n p w fits allowed few long long' =
    let p' = opening L d N p in
    let w' = opening L d (N + n) w in
    let s = opening_state (tiles d) N in
    let T = opening-tiles L d N p (fits N) A in
    let B = opening_blocks L d N p (fits N) A in
    record {
      opened = opening_opened L d N p (fits N) A allowed (omega arith) long;
      opened' = opening_opened L d (N + n) w (fits (N + n)) A allowed few long';
      screens = opening-screen L d (N + n) w (fits (N + n)) A ∙ sym (opening-screen L d N p (fits N) A);
      blocks = opening_blocks L d (N + n) w (fits (N + n)) A ∙ ap (λ (m : ℕ). m + n) (sym B);
      shows = subst (λ (t : ℕ). Shows L t (blocks_of p') p' s) (sym T)
          (subst (λ (m : ℕ). Shows L (tiles d) m p' s) (sym B) (opening_shows L d N p (fits N) A));
      shows' = subst (λ (t : ℕ). Shows L t (blocks_of p' + n) w' (widen (blocks_of p') n s)) (sym T)
          (subst (λ (m : ℕ). Shows L (tiles d) (m + n) w' (widen m n s)) (sym B)
          (subst (λ (r : State). Shows L (tiles d) (N + n) w' r) (widen-opening (tiles d) N n) (opening_shows L d (N + n) w (fits (N + n)) A)));
    }
