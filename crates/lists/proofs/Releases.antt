-- A release keeps a pool sound and does what it promises; that of an empty tile changes no word.
use mathlib.Core.Path.{◌≡◌, refl, sym, ap, ◌∙◌}
use mathlib.Core.Logic.{◌≢◌, ⊎_elim}
use mathlib.Core.List.{List, [], ◌∷◌}
use Prim.Native.Nat.{ℕ, ◌+◌, ◌*◌, ◌≤◌, ◌<◌, zero-le}
use native.Mathlib.Nat.{not-suc-le-zero}
use native.Mathlib.Omega.{arith}
use lib.ListN.{length, set}
use lib.Seq.{get_or-set_same, get_or-set_other, set-get_or}
use Rattle.numbers.specs.Ceil.{ceil}
use Rattle.numbers.proofs.Ceil.{eq_or_ne}
use Rattle.pool.specs.Words.{Layout, Fair, start, room, tile_word, block_word, tile_set}
use Rattle.pool.specs.State.{Chained, emptied, empty, State, tile_of, link_to, last_link, times}
use Rattle.pool.specs.Sound.{Shows, Sound, tiles_of}
use Rattle.pool.specs.Lists.{list_of}
use Rattle.pool.proofs.Words.{start≤room, tile_set_lem, tile_set_other_tile, tile_set_other_word, length-tile_set, header_tile_set, block_tile_set}
use Rattle.pool.proofs.Times.{times_in_tiles-at, times_head, times_differ}
use Rattle.pool.proofs.Parts.{ceil_none}
use Rattle.pool.proofs.Chain.{Same, nil_of, frame, holds_nothing}
use Rattle.pool.proofs.Lists.{list_of_shows, blocks≤entries}
use Rattle.pool.proofs.State.{times≤, tile_block<, apart, free_apart, tile_frame, shows_set}
use Rattle.lists.specs.Releasing.{give_chain, release}
use Rattle.lists.specs.Steps.{onto, release_state}
use Rattle.lists.specs.Promises.{Kept, Released}
use Rattle.lists.proofs.Within.{Within, within_then, within_tile}
use Rattle.lists.proofs.Gives.{Given, give_all, times-onto, length-onto}
use Rattle.lists.proofs.Several.{kept-keeps, sound_with}

module _ {L : Layout} {T N : ℕ} {p : List ℕ} {s : State} (A : Fair L) (R : Shows L T N p s) (long : room L T N ≤ length p) (t : ℕ) (ht : t < T) where
  -- the chain of the tile, given back
  pub chain_given : Given L T N p (give_chain L T (tile_word L p t 0) (tile_word L p t 1) p) (tile_of s t).blocks s.free
  chain_given =
      let k = R.tile t ht in
      let x = tile_of s t in
      rw (k.entries, k.first)
      (give_all L T N A (length x.list) x.blocks x.list s.free p long (blocks≤entries A k)
      (λ c. omega (arith, times≤ R c, times_in_tiles-at c s.tiles t)) (tile_block< R t) R.count R.first R.poisoned k.held)

  pub release_shows : Shows L T N (release L T p t) (release_state s t) × Kept L T N p (release L T p t) s (release_state s t) (t ∷ [])
  unfolding release
  release_shows =
      let k = R.tile t ht in
      let x = tile_of s t in
      let G = give_chain L T (tile_word L p t 0) (tile_word L p t 1) p in
      let E = chain_given in
      let tile0 : 0 < L.tile = omega (arith, A.tile>) in
      let tile1 : 1 < L.tile = omega (arith, A.tile>) in
      let tile2 : 2 < L.tile = omega (arith, A.tile>) in
      let n30 : ◌≢◌ {A = ℕ} 3 0 = omega arith in
      let n31 : ◌≢◌ {A = ℕ} 3 1 = omega arith in
      let n32 : ◌≢◌ {A = ℕ} 3 2 = omega arith in
      let h4 : 4 < L.header = omega (arith, A.header>) in
      let h5 : 5 < L.header = omega (arith, A.header>) in
      let n01 : ◌≢◌ {A = ℕ} 0 1 = omega arith in
      let n02 : ◌≢◌ {A = ℕ} 0 2 = omega arith in
      let n12 : ◌≢◌ {A = ℕ} 1 2 = omega arith in
      let lb : start L T ≤ length G = rw E.within.keeps.long (omega (arith, start≤room L T N)) in
      let W : Within L T N p (release L T p t) = within_then E.within (within_then (within_tile G t 0 0 ht tile0) (within_then (within_tile _ t 1 0 ht tile1) (within_tile _ t 2 0 ht tile2))) in
      let other : (u : ℕ) → u < T → u ≢ t → (i : ℕ) → i < L.tile → tile_word L (release L T p t) u i ≡ tile_word L p u i
      = (λ u hu ne i hi. simp (tile_set_other_tile L) (E.tiles u hu i hi)) in
      let same : (b : ℕ) → times b x.blocks ≡ 0 → Same L.ids (block_word L T p) (block_word L T (release L T p t)) b
      = (λ b z j hj. simp (block_tile_set L T) (E.blocks b z j hj)) in (
        shows_set R _ t (emptied x.mark) (onto x.blocks s.free) ht
            (simp (header_tile_set L) E.count)
            (simp (header_tile_set L) E.first)
            (frame L.ids L.poison (block_word L T G) (block_word L T (release L T p t)) (onto x.blocks s.free) [] (λ b hb j hj. simp (block_tile_set L T)) E.poisoned)
            (record {
              entries = simp (tile_set_other_word L) (tile_set_lem L T _ t 0 0 lb ht tile0);
              first = simp (tile_set_other_word L) (tile_set_lem L T _ t 1 0 (simp (length-tile_set L) lb) ht tile1);
              last = tile_set_lem L T _ t 2 0 (simp (length-tile_set L) lb) ht tile2;
              many = sym (ceil_none L.ids A.ids>);
              in_range = λ i hi. absurd (not-suc-le-zero hi);
              held = tt;
              mark = simp (tile_set_other_word L) (E.tiles t ht 3 A.tile> ∙ k.mark);
              mark≥ = zero-le;
              mark≤ = k.mark≤;
            })
            (λ u hu ne. tile_frame A (other u hu ne) (λ b hb. same b (apart R u t b (λ z. ne (sym z)) hb)) (R.tile u hu))
            (λ b. omega (arith, times-onto b x.blocks s.free)),
        record {
          long = W.keeps.long;
          header = W.keeps.fixed;
          tiles = λ u hu z. other u hu (λ e. times_differ t u (t ∷ []) (times_head t []) z (sym e));
          blocks = λ u hu z b hb. same b (apart R u t b (times_differ t u (t ∷ []) (times_head t []) z) hb);
          free = λ b hb hb'. same b (free_apart R t b hb);
          tail = W.tail;
        },
      )

pub release_releases : {L : Layout} {p : List ℕ} → Fair L → (S : Sound L p) (t : ℕ) → t < tiles_of p → Released L p S (release L (tiles_of p) p t) t
release_releases {L} {p} A S t ht =
    let s = S.state in
    let R = S.shows in
    let x = tile_of s t in
    let k = R.tile t ht in
    let I = release_shows A R S.opened.long t ht in
    let K = I.1 in
    let ht' : t < length s.tiles = rw R.tiled ht in
    let before : (u : ℕ) → u < tiles_of p → list_of L (tiles_of p) p u ≡ (tile_of s u).list = list_of_shows A R in
    let after : (u : ℕ) → u < tiles_of p → list_of L (tiles_of p) (release L (tiles_of p) p t) u ≡ (tile_of (release_state s t) u).list = list_of_shows A I.0 in
    let many : length x.blocks ≡ ceil (length (list_of L (tiles_of p) p t)) L.ids = k.many ∙ ap (λ (l : List ℕ). ceil (length l) L.ids) (sym (before t ht)) in
    let same-mark : (u : ℕ) → (tile_of (release_state s t) u).mark ≡ (tile_of s u).mark
    = (λ u.
    ⊎_elim (λ (e : u ≡ t). rw e (ap (λ (y : Chained). y.mark) (get_or-set_same s.tiles t (emptied x.mark) empty ht')))
    (λ (ne : u ≢ t). ap (λ (y : Chained). y.mark) (get_or-set_other s.tiles t u (emptied x.mark) empty ne))
    (eq_or_ne u t)) in
    record {
      sound = sound_with A S (kept-keeps K) (release_state s t) I.0;
      says = refl;
      emptied = after t ht ∙ ap (λ (y : Chained). y.list) (get_or-set_same s.tiles t (emptied x.mark) empty ht');
      others = λ u hu ne. after u hu ∙ ap (λ (y : Chained). y.list) (get_or-set_other s.tiles t u (emptied x.mark) empty ne) ∙ sym (before u hu);
      marks = λ u hu. (I.0.tile u hu).mark ∙ same-mark u ∙ sym (R.tile u hu).mark;
      given = I.0.count ∙ length-onto x.blocks s.free ∙ rw (many, R.count) (omega arith);
      poisoned = λ b hb. holds_nothing L.ids L.poison (block_word L (tiles_of p) (release L (tiles_of p) p t)) (onto x.blocks s.free) b
          (omega (arith, times-onto b x.blocks s.free)) I.0.poisoned;
      kept = K;
    }

pub release_keeps_sound : {L : Layout} {p : List ℕ} → Fair L → Sound L p → (t : ℕ) → t < tiles_of p → Sound L (release L (tiles_of p) p t)
release_keeps_sound A S t ht = (release_releases A S t ht).sound

-- an empty tile has no blocks, so that nothing is given back and zeros are put over zeros
pub release-empty : {L : Layout} {p : List ℕ} → Fair L → Sound L p → (t : ℕ) → t < tiles_of p → list_of L (tiles_of p) p t ≡ [] → release L (tiles_of p) p t ≡ p
unfolding release give_chain tile_set tile_word
release-empty {L} {p} A S t ht empties =
    let x = tile_of S.state t in
    let k = S.shows.tile t ht in
    let none : x.list ≡ [] = sym (list_of_shows A S.shows t ht) ∙ empties in
    let z : tile_word L p t 0 ≡ 0 = k.entries ∙ ap length none in
    let nb : x.blocks ≡ [] = nil_of x.blocks (k.many ∙ rw none (ceil_none L.ids A.ids>)) in
    let e1 : tile_word L p t 1 ≡ 0 = k.first ∙ ap link_to nb in
    let e2 : tile_word L p t 2 ≡ 0 = k.last ∙ ap (last_link 0) nb in
    let put : (i : ℕ) → tile_word L p t i ≡ 0 → set p (L.header + L.tile * t + i) 0 ≡ p
    = (λ i e. ap (set p (L.header + L.tile * t + i)) (sym e) ∙ set-get_or p _ 0) in
    rw (z, put 0 z, put 1 e1) (put 2 e2)
