-- An append to one tile keeps what a pool says, with one id more at the end of that tile's list, and nothing else changes.
use mathlib.Core.Path.{◌≡◌, sym, ap, ◌∙◌, subst}
use mathlib.Core.Logic.{◌≢◌, ⊎_elim}
use mathlib.Core.List.{List, [], ◌∷◌, ◌++◌}
use Prim.Native.Nat.{ℕ, suc, ◌*◌, ◌-◌, ◌%◌, ◌≤◌, ◌<◌}
use native.Mathlib.Nat.{zero-mod}
use native.Mathlib.Omega.{arith}
use borrow.Author.Tests.{eq-eqb, ne_eqb}
use lib.Dec.{eqb}
use lib.ListN.{length, set}
use Rattle.numbers.specs.Sum.{one}
use Rattle.numbers.proofs.Ceil.{eq_or_ne}
use Rattle.pool.specs.Words.{Layout, Fair, start, room, header_word, tile_word, block_word, tile_set, block_set}
use Rattle.pool.specs.State.{State, tile_of, link_to, last_link, times}
use Rattle.pool.specs.Sound.{Shows}
use Rattle.pool.proofs.Words.{start≤room, tile_set_lem, tile_block_set, block_tile_set, block_set_lem, block_set_other_block, block_set_other_word}
use Rattle.pool.proofs.Times.{one_same, times-append, times_differ}
use Rattle.pool.proofs.Parts.{ceil_none, ceil_some, ceil_full}
use Rattle.pool.proofs.Chain.{Same, nil_of, uncons, unsnoc, last_link_snoc}
use Rattle.pool.proofs.State.{times≤, tile_block<, free_block<, apart, apart_free, free_apart}
use Rattle.lists.specs.Appending.{pick, multiple, append, append_in, take_block, append_first, append_next}
use Rattle.lists.specs.Steps.{append_state, in_last, in_new, with_block}
use Rattle.lists.proofs.Within.{Within, within_then, within_tile, within_block}
use Rattle.lists.proofs.PutIn.{put_in_words, put_in_within, put_in_shows}
use Rattle.lists.proofs.Taking.{take_within, take_first, take_same, first_words, next_words, first_shows, next_shows}

-- What one append does: what the words q show then, and where they are the words p.
pub record Step (L : Layout) (T N : ℕ) (p q : List ℕ) (s r : State) (t : ℕ) : Type 0 where
  pub shows : Shows L T N q r
  pub within : Within L T N p q
  pub others : (u : ℕ) → u < T → u ≢ t → (i : ℕ) → i < L.tile → tile_word L q u i ≡ tile_word L p u i
  -- the blocks of other tiles, and those that stay free, keep their words
  pub blocks : (u : ℕ) → u ≢ t → (b : ℕ) → 0 < times b (tile_of s u).blocks → Same L.ids (block_word L T p) (block_word L T q) b
  pub free : (b : ℕ) → 0 < times b r.free → Same L.ids (block_word L T p) (block_word L T q) b

module _ {L : Layout} {T N : ℕ} {p : List ℕ} {s : State} (A : Fair L) (R : Shows L T N p s) (long : room L T N ≤ length p) where
  -- the blocks of tile t, one by one and the last, which is l
  last_is : (t l : ℕ) (bs : List ℕ) → t < T → (tile_of s t).blocks ≡ bs ++ (l ∷ []) → tile_word L p t 2 ≡ suc l
  last_is t l bs ht e = (R.tile t ht).last ∙ ap (last_link 0) e ∙ last_link_snoc 0 bs l

  last_in_chain : (t l : ℕ) (bs : List ℕ) → (tile_of s t).blocks ≡ bs ++ (l ∷ []) → 0 < times l (tile_of s t).blocks
  last_in_chain t l bs e = omega (arith, ap (times l) e, times-append l bs (l ∷ []), one_same l)

  -- the block is the tile's first
  first_step : (t id b : ℕ) (fs : List ℕ) → s.free ≡ b ∷ fs → t < T → id < L.limit → length (tile_of s t).list ≡ 0
      → Step L T N p (append_first L T p t id) s (record { free = fs; tiles = set s.tiles t (with_block (tile_of s t) b id) }) t
  unfolding append_first
  first_step t id b fs e ht hid z =
      let k = R.tile t ht in
      let x = tile_of s t in
      let e5 : header_word p 5 ≡ suc b = R.first ∙ ap link_to e in
      let e5' : header_word p 5 - 1 ≡ b = omega arith in
      let bin : 0 < times b s.free = omega (arith, ap (times b) e, one_same b) in
      let hb : b < N = free_block< R b bin in
      let W = first_words A p long t b id ht hb in
      let tile1 : 1 < L.tile = omega (arith, A.tile>) in
      let in0 = take_within A p long t b id ht hb in
      let lb : start L T ≤ length p = omega (arith, start≤room L T N) in
      let nb : length x.blocks ≡ 0 = k.many ∙ rw z (ceil_none L.ids A.ids>) in
      let full : length x.list % L.ids ≡ 0 = ap (λ (n : ℕ). n % L.ids) z ∙ zero-mod L.ids in
      let same : (c : ℕ) → c ≢ b → Same L.ids (block_word L T p) (block_word L T _) c
      = (λ c ne j hj. block_tile_set L T _ t 1 (suc b) c j ht tile1 ∙ take_same A p long t b id ht hb c ne j hj) in
      rw (e5', e5)
      (record {
        shows = first_shows A R _ t b id fs ht hid e full (nil_of x.blocks nb) (nil_of x.list z) W
            (tile_set_lem L T _ t 1 (suc b) (rw in0.keeps.long lb) ht tile1) same;
        within = within_then in0 (within_tile _ t 1 (suc b) ht tile1);
        others = W.others;
        blocks = λ u ne c hc. same c (times_differ c b (tile_of s u).blocks hc (free_apart R u b bin));
        free = λ c hc. same c (times_differ c b fs hc (omega (arith, ap (times b) e, one_same b, times≤ R b)));
      })

  -- or it comes after the tile's last
  next_step : (t id b : ℕ) (fs : List ℕ) → s.free ≡ b ∷ fs → t < T → id < L.limit → length (tile_of s t).list % L.ids ≡ 0
      → length (tile_of s t).list ≢ 0
      → Step L T N p (append_next L T p t id) s (record { free = fs; tiles = set s.tiles t (with_block (tile_of s t) b id) }) t
  unfolding append_next
  next_step t id b fs e ht hid full nz =
      let k = R.tile t ht in
      let x = tile_of s t in
      let e5 : header_word p 5 ≡ suc b = R.first ∙ ap link_to e in
      let e5' : header_word p 5 - 1 ≡ b = omega arith in
      let bin : 0 < times b s.free = omega (arith, ap (times b) e, one_same b) in
      let hb : b < N = free_block< R b bin in
      let nb : 0 < length x.blocks = rw k.many (ceil_some L.ids A.ids> (length x.list) nz) in
      let v = unsnoc x.blocks nb in
      let bs = v.0 in
      let l = v.1 in
      let eb : x.blocks ≡ bs ++ (l ∷ []) = v.2 in
      let e2 : tile_word L p t 2 ≡ suc l = last_is t l bs ht eb in
      let e2' : tile_word L p t 2 - 1 ≡ l = omega arith in
      let lin : 0 < times l x.blocks = last_in_chain t l bs eb in
      let lb : l ≢ b = times_differ l b x.blocks lin (free_apart R t b bin) in
      let hl : l < N = tile_block< R t l lin in
      let lem : L.ids ≤ L.ids = omega arith in
      let tile1 : 1 < L.tile = omega (arith, A.tile>) in
      let in0 = take_within A p long t b id ht hb in
      let W = next_words A p long t b id ht hb l lb in
      let fl : length x.list ≡ L.ids * length x.blocks
      = ceil_full L.ids A.ids> (length x.list) full ∙ ap (λ (n : ℕ). L.ids * n) (sym k.many) in
      let same : (c : ℕ) → c ≢ b → c ≢ l → Same L.ids (block_word L T p) (block_word L T _) c
      = (λ c cb cl j hj. block_set_other_block L T _ l L.ids (suc b) c j cl hj lem ∙ take_same A p long t b id ht hb c cb j hj) in
      rw (e5', e5, e2')
      (record {
        shows = next_shows A R _ t b id l fs bs ht hid e full eb fl W
            (tile_block_set L T _ l L.ids (suc b) t 1 ht tile1 ∙ take_first A p long t b id ht hb)
            (block_set_lem L T N _ l L.ids (suc b) (rw in0.keeps.long long) hl lem)
            (λ j hj. block_set_other_word L T _ l L.ids (suc b) j (omega arith) ∙ take_same A p long t b id ht hb l lb j (omega arith))
            same;
        within = within_then in0 (within_block _ l L.ids (suc b) hl lem);
        others = W.others;
        blocks = λ u ne c hc. same c (times_differ c b (tile_of s u).blocks hc (free_apart R u b bin))
            (times_differ c l (tile_of s u).blocks hc (apart R t u l ne lin));
        free = λ c hc. same c (times_differ c b fs hc (omega (arith, ap (times b) e, one_same b, times≤ R b)))
            (times_differ c l fs hc (omega (arith, ap (times l) e, apart_free R t l lin)));
      })

  -- or the last block has room
  in_step : (t id : ℕ) → t < T → id < L.limit → length (tile_of s t).list % L.ids ≢ 0 → Step L T N p (append_in L T p t id) s (in_last s t id) t
  in_step t id ht hid nz =
      let k = R.tile t ht in
      let x = tile_of s t in
      let some : length x.list ≢ 0 = (λ z. nz (ap (λ (n : ℕ). n % L.ids) z ∙ zero-mod L.ids)) in
      let nb : 0 < length x.blocks = rw k.many (ceil_some L.ids A.ids> (length x.list) some) in
      let v = unsnoc x.blocks nb in
      let bs = v.0 in
      let l = v.1 in
      let eb : x.blocks ≡ bs ++ (l ∷ []) = v.2 in
      let lin : 0 < times l x.blocks = last_in_chain t l bs eb in
      let hl : l < N = tile_block< R t l lin in
      let E = put_in_words A p long t l id ht hl (last_is t l bs ht eb) in
      record {
        shows = put_in_shows A R _ t l id bs ht hid eb nz (rw k.entries at E);
        within = put_in_within A p long t l id ht hl (last_is t l bs ht eb);
        others = E.others;
        blocks = λ u ne c hc. E.blocks c (times_differ c l (tile_of s u).blocks hc (apart R t u l ne lin));
        free = λ c hc. E.blocks c (times_differ c l s.free hc (apart_free R t l lin));
      }

  new_step : (t id b : ℕ) (fs : List ℕ) → s.free ≡ b ∷ fs → t < T → id < L.limit → length (tile_of s t).list % L.ids ≡ 0
      → Step L T N p (pick (eqb (tile_word L p t 0) 0) (append_first L T p t id) (append_next L T p t id)) s (in_new s t id) t
  new_step t id b fs e ht hid full =
      let k = R.tile t ht in
      let x = tile_of s t in
      let new : record { free = fs; tiles = set s.tiles t (with_block x b id) } ≡ in_new s t id = rw e in
      subst (λ (r : State). Step L T N p (pick (eqb (tile_word L p t 0) 0) (append_first L T p t id) (append_next L T p t id)) s r t) new
      (⊎_elim
      (λ (z : length x.list ≡ 0). rw (eq-eqb (tile_word L p t 0) 0 (k.entries ∙ z)) (first_step t id b fs e ht hid z))
      (λ (nz : length x.list ≢ 0). rw (ne_eqb (tile_word L p t 0) 0 (λ z. nz (sym k.entries ∙ z))) (next_step t id b fs e ht hid full nz))
      (eq_or_ne (length x.list) 0))

  -- there is a free block if tile t takes one
  pub append_step : (t id : ℕ) → t < T → id < L.limit → one (multiple L.ids (length (tile_of s t).list)) ≤ length s.free
      → Step L T N p (append L T p t id) s (append_state L.ids s t id) t
  unfolding append
  append_step t id ht hid room =
      let k = R.tile t ht in
      let n = length (tile_of s t).list in
      ⊎_elim
      (λ (z : n % L.ids ≡ 0).
      rw (ap (λ (m : ℕ). m % L.ids) k.entries, eq-eqb (n % L.ids) 0 z)
      (let u = uncons s.free (omega (arith, ap one (eq-eqb (n % L.ids) 0 z))) in new_step t id u.0 u.1 u.2 ht hid z))
      (λ (nz : n % L.ids ≢ 0). rw (ap (λ (m : ℕ). m % L.ids) k.entries, ne_eqb (n % L.ids) 0 nz) (in_step t id ht hid nz))
      (eq_or_ne (n % L.ids) 0)

-- ---- the three ways that an append goes: q are the words that are left

module _ (L : Layout) (T : ℕ) (p : List ℕ) (t id : ℕ) (q : List ℕ) where
  pub append_in_lem : tile_word L p t 0 % L.ids ≢ 0 → q ≡ append_in L T p t id → q ≡ append L T p t id
  unfolding append
  append_in_lem nz f = f ∙ rw (ne_eqb (tile_word L p t 0 % L.ids) 0 nz)

  module _ (r : List ℕ) (head : ℕ) (h : head ≡ header_word p 5) (f : r ≡ take_block L T p t (head - 1) id) where
    pub append_first_lem : tile_word L p t 0 ≡ 0 → q ≡ tile_set L r t 1 head → q ≡ append L T p t id
    unfolding append append_first
    append_first_lem z g =
        let z' : tile_word L p t 0 % L.ids ≡ 0 = ap (λ (n : ℕ). n % L.ids) z ∙ zero-mod L.ids in
        g ∙ rw (f, h, eq-eqb (tile_word L p t 0 % L.ids) 0 z', eq-eqb (tile_word L p t 0) 0 z)

    pub append-next : (last : ℕ) → last ≡ tile_word L p t 2 → tile_word L p t 0 % L.ids ≡ 0 → tile_word L p t 0 ≢ 0
        → q ≡ block_set L T r (last - 1) L.ids head → q ≡ append L T p t id
    unfolding append append_next
    append-next last e z nz g = g ∙ rw (f, h, e, eq-eqb (tile_word L p t 0 % L.ids) 0 z, ne_eqb (tile_word L p t 0) 0 nz)
