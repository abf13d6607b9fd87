-- One id more in the last block of a tile, which has room: what the words are then, and what they show.
use mathlib.Core.Path.{◌≡◌, refl, sym, ap, ◌∙◌}
use mathlib.Core.Logic.{◌≢◌}
use mathlib.Core.List.{List, [], ◌∷◌, ◌++◌}
use Prim.Native.Nat.{ℕ, suc, ◌+◌, ◌*◌, ◌-◌, ◌%◌, ◌≤◌, ◌<◌, max}
use native.Mathlib.Nat.{mod-lt}
use native.Mathlib.Omega.{arith}
use lib.ListN.{length, length-append}
use Rattle.numbers.specs.Ceil.{ceil}
use Rattle.pool.specs.Words.{Layout, Fair, start, room, header_word, tile_word, block_word}
use Rattle.pool.specs.State.{State, tile_of, times}
use Rattle.pool.specs.Sound.{Shows}
use Rattle.pool.proofs.Words.{start≤room, tile_set_lem, tile_set_other_tile, tile_set_other_word, length-tile_set, length-block_set, header_tile_set, block_set_lem, block_set_other_block, block_set_other_word, header_block_set, tile_block_set, block_tile_set}
use Rattle.pool.proofs.Times.{one_same, times-append, times_differ}
use Rattle.pool.proofs.Parts.{ceil-part, ceil_suc_part}
use Rattle.pool.proofs.Chain.{Same, frame, put_last}
use Rattle.pool.proofs.State.{tile_once, apart, apart_free, in_range_snoc, tile_frame, shows_set}
use Rattle.pool.proofs.Total.{held≤, chain≤}
use Rattle.lists.specs.Appending.{counted, append_in}
use Rattle.lists.specs.Steps.{with_entry, in_last}
use Rattle.lists.proofs.Within.{Within, within_then, within_tile, within_block}

-- q is p with the id in place r of block l and one entry more for tile t
pub record PutIn (L : Layout) (T : ℕ) (p q : List ℕ) (t l r id : ℕ) : Type 0 where
  pub header : (k : ℕ) → k < L.header → header_word q k ≡ header_word p k
  pub others : (u : ℕ) → u < T → u ≢ t → (i : ℕ) → i < L.tile → tile_word L q u i ≡ tile_word L p u i
  pub entries : tile_word L q t 0 ≡ suc (tile_word L p t 0)
  pub first : tile_word L q t 1 ≡ tile_word L p t 1
  pub last : tile_word L q t 2 ≡ tile_word L p t 2
  pub mark : tile_word L q t 3 ≡ max (tile_word L p t 3) (suc (tile_word L p t 0))
  pub blocks : (b : ℕ) → b ≢ l → Same L.ids (block_word L T p) (block_word L T q) b
  pub rest : (j : ℕ) → j ≢ r → j ≤ L.ids → block_word L T q l j ≡ block_word L T p l j
  pub place : block_word L T q l r ≡ id

module _ {L : Layout} {T N : ℕ} (A : Fair L) (p : List ℕ) (long : room L T N ≤ length p) (t l id : ℕ) (ht : t < T) (hl : l < N)
    (e : tile_word L p t 2 ≡ suc l) where
  pub put_in_words : PutIn L T p (append_in L T p t id) t l (tile_word L p t 0 % L.ids) id
  unfolding append_in counted
  put_in_words =
      let el : tile_word L p t 2 - 1 ≡ l = omega arith in
      let tile0 : 0 < L.tile = omega (arith, A.tile>) in
      let n1 : ◌≢◌ {A = ℕ} 1 0 = omega arith in
      let n2 : ◌≢◌ {A = ℕ} 2 0 = omega arith in
      let n3 : ◌≢◌ {A = ℕ} 3 0 = omega arith in
      let n13 : ◌≢◌ {A = ℕ} 1 3 = omega arith in
      let n23 : ◌≢◌ {A = ℕ} 2 3 = omega arith in
      let tile1 : 1 < L.tile = omega (arith, A.tile>) in
      let tile2 : 2 < L.tile = omega (arith, A.tile>) in
      let tile3 : 3 < L.tile = A.tile> in
      let r = tile_word L p t 0 % L.ids in
      let hr : r ≤ L.ids = omega (arith, mod-lt (tile_word L p t 0) A.ids>) in
      let lb : start L T ≤ length p = omega (arith, start≤room L T N) in
      rw el
      (record {
        header = λ k hk. simp (header_tile_set L, header_block_set L T);
        others = λ u hu ne i hi. simp (tile_set_other_tile L, tile_block_set L T);
        entries = tile_set_lem L T _ t 0 _ (simp (length-tile_set L, length-block_set L T) lb) ht tile0 ∙ omega arith;
        first = simp (tile_set_other_word L, tile_block_set L T);
        last = simp (tile_set_other_word L, tile_block_set L T);
        mark = simp (tile_set_other_word L)
            (tile_set_lem L T _ t 3 _ (rw (length-block_set L T) lb) ht tile3 ∙ omega (arith, tile_block_set L T p l r id t 3 ht tile3));
        blocks = λ b ne k hk. simp (block_tile_set L T, block_set_other_block L T);
        rest = λ j ne hj. simp (block_tile_set L T, block_set_other_word L T);
        place = simp (block_tile_set L T) (block_set_lem L T N p l r id long hl hr);
      })

  pub put_in_within : Within L T N p (append_in L T p t id)
  unfolding append_in counted
  put_in_within =
      let el : tile_word L p t 2 - 1 ≡ l = omega arith in
      let tile0 : 0 < L.tile = omega (arith, A.tile>) in
      let hr : tile_word L p t 0 % L.ids ≤ L.ids = omega (arith, mod-lt (tile_word L p t 0) A.ids>) in
      rw el (within_then (within_block p l _ id hl hr) (within_then (within_tile _ t 3 _ ht A.tile>) (within_tile _ t 0 _ ht tile0)))

module _ {L : Layout} {T N : ℕ} {p : List ℕ} {s : State} (A : Fair L) (R : Shows L T N p s) where
  pub put_in_shows : (q : List ℕ) (t l id : ℕ) (bs : List ℕ) → t < T → id < L.limit → (tile_of s t).blocks ≡ bs ++ (l ∷ [])
      → length (tile_of s t).list % L.ids ≢ 0 → PutIn L T p q t l (length (tile_of s t).list % L.ids) id → Shows L T N q (in_last s t id)
  put_in_shows q t l id bs ht hid e nz E =
      let k = R.tile t ht in
      let x = tile_of s t in
      let nb : length x.blocks ≡ suc (length bs) = ap length e ∙ length-append bs (l ∷ []) ∙ omega arith in
      let nc : times l x.blocks ≡ times l bs + 1 = ap (times l) e ∙ times-append l bs (l ∷ []) ∙ omega (arith, one_same l) in
      let inx : 0 < times l x.blocks = omega arith in
      let fresh : times l bs ≡ 0 = omega (arith, tile_once R t l) in
      let more : length (x.list ++ (id ∷ [])) ≡ suc (length x.list) = length-append x.list (id ∷ []) ∙ omega arith in
      let small : length x.list % L.ids < L.ids = mod-lt (length x.list) A.ids> in
      let at : length x.list ≡ L.ids * length bs + length x.list % L.ids
      = ceil-part L.ids A.ids> (length x.list) (length bs) (sym k.many ∙ nb) nz in
      let many : length x.blocks ≡ ceil (suc (length x.list)) L.ids = k.many ∙ sym (ceil_suc_part L.ids A.ids> (length x.list) nz) in
      shows_set R q t (with_entry x id) s.free ht
      (E.header 4 (omega (arith, A.header>)) ∙ R.count)
      (E.header 5 (omega (arith, A.header>)) ∙ R.first)
      (frame L.ids L.poison (block_word L T p) (block_word L T q) s.free []
      (λ b hb. E.blocks b (times_differ b l s.free hb (apart_free R t l inx))) R.poisoned)
      (record {
        entries = E.entries ∙ ap suc k.entries ∙ sym more;
        first = E.first ∙ k.first;
        last = E.last ∙ k.last;
        many = rw more many;
        in_range = in_range_snoc L.limit x.list id k.in_range hid;
        held = rw e
            (put_last L.ids L.poison (block_word L T p) (block_word L T q) bs l id x.list (length x.list % L.ids) at small fresh
            E.blocks E.rest E.place (rw e at k.held));
        mark = E.mark ∙ rw (k.mark, k.entries);
        mark≥ = omega arith;
        mark≤ = omega (arith, k.mark≤, held≤ A many (chain≤ R t));
      })
      (λ u hu ne. tile_frame A (E.others u hu ne)
      (λ b hb. E.blocks b (times_differ b l (tile_of s u).blocks hb (apart R t u l ne inx))) (R.tile u hu))
      (λ b. refl)
