-- The head of the free chain is taken for a tile, with one id in it: what the words are then, and what they show.
use mathlib.Core.Path.{◌≡◌, sym, ap, ◌∙◌, subst}
use mathlib.Core.Logic.{◌≢◌}
use mathlib.Core.List.{List, [], ◌∷◌, ◌++◌}
use Prim.Native.Nat.{ℕ, zero, suc, ◌+◌, ◌*◌, ◌-◌, ◌%◌, ◌≤◌, ◌<◌, zero-le, max}
use native.Mathlib.Omega.{arith}
use lib.Dec.{eqb}
use lib.ListN.{length, get_or, set, length-append}
use lib.Seq.{drop-nil}
use Rattle.numbers.specs.Sum.{one}
use Rattle.numbers.specs.Ceil.{ceil}
use Rattle.pool.specs.Words.{Layout, Fair, start, room, header_word, tile_word, block_word, tile_set, block_set}
use Rattle.pool.specs.State.{State, tile_of, link_to, times, Holds}
use Rattle.pool.specs.Sound.{Shows}
use Rattle.pool.proofs.Words.{header≤start, start≤room, header_set_lem, header_set_other, length-header_set, tile_set_lem, tile_set_other_tile, tile_set_other_word, length-tile_set, header_tile_set, tile_header_set, block_set_lem, block_set_other_block, block_set_other_word, length-block_set, header_block_set, tile_block_set, block_header_set, block_tile_set}
use Rattle.pool.proofs.Times.{one_same, times-append, times_differ}
use Rattle.pool.proofs.Parts.{ceil_suc_full}
use Rattle.pool.proofs.Chain.{Same, frame, put_new, last_link_snoc, link_to_snoc}
use Rattle.pool.proofs.State.{times≤, tile_once, apart, free_apart, in_range_snoc, tile_frame, shows_set}
use Rattle.pool.proofs.Total.{held≤, chain_and_free≤}
use Rattle.lists.specs.Appending.{counted, take_head, take_block}
use Rattle.lists.specs.Steps.{with_block}
use Rattle.lists.proofs.Within.{Within, within_then, within_header, within_tile, within_block}

-- q is p with block b taken from the free chain for tile t, the id in its first place; the link that leads to b may be anywhere
pub record Taken (L : Layout) (T : ℕ) (p q : List ℕ) (t b id : ℕ) : Type 0 where
  pub count : header_word q 4 ≡ header_word p 4 - 1
  pub next : header_word q 5 ≡ block_word L T p b L.ids
  pub others : (u : ℕ) → u < T → u ≢ t → (i : ℕ) → i < L.tile → tile_word L q u i ≡ tile_word L p u i
  pub entries : tile_word L q t 0 ≡ suc (tile_word L p t 0)
  pub last : tile_word L q t 2 ≡ suc b
  pub mark : tile_word L q t 3 ≡ max (tile_word L p t 3) (suc (tile_word L p t 0))
  pub place : block_word L T q b 0 ≡ id
  pub link : block_word L T q b L.ids ≡ 0
  pub rest : (j : ℕ) → j ≢ 0 → j < L.ids → block_word L T q b j ≡ block_word L T p b j

module _ {L : Layout} {T N : ℕ} (A : Fair L) (p : List ℕ) (long : room L T N ≤ length p) (t b id : ℕ) (ht : t < T) (hb : b < N) where
  pub take_words : Taken L T p (take_block L T p t b id) t b id
  unfolding take_block take_head counted
  take_words =
      let tile0 : 0 < L.tile = omega (arith, A.tile>) in
      let tile2 : 2 < L.tile = omega (arith, A.tile>) in
      let tile3 : 3 < L.tile = A.tile> in
      let h4 : 4 < L.header = omega (arith, A.header>) in
      let h5 : 5 < L.header = omega (arith, A.header>) in
      let n20 : ◌≢◌ {A = ℕ} 2 0 = omega arith in
      let n23 : ◌≢◌ {A = ℕ} 2 3 = omega arith in
      let n30 : ◌≢◌ {A = ℕ} 3 0 = omega arith in
      let n32 : ◌≢◌ {A = ℕ} 3 2 = omega arith in
      let n54 : ◌≢◌ {A = ℕ} 5 4 = omega arith in
      let nm0 : L.ids ≢ 0 = omega (arith, A.ids>) in
      let le0 : 0 ≤ L.ids = zero-le in
      let lem : L.ids ≤ L.ids = omega arith in
      let lb : start L T ≤ length p = omega (arith, start≤room L T N) in
      let lh : L.header ≤ length p = omega (arith, header≤start L T) in
      record {
        count = simp (header_tile_set L, header_block_set L T) (header_set_lem _ 4 _ (simp length-header_set (omega arith)));
        next = simp (header_tile_set L, header_block_set L T, header_set_other) (header_set_lem _ 5 _ (omega arith));
        others = λ u hu ne i hi. simp (tile_set_other_tile L, tile_block_set L T, tile_header_set L);
        entries = tile_set_lem L T _ t 0 _ (simp (length-tile_set L, length-block_set L T, length-header_set) lb) ht tile0 ∙ omega arith;
        last = simp (tile_set_other_word L) (tile_set_lem L T _ t 2 _ (simp (length-block_set L T, length-header_set) lb) ht tile2 ∙ omega arith);
        mark = simp (tile_set_other_word L, tile_block_set L T, tile_header_set L)
            (tile_set_lem L T _ t 3 _ (simp (length-tile_set L, length-block_set L T, length-header_set) lb) ht tile3 ∙ omega arith);
        place = simp (block_tile_set L T) (block_set_lem L T N _ b 0 id (simp (length-block_set L T, length-header_set) long) hb le0);
        link = simp (block_tile_set L T, block_set_other_word L T) (block_set_lem L T N _ b L.ids 0 (simp length-header_set long) hb lem);
        rest = λ j j0 jm. let jm' : j ≢ L.ids = omega arith in simp (block_tile_set L T, block_set_other_word L T, block_header_set L T);
      }

  pub take_within : Within L T N p (take_block L T p t b id)
  unfolding take_block take_head counted
  take_within =
      let tile0 : 0 < L.tile = omega (arith, A.tile>) in
      let tile2 : 2 < L.tile = omega (arith, A.tile>) in
      let h4 : 4 < L.header = omega (arith, A.header>) in
      let h5 : 5 < L.header = omega (arith, A.header>) in
      let lem : L.ids ≤ L.ids = omega arith in
      within_then (within_header p 5 _ h5 (λ j a b. b))
      (within_then (within_header _ 4 _ h4 (λ j a b. a))
      (within_then (within_block _ b L.ids 0 hb lem)
      (within_then (within_block _ b 0 id hb zero-le) (within_then (within_tile _ t 2 _ ht tile2) (within_then (within_tile _ t 3 _ ht A.tile>) (within_tile _ t 0 _ ht tile0))))))

  -- the tile's first block stays, and so does every other block
  pub take_first : tile_word L (take_block L T p t b id) t 1 ≡ tile_word L p t 1
  unfolding take_block take_head counted
  take_first =
      let tile1 : 1 < L.tile = omega (arith, A.tile>) in
      let h4 : 4 < L.header = omega (arith, A.header>) in
      let h5 : 5 < L.header = omega (arith, A.header>) in
      let n10 : ◌≢◌ {A = ℕ} 1 0 = omega arith in
      let n12 : ◌≢◌ {A = ℕ} 1 2 = omega arith in
      let n13 : ◌≢◌ {A = ℕ} 1 3 = omega arith in
      simp (tile_set_other_word L, tile_block_set L T, tile_header_set L)

  pub take_same : (c : ℕ) → c ≢ b → Same L.ids (block_word L T p) (block_word L T (take_block L T p t b id)) c
  unfolding take_block take_head counted
  take_same c ne k hk =
      let tile0 : 0 < L.tile = omega (arith, A.tile>) in
      let tile2 : 2 < L.tile = omega (arith, A.tile>) in
      let tile3 : 3 < L.tile = A.tile> in
      let h4 : 4 < L.header = omega (arith, A.header>) in
      let h5 : 5 < L.header = omega (arith, A.header>) in
      let le0 : 0 ≤ L.ids = zero-le in
      let lem : L.ids ≤ L.ids = omega arith in
      simp (block_tile_set L T, block_set_other_block L T, block_header_set L T)

  -- the tile's first word leads to the block
  pub first_words : Taken L T p (tile_set L (take_block L T p t b id) t 1 (suc b)) t b id
  first_words =
      let E = take_words in
      let tile1 : 1 < L.tile = omega (arith, A.tile>) in
      record {
        count = header_tile_set L _ t 1 _ 4 (omega (arith, A.header>)) ∙ E.count;
        next = header_tile_set L _ t 1 _ 5 (omega (arith, A.header>)) ∙ E.next;
        others = λ u hu ne i hi. tile_set_other_tile L _ t 1 _ u i ne hi tile1 ∙ E.others u hu ne i hi;
        entries = tile_set_other_word L _ t 1 _ 0 (omega arith) ∙ E.entries;
        last = tile_set_other_word L _ t 1 _ 2 (omega arith) ∙ E.last;
        mark = tile_set_other_word L _ t 1 _ 3 (omega arith) ∙ E.mark;
        place = block_tile_set L T _ t 1 _ b 0 ht tile1 ∙ E.place;
        link = block_tile_set L T _ t 1 _ b L.ids ht tile1 ∙ E.link;
        rest = λ j j0 jm. block_tile_set L T _ t 1 _ b j ht tile1 ∙ E.rest j j0 jm;
      }

  -- or the link of the tile's last block l does
  pub next_words : (l : ℕ) → l ≢ b → Taken L T p (block_set L T (take_block L T p t b id) l L.ids (suc b)) t b id
  next_words l ne' =
      let E = take_words in
      let tile0 : 0 < L.tile = omega (arith, A.tile>) in
      let nb : b ≢ l = (λ z. ne' (sym z)) in
      let lem : L.ids ≤ L.ids = omega arith in
      record {
        count = header_block_set L T _ l L.ids _ 4 (omega (arith, A.header>)) ∙ E.count;
        next = header_block_set L T _ l L.ids _ 5 (omega (arith, A.header>)) ∙ E.next;
        others = λ u hu ne i hi. tile_block_set L T _ l L.ids _ u i hu hi ∙ E.others u hu ne i hi;
        entries = tile_block_set L T _ l L.ids _ t 0 ht tile0 ∙ E.entries;
        last = tile_block_set L T _ l L.ids _ t 2 ht (omega (arith, A.tile>)) ∙ E.last;
        mark = tile_block_set L T _ l L.ids _ t 3 ht A.tile> ∙ E.mark;
        place = block_set_other_block L T _ l L.ids _ b 0 nb zero-le lem ∙ E.place;
        link = block_set_other_block L T _ l L.ids _ b L.ids nb lem lem ∙ E.link;
        rest = λ j j0 jm. block_set_other_block L T _ l L.ids _ b j nb (omega arith) lem ∙ E.rest j j0 jm;
      }

module _ {L : Layout} {T N : ℕ} {p : List ℕ} {s : State} (A : Fair L) (R : Shows L T N p s) where
  taken_shows : (q : List ℕ) (t b id : ℕ) (fs : List ℕ) → t < T → id < L.limit → s.free ≡ b ∷ fs
      → length (tile_of s t).list % L.ids ≡ 0 → Taken L T p q t b id
      → tile_word L q t 1 ≡ link_to ((tile_of s t).blocks ++ (b ∷ []))
      → Holds L.ids L.poison (block_word L T q) ((tile_of s t).blocks ++ (b ∷ [])) ((tile_of s t).list ++ (id ∷ []))
      → ((c : ℕ) → c ≢ b → times c (tile_of s t).blocks ≡ 0 → Same L.ids (block_word L T p) (block_word L T q) c)
      → Shows L T N q (record { free = fs; tiles = set s.tiles t (with_block (tile_of s t) b id) })
  taken_shows q t b id fs ht hid e full E tf held same =
      let k = R.tile t ht in
      let x = tile_of s t in
      let more : length (x.list ++ (id ∷ [])) ≡ suc (length x.list) = length-append x.list (id ∷ []) ∙ omega arith in
      let nb : length (x.blocks ++ (b ∷ [])) ≡ suc (length x.blocks) = length-append x.blocks (b ∷ []) ∙ omega arith in
      let lf : length s.free ≡ suc (length fs) = ap length e in
      let cf : (c : ℕ) → times c s.free ≡ one (eqb c b) + times c fs = (λ c. ap (times c) e) in
      let bin : 0 < times b s.free = omega (arith, cf b, one_same b) in
      let fresh : times b fs ≡ 0 = omega (arith, cf b, one_same b, times≤ R b) in
      let vd : Holds L.ids L.poison (block_word L T p) (b ∷ fs) [] = rw e at R.poisoned in
      let many : suc (length x.blocks) ≡ ceil (suc (length x.list)) L.ids
      = ap suc k.many ∙ sym (ceil_suc_full L.ids A.ids> (length x.list) full) in
      shows_set R q t (with_block x b id) fs ht
      (omega (arith, E.count, R.count))
      (E.next ∙ vd.0)
      (frame L.ids L.poison (block_word L T p) (block_word L T q) fs []
      (λ c hc. same c (times_differ c b fs hc fresh) (free_apart R t c (omega (arith, cf c)))) (rw (drop-nil L.ids) at vd.2))
      (record {
        entries = E.entries ∙ ap suc k.entries ∙ sym more;
        first = tf;
        last = E.last ∙ sym (last_link_snoc 0 x.blocks b);
        many = nb ∙ rw more many;
        in_range = in_range_snoc L.limit x.list id k.in_range hid;
        held = held;
        mark = E.mark ∙ rw (k.mark, k.entries);
        mark≥ = omega arith;
        mark≤ = omega (arith, k.mark≤, held≤ {N = N} A many (omega (arith, chain_and_free≤ R t)));
      })
      (λ u hu ne. tile_frame A (E.others u hu ne)
      (λ c hc. same c (times_differ c b (tile_of s u).blocks hc (free_apart R u b bin)) (apart R u t c (λ z. ne (sym z)) hc)) (R.tile u hu))
      (λ c. omega (arith, cf c, times-append c x.blocks (b ∷ [])))

  -- the new block by itself
  new_block : (q : List ℕ) (t b id : ℕ) (fs : List ℕ) → s.free ≡ b ∷ fs → Taken L T p q t b id
      → Holds L.ids L.poison (block_word L T q) (b ∷ []) (id ∷ [])
  new_block q t b id fs e E =
      let vd : Holds L.ids L.poison (block_word L T p) (b ∷ fs) [] = rw e at R.poisoned in
      (E.link, (λ j hj. go j hj (vd.1 j hj)), tt)
    where
      go : (j : ℕ) → j < L.ids → block_word L T p b j ≡ L.poison → block_word L T q b j ≡ get_or (id ∷ []) j L.poison
      go zero hj v = E.place
      go (suc j) hj v = E.rest (suc j) (omega arith) hj ∙ v

  -- it is the tile's first
  pub first_shows : (q : List ℕ) (t b id : ℕ) (fs : List ℕ) → t < T → id < L.limit → s.free ≡ b ∷ fs
      → length (tile_of s t).list % L.ids ≡ 0 → (tile_of s t).blocks ≡ [] → (tile_of s t).list ≡ []
      → Taken L T p q t b id → tile_word L q t 1 ≡ suc b → ((c : ℕ) → c ≢ b → Same L.ids (block_word L T p) (block_word L T q) c)
      → Shows L T N q (record { free = fs; tiles = set s.tiles t (with_block (tile_of s t) b id) })
  first_shows q t b id fs ht hid e full eb ex E tf same =
      taken_shows q t b id fs ht hid e full E (rw eb tf) (rw (eb, ex) (new_block q t b id fs e E)) (λ c ne _. same c ne)

  -- it comes after the tile's last block l
  pub next_shows : (q : List ℕ) (t b id l : ℕ) (fs bs : List ℕ) → t < T → id < L.limit → s.free ≡ b ∷ fs
      → length (tile_of s t).list % L.ids ≡ 0 → (tile_of s t).blocks ≡ bs ++ (l ∷ [])
      → length (tile_of s t).list ≡ L.ids * length (tile_of s t).blocks
      → Taken L T p q t b id → tile_word L q t 1 ≡ tile_word L p t 1
      → block_word L T q l L.ids ≡ suc b → ((j : ℕ) → j < L.ids → block_word L T q l j ≡ block_word L T p l j)
      → ((c : ℕ) → c ≢ b → c ≢ l → Same L.ids (block_word L T p) (block_word L T q) c)
      → Shows L T N q (record { free = fs; tiles = set s.tiles t (with_block (tile_of s t) b id) })
  next_shows q t b id l fs bs ht hid e full eb fl E tf lk pl same =
      let k = R.tile t ht in
      let x = tile_of s t in
      let nb : length x.blocks ≡ suc (length bs) = ap length eb ∙ length-append bs (l ∷ []) ∙ omega arith in
      let nc : (c : ℕ) → times c x.blocks ≡ times c bs + (one (eqb c l) + 0) = (λ c. ap (times c) eb ∙ times-append c bs (l ∷ [])) in
      let fresh : times l bs ≡ 0 = omega (arith, nc l, one_same l, tile_once R t l) in
      let bin : 0 < times b s.free = omega (arith, ap (times b) e, one_same b) in
      let out : times b bs ≡ 0 = omega (arith, nc b, free_apart R t b bin) in
      let lin : 0 < times l x.blocks = omega (arith, nc l, one_same l) in
      let ln : (cs : List ℕ) (m n : ℕ) → link_to ((cs ++ (m ∷ [])) ++ (n ∷ [])) ≡ link_to (cs ++ (m ∷ [])) = link_to_snoc in
      taken_shows q t b id fs ht hid e full E (tf ∙ k.first ∙ rw eb (sym (ln bs l b)))
      (rw eb
      (put_new L.ids L.poison (block_word L T p) (block_word L T q) bs l b id x.list A.ids> (fl ∙ ap (λ (n : ℕ). L.ids * n) nb) fresh
      (λ c hc. same c (times_differ c b bs hc out) (times_differ c l bs hc fresh)) pl lk (new_block q t b id fs e E) (rw eb at k.held)))
      (λ c ne z. same c ne (λ (w : c ≡ l). let z' : times l x.blocks ≡ 0 = subst (λ (y : ℕ). times y x.blocks ≡ 0) w z in absurd (omega arith)))
