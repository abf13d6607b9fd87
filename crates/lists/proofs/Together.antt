-- Two slices that agree in the room of a pool still do after the same appends, or the same release, on both: every word that is written is settled by words
-- of the room, since a sound pool's chains lie in it.
use mathlib.Core.Path.{◌≡◌, refl, sym, ap, ◌∙◌}
use mathlib.Core.Logic.{◌≢◌, ⊎_elim}
use mathlib.Core.Bool.{Bool, true, false}
use mathlib.Core.List.{List, [], ◌∷◌}
use Prim.Native.Nat.{ℕ, zero, suc, ◌-◌, ◌≤◌, ◌<◌}
use native.Mathlib.Omega.{arith}
use lib.Dec.{eqb}
use lib.ListN.{length, set, drop, length-set}
use lib.Seq.{get_or-set_same, get_or-set_other}
use Rattle.numbers.specs.Sum.{one}
use Rattle.numbers.proofs.Ceil.{eq_or_ne}
use Rattle.pool.specs.Words.{Layout, Fair, room, header_word, tile_word, block_word, header_set, tile_set, block_set}
use Rattle.pool.specs.State.{State, tile_of, link_to, times, Holds}
use Rattle.pool.specs.Sound.{Shows}
use Rattle.pool.proofs.Words.{block_set_other_block, block_header_set}
use Rattle.pool.proofs.Times.{one_same, times_head, times-tail, times_differ}
use Rattle.pool.proofs.Chain.{Same, frame, uncons}
use Rattle.pool.proofs.State.{tile_once, tile_block<, free_block<}
use Rattle.pool.proofs.Room.{Agree, header_agrees, tile_agrees, block_agrees}
use Rattle.lists.specs.Appending.{pick, multiple, counted, append_in, take_head, take_block, append_first, append_next, append, append_all, Distinct}
use Rattle.lists.specs.Releasing.{fill, give_block, give_chain, release}
use Rattle.lists.specs.Steps.{append_state, need_state}
use Rattle.lists.proofs.Appends.{append_step}
use Rattle.lists.proofs.Counts.{append_free, need_other, distinct_first, distinct_rest}
use Rattle.lists.proofs.Gives.{fill_other}

-- p and q have the room of T tiles and N blocks, and the same words in it
pub record Together (L : Layout) (T N : ℕ) (p q : List ℕ) : Type 0 where
  pub long : room L T N ≤ length p
  pub long' : room L T N ≤ length q
  pub agree : Agree L T N p q

-- the same word is put in the same place of both
together-set : {L : Layout} {T N : ℕ} {p q : List ℕ} → Together L T N p q → (i v : ℕ) → Together L T N (set p i v) (set q i v)
together-set {L} {T} {N} {p} {q} G i v = record {
  long = rw length-set G.long;
  long' = rw length-set G.long';
  agree = record {
    words = λ j hj.
        ⊎_elim (λ (e : j ≡ i). rw e (get_or-set_same q i v 0 (omega arith) ∙ sym (get_or-set_same p i v 0 (omega arith))))
        (λ (ne : j ≢ i). get_or-set_other q i j v 0 ne ∙ G.agree.words j hj ∙ sym (get_or-set_other p i j v 0 ne))
        (eq_or_ne j i);
  };
}

-- one way or the other, the same on both
together-pick : {L : Layout} {T N : ℕ} {p q p' q' : List ℕ} (c : Bool) → (c ≡ true → Together L T N p q) → Together L T N p' q'
    → Together L T N (pick c p p') (pick c q q')
together-pick true F G = F refl
together-pick false F G = G

-- ---- an append

module _ {L : Layout} {T N : ℕ} {p q : List ℕ} (A : Fair L) (G : Together L T N p q) where
  head : (k : ℕ) → k ≤ 7 → header_word q k ≡ header_word p k
  head k h = header_agrees G.agree k (omega (arith, A.header>))

  of_tile : (t : ℕ) → t < T → (i : ℕ) → i ≤ 3 → tile_word L q t i ≡ tile_word L p t i
  of_tile t ht i h = tile_agrees G.agree t i ht (omega (arith, A.tile>))

  counted-together : (t : ℕ) → t < T → (n : ℕ) → Together L T N (counted L p t n) (counted L q t n)
  unfolding counted tile_set
  counted-together t ht n = rw (of_tile t ht 3 (omega arith)) (together-set (together-set G _ _) _ n)

module _ {L : Layout} {T N : ℕ} {p q : List ℕ} (A : Fair L) (G : Together L T N p q) (t : ℕ) (ht : t < T) where
  in_together : (id : ℕ) → Together L T N (append_in L T p t id) (append_in L T q t id)
  unfolding append_in block_set
  in_together id = rw (of_tile A G t ht 0 (omega arith), of_tile A G t ht 2 (omega arith)) (counted-together A (together-set G _ id) t ht _)

  take-together : (b id : ℕ) → b < N → Together L T N (take_block L T p t b id) (take_block L T q t b id)
  unfolding take_head take_block header_set tile_set block_set
  take-together b id hb =
      rw (head A G 4 (omega arith), of_tile A G t ht 0 (omega arith), block_agrees G.agree b L.ids hb (omega arith))
      (counted-together A (together-set (together-set (together-set (together-set (together-set G _ _) _ _) _ _) _ _) _ _) t ht _)

  new_together : (c : Bool) (id : ℕ) → header_word p 5 - 1 < N
      → Together L T N (pick c (append_first L T p t id) (append_next L T p t id)) (pick c (append_first L T q t id) (append_next L T q t id))
  unfolding append_first append_next tile_set block_set
  new_together c id hb =
      let H = take-together (header_word p 5 - 1) id hb in
      rw (head A G 5 (omega arith), of_tile A G t ht 2 (omega arith)) (together-pick c (λ e. together-set H _ _) (together-set H _ _))

  -- the head of the free chain is read only where a block is taken
  pub append-together : {s : State} → Shows L T N p s → (id : ℕ) → one (multiple L.ids (length (tile_of s t).list)) ≤ length s.free
      → Together L T N (append L T p t id) (append L T q t id)
  unfolding append
  append-together {s} R id enough =
      rw (of_tile A G t ht 0 (omega arith))
      (together-pick (multiple L.ids (tile_word L p t 0))
      (λ e.
      let some : 0 < length s.free = omega (arith, ap one (ap (multiple L.ids) (sym (R.tile t ht).entries) ∙ e)) in
      let u = uncons s.free some in
      let in-free : 0 < times u.0 s.free = omega (arith, ap (times u.0) u.2, one_same u.0) in
      new_together (eqb (tile_word L p t 0) 0) id (omega (arith, R.first, ap link_to u.2, free_block< R u.0 in-free)))
      (in_together id))

pub append_all_together : {L : Layout} {T N : ℕ} {p q : List ℕ} {s : State} → Fair L → (entry : ℕ → ℕ) → ((t : ℕ) → entry t < L.limit) → (ts : List ℕ)
    → Together L T N p q → Shows L T N p s → Distinct T ts → need_state L.ids s ts ≤ length s.free
    → Together L T N (append_all L T p ts entry) (append_all L T q ts entry)
unfolding append_all need_state
append_all_together A entry in_range [] G R D enough = G
append_all_together {L} {T} {N} {p} {q} {s} A entry in_range (t ∷ ts) G R D enough =
    let here : one (multiple L.ids (length (tile_of s t).list)) ≤ length s.free = omega arith in
    let ht = D.below t (times_head t ts) in
    append_all_together {p = append L T p t (entry t)} {q = append L T q t (entry t)} {s = append_state L.ids s t (entry t)} A entry in_range ts (append-together A G t ht R (entry t) here) (append_step A R G.long t (entry t) ht (in_range t) here).shows (distinct_rest D)
    (omega (arith, append_free L.ids s t (entry t) here, need_other L.ids s t (entry t) ts (distinct_first D)))

-- ---- a release

-- a block that is given back leaves the words of the others, so that the chain can be followed
give_other : {L : Layout} → Fair L → (T : ℕ) (p : List ℕ) (b c : ℕ) → c ≢ b → Same L.ids (block_word L T p) (block_word L T (give_block L T p b)) c
unfolding give_block
give_other {L} A T p b c ne k hk =
    let h4 : 4 < L.header = omega (arith, A.header>) in
    let h5 : 5 < L.header = omega (arith, A.header>) in
    let link : L.ids ≤ L.ids = omega arith in
    simp (block_header_set L T, block_set_other_block L T, fill_other L T)

module _ {L : Layout} {T N : ℕ} (A : Fair L) where
  fill-together : {p q : List ℕ} → Together L T N p q → (b n : ℕ) → Together L T N (fill L T p b n) (fill L T q b n)
  unfolding fill block_set
  fill-together G b zero = G
  fill-together G b (suc n) = together-set (fill-together G b n) _ _

  give_together : {p q : List ℕ} → Together L T N p q → (b : ℕ) → Together L T N (give_block L T p b) (give_block L T q b)
  unfolding give_block header_set block_set
  give_together G b =
      rw (head A G 4 (omega arith), head A G 5 (omega arith))
      (together-set (together-set (together-set (fill-together G b L.ids) _ _) _ _) _ _)

  chain_together : (n : ℕ) (bs list : List ℕ) {p q : List ℕ} → Together L T N p q → ((c : ℕ) → times c bs ≤ 1) → ((c : ℕ) → 0 < times c bs → c < N)
      → Holds L.ids L.poison (block_word L T p) bs list → Together L T N (give_chain L T n (link_to bs) p) (give_chain L T n (link_to bs) q)
  unfolding give_chain
  chain_together zero bs list G once below r = G
  chain_together (suc n) [] list G once below r = G
  chain_together (suc n) (b ∷ bs) list {p} {q} G once below r =
      let z : times b bs ≡ 0 = omega (arith, once b, one_same b) in
      rw (block_agrees G.agree b L.ids (below b (times_head b bs)) (omega arith), r.0)
      (chain_together n bs (drop L.ids list) (give_together G b) (λ c. omega (arith, once c)) (λ c hc. below c (times-tail c b bs hc))
      (frame L.ids L.poison (block_word L T p) (block_word L T (give_block L T p b)) bs (drop L.ids list)
      (λ c hc. give_other A T p b c (times_differ c b bs hc z)) r.2))

  pub release-together : {p q : List ℕ} {s : State} → Together L T N p q → Shows L T N p s → (t : ℕ) → t < T → Together L T N (release L T p t) (release L T q t)
  unfolding release tile_set
  release-together {p} {q} {s} G R t ht =
      let k = R.tile t ht in
      rw (of_tile A G t ht 0 (omega arith), of_tile A G t ht 1 (omega arith), k.first)
      (together-set (together-set (together-set
      (chain_together (tile_word L p t 0) (tile_of s t).blocks (tile_of s t).list G (tile_once R t) (tile_block< R t) k.held) _ _) _ _) _ _)
