-- Blocks given back, one and a chain of them: each is poisoned and made the head of the free chain, and nothing else changes.
use mathlib.Core.Path.{◌≡◌, refl, ap, ◌∙◌}
use mathlib.Core.Logic.{◌≢◌, ⊎_elim}
use mathlib.Core.List.{List, [], ◌∷◌}
use Prim.Native.Nat.{ℕ, zero, suc, ◌+◌, ◌*◌, ◌≤◌, ◌<◌}
use native.Mathlib.Nat.{not-suc-le-zero}
use native.Mathlib.Omega.{arith}
use lib.Dec.{eqb}
use native.Mathlib.Numerals.{add-one}
use lib.ListN.{length, drop, set, replicate}
use lib.Seq.{drop-nil, paste}
use Rattle.std.proofs.lemmas.List.Edits.{paste_none, fill_from_more}
use Rattle.numbers.specs.Sum.{one}
use Rattle.numbers.proofs.Ceil.{eq_or_ne}
use Rattle.pool.specs.Words.{Layout, Fair, start, room, header_word, tile_word, block_word, block_set}
use Rattle.pool.specs.State.{link_to, times, Holds}
use Rattle.pool.proofs.Words.{header≤start, start≤room, header_set_lem, header_set_other, length-header_set, tile_header_set, block_set_lem, block_set_other_block, block_set_other_word, length-block_set, header_block_set, tile_block_set, block_header_set}
use Rattle.pool.proofs.Times.{one_same, one_other, times_differ, times_head, times-tail}
use Rattle.pool.proofs.Chain.{Same, frame}
use Rattle.lists.specs.Releasing.{fill, give_block, give_chain}
use Rattle.lists.specs.Steps.{onto}
use Rattle.lists.proofs.Within.{Within, within_none, within_then, within_header, within_block}

pub times-onto : (b : ℕ) (bs fs : List ℕ) → times b (onto bs fs) ≡ times b bs + times b fs
times-onto b [] fs = omega arith
times-onto b (c ∷ bs) fs = times-onto b bs (c ∷ fs) ∙ omega arith

pub length-onto : (bs fs : List ℕ) → length (onto bs fs) ≡ length bs + length fs
length-onto [] fs = omega arith
length-onto (c ∷ bs) fs = length-onto bs (c ∷ fs) ∙ omega arith

-- q is p after the blocks bs were put before the free chain fs
pub record Given (L : Layout) (T N : ℕ) (p q : List ℕ) (bs fs : List ℕ) : Type 0 where
  pub within : Within L T N p q
  pub tiles : (u : ℕ) → u < T → (i : ℕ) → i < L.tile → tile_word L q u i ≡ tile_word L p u i
  pub blocks : (b : ℕ) → times b bs ≡ 0 → Same L.ids (block_word L T p) (block_word L T q) b
  pub count : header_word q 4 ≡ length (onto bs fs)
  pub first : header_word q 5 ≡ link_to (onto bs fs)
  pub poisoned : Holds L.ids L.poison (block_word L T q) (onto bs fs) []

-- ---- poison in the first n places of a block

module _ (L : Layout) (T : ℕ) where
  -- they are side by side
  pub fill_paste : (p : List ℕ) (b n : ℕ) → start L T + suc L.ids * b + n < length p
      → fill L T p b n ≡ paste p (start L T + suc L.ids * b) (replicate n L.poison) n
  unfolding fill block_set
  fill_paste p b zero h = paste_none p (start L T + suc L.ids * b) []
  fill_paste p b (suc n) h =
      let at = start L T + suc L.ids * b in
      ap (λ (q : List ℕ). set q (at + n) L.poison) (fill_paste p b n (omega arith))
      ∙ fill_from_more p at n L.poison (omega arith)
      ∙ ap (λ (k : ℕ). paste p at (replicate k L.poison) k) (add-one n)

  pub length-fill : (p : List ℕ) (b n : ℕ) → length (fill L T p b n) ≡ length p
  unfolding fill
  length-fill p b zero = refl
  length-fill p b (suc n) = length-block_set L T _ b n _ ∙ length-fill p b n

  pub header_fill : (p : List ℕ) (b n k : ℕ) → k < L.header → header_word (fill L T p b n) k ≡ header_word p k
  unfolding fill
  header_fill p b zero k h = refl
  header_fill p b (suc n) k h = header_block_set L T _ b n _ k h ∙ header_fill p b n k h

  pub tile_fill : (p : List ℕ) (b n t i : ℕ) → t < T → i < L.tile → tile_word L (fill L T p b n) t i ≡ tile_word L p t i
  unfolding fill
  tile_fill p b zero t i ht hi = refl
  tile_fill p b (suc n) t i ht hi = tile_block_set L T _ b n _ t i ht hi ∙ tile_fill p b n t i ht hi

  pub fill_other : (p : List ℕ) (b n c k : ℕ) → c ≢ b → k ≤ L.ids → n ≤ L.ids → block_word L T (fill L T p b n) c k ≡ block_word L T p c k
  unfolding fill
  fill_other p b zero c k ne hk hn = refl
  fill_other p b (suc n) c k ne hk hn = block_set_other_block L T _ b n _ c k ne hk (omega arith) ∙ fill_other p b n c k ne hk (omega arith)

module _ (L : Layout) (T N : ℕ) where
  pub fill_poisons : (p : List ℕ) (b n k : ℕ) → room L T N ≤ length p → b < N → n ≤ L.ids → k < n → block_word L T (fill L T p b n) b k ≡ L.poison
  unfolding fill
  fill_poisons p b zero k l hb hn hk = absurd (not-suc-le-zero hk)
  fill_poisons p b (suc n) k l hb hn hk =
      ⊎_elim (λ (e : k ≡ n). rw e (block_set_lem L T N _ b n _ (rw (length-fill L T p b n) l) hb (omega arith)))
      (λ (ne : k ≢ n). block_set_other_word L T _ b n _ k ne ∙ fill_poisons p b n k l hb (omega arith) (omega arith))
      (eq_or_ne k n)

  pub within_fill : (p : List ℕ) (b n : ℕ) → b < N → n ≤ L.ids → Within L T N p (fill L T p b n)
  unfolding fill
  within_fill p b zero hb hn = within_none
  within_fill p b (suc n) hb hn = within_then (within_fill p b n hb (omega arith)) (within_block _ b n _ hb (omega arith))

  module _ (A : Fair L) where
    -- one block
    pub give_one : (p : List ℕ) (b : ℕ) (fs : List ℕ) → room L T N ≤ length p → b < N → times b fs ≡ 0 → header_word p 4 ≡ length fs
        → header_word p 5 ≡ link_to fs → Holds L.ids L.poison (block_word L T p) fs [] → Given L T N p (give_block L T p b) (b ∷ []) fs
    unfolding give_block
    give_one p b fs l hb z e4 e5 vd =
        let h4 : 4 < L.header = omega (arith, A.header>) in
        let h5 : 5 < L.header = omega (arith, A.header>) in
        let lh : L.header ≤ length p = omega (arith, header≤start L T, start≤room L T N) in
        let lem : L.ids ≤ L.ids = omega arith in
        let n54 : ◌≢◌ {A = ℕ} 5 4 = omega arith in
        let other : (c : ℕ) → c ≢ b → Same L.ids (block_word L T p) (block_word L T (give_block L T p b)) c
        = (λ c ne k hk. simp (block_header_set L T, block_set_other_block L T, fill_other L T)) in
        record {
          within = within_then (within_fill p b L.ids hb lem)
              (within_then (within_block _ b L.ids _ hb lem)
              (within_then (within_header _ 5 _ h5 (λ j x y. y)) (within_header _ 4 _ h4 (λ j x y. x))));
          tiles = λ u hu i hi. simp (tile_header_set L, tile_block_set L T, tile_fill L T);
          blocks = λ c hc. other c (λ (e : c ≡ b). absurd (omega (arith, ap (λ (y : ℕ). one (eqb c y)) e, one_same c)));
          count = header_set_lem _ 4 _ (simp (length-header_set, length-block_set L T, length-fill L T) (omega arith)) ∙ omega arith;
          first = header_set_other _ 4 _ 5 n54 ∙ header_set_lem _ 5 _ (simp (length-block_set L T, length-fill L T) (omega arith)) ∙ omega arith;
          poisoned = (
            simp (block_header_set L T) (block_set_lem L T N _ b L.ids _ (simp (length-fill L T) l) hb lem ∙ e5),
            (λ k hk.
                let ne : k ≢ L.ids = omega arith in
                simp (block_header_set L T, block_set_other_word L T) (fill_poisons p b L.ids k l hb lem hk)),
            rw (drop-nil L.ids)
                (frame L.ids L.poison (block_word L T p) (block_word L T (give_block L T p b)) fs [] (λ c hc. other c (times_differ c b fs hc z)) vd),
          );
        }

    given_none : {p fs : List ℕ} → header_word p 4 ≡ length fs → header_word p 5 ≡ link_to fs → Holds L.ids L.poison (block_word L T p) fs [] → Given L T N p p [] fs
    given_none e4 e5 vd = record {
      within = within_none;
      tiles = λ u hu i hi. refl;
      blocks = λ b hb k hk. refl;
      count = e4;
      first = e5;
      poisoned = vd;
    }

    -- a chain of blocks
    pub give_all : (n : ℕ) (bs list fs p : List ℕ) → room L T N ≤ length p → length bs ≤ n
        → ((c : ℕ) → times c bs + times c fs ≤ 1) → ((c : ℕ) → 0 < times c bs → c < N)
        → header_word p 4 ≡ length fs → header_word p 5 ≡ link_to fs → Holds L.ids L.poison (block_word L T p) fs []
        → Holds L.ids L.poison (block_word L T p) bs list → Given L T N p (give_chain L T n (link_to bs) p) bs fs
    unfolding give_chain
    give_all zero [] list fs p l hn once below e4 e5 vd r = given_none e4 e5 vd
    give_all (suc n) [] list fs p l hn once below e4 e5 vd r = given_none e4 e5 vd
    give_all zero (b ∷ bs) list fs p l hn once below e4 e5 vd r = absurd (not-suc-le-zero hn)
    give_all (suc n) (b ∷ bs) list fs p l hn once below e4 e5 vd r =
        rw r.0
        (let z : times b bs ≡ 0 = omega (arith, once b, one_same b) in
        let E = give_one p b fs l (below b (times_head b bs)) (omega (arith, once b, one_same b)) e4 e5 vd in
        let F = give_all n bs (drop L.ids list) (b ∷ fs) (give_block L T p b) (rw E.within.keeps.long l) (omega arith)
        (λ c. omega (arith, once c)) (λ c hc. below c (times-tail c b bs hc)) E.count E.first E.poisoned
        (frame L.ids L.poison (block_word L T p) (block_word L T (give_block L T p b)) bs (drop L.ids list)
        (λ c hc. E.blocks c (omega (arith, one_other c b (times_differ c b bs hc z)))) r.2) in
        record {
          within = within_then E.within F.within;
          tiles = λ u hu i hi. F.tiles u hu i hi ∙ E.tiles u hu i hi;
          blocks = λ c hc k hk. F.blocks c (omega arith) k hk ∙ E.blocks c (omega arith) k hk;
          count = F.count;
          first = F.first;
          poisoned = F.poisoned;
        })
