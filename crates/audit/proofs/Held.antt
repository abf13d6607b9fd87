-- A chain that a walk finds right holds a list, its places up to the number of entries; and a chain that holds a list is found right.
use mathlib.Core.Path.{◌≡◌, refl, sym, ◌∙◌}
use mathlib.Core.Logic.{⊎_elim}
use mathlib.Core.List.{List, [], ◌∷◌, ◌++◌}
use Prim.Native.Nat.{ℕ, zero, suc, ◌+◌, ◌-◌, ◌*◌, ◌<◌, ◌≤◌}
use native.Mathlib.Omega.{arith}
use lib.ListN.{length, get_or, take, drop, length-append, length-take, length-drop, get_or-append, get_or-eq_default}
use lib.Seq.{take-nil, get_or-take, get_or-drop, drop_at, length-take-le}
use Rattle.numbers.proofs.Ceil.{lt_or_ge}
use Rattle.pool.specs.Words.{Layout}
use Rattle.pool.specs.State.{link_to, times, Holds}
use Rattle.pool.specs.Lists.{table}
use Rattle.pool.proofs.Times.{one_other, times_head, times-tail}
use Rattle.pool.proofs.Lists.{length-table, get_or-table}
use Rattle.pool.proofs.Chain.{get_or_within}
use Rattle.audit.specs.Chain.{Chain, Filled, Places, next}

drop-take : (m q : ℕ) (l : List ℕ) → drop m (take q l) ≡ take (q - m) (drop m l)
drop-take zero q l = let e : q - 0 ≡ q = omega arith in rw e refl
drop-take (suc m) zero l = let e : 0 - suc m ≡ 0 = omega arith in rw e refl
drop-take (suc m) (suc q) [] = sym (take-nil (suc q - suc m))
drop-take (suc m) (suc q) (x ∷ l) = let e : suc q - suc m ≡ q - m = omega arith in rw e (drop-take m q l)

-- the link to a chain names its first block
pub chain_link : (next : ℕ → ℕ) (n link : ℕ) (bs : List ℕ) → Chain next n link bs → link ≡ link_to bs
chain_link next n link [] h = h
chain_link next n link (b ∷ bs) h = h.0

-- and no block of it is past the last
pub chain_none : (next : ℕ → ℕ) (n link : ℕ) (bs : List ℕ) → Chain next n link bs → (b : ℕ) → n ≤ b → times b bs ≡ 0
chain_none next n link [] h b le = refl
chain_none next n link (c ∷ bs) h b le =
    omega (arith, one_other b c (omega (arith, h.1)), chain_none next n (next c) bs h.2 b le)

module _ (L : Layout) (word : ℕ → ℕ → ℕ) where
  -- the id places of the blocks, one block after the other
  abbrev pub laid : List ℕ → List ℕ
  laid [] = []
  laid (b ∷ bs) = table L.ids (word b) ++ laid bs

  pub length-laid : (bs : List ℕ) → length (laid bs) ≡ L.ids * length bs
  length-laid [] = omega arith
  length-laid (b ∷ bs) =
      length-append (table L.ids (word b)) (laid bs) ∙ omega (arith, length-table L.ids (word b), length-laid bs)

  pub length_list : (q : ℕ) (bs : List ℕ) → q ≤ L.ids * length bs → length (take q (laid bs)) ≡ q
  length_list q bs h = length-take-le q (laid bs) (omega (arith, length-laid bs))

  drop-laid : (q b : ℕ) (bs : List ℕ) → drop L.ids (take q (laid (b ∷ bs))) ≡ take (q - L.ids) (laid bs)
  drop-laid q b bs =
      drop-take L.ids q (laid (b ∷ bs)) ∙ rw (drop_at (table L.ids (word b)) (laid bs) L.ids (length-table L.ids (word b)))

  get_or-laid : (q b : ℕ) (bs : List ℕ) (k d : ℕ) → k < q → k < L.ids → get_or (take q (laid (b ∷ bs))) k d ≡ word b k
  get_or-laid q b bs k d hq hk =
      get_or-take q (laid (b ∷ bs)) k d hq
      ∙ get_or-append (table L.ids (word b)) (laid bs) d k (rw length-table hk)
      ∙ get_or-table L.ids (word b) k d hk

  module _ (n : ℕ) where
    -- a right chain holds its first q places
    pub held : (link q : ℕ) (bs : List ℕ) → Chain (next L word) n link bs → Filled (λ b. Places L (word b)) L.ids q bs
        → Holds L.ids L.poison word bs (take q (laid bs))
    unfolding Places
    held link q [] c f = tt
    held link q (b ∷ bs) c f = (
      chain_link (next L word) n (word b L.ids) bs c.2,
      (λ k hk. ⊎_elim (λ (lt : k < q). sym (get_or-laid q b bs k L.poison lt hk))
          (λ (le : q ≤ k).
          (f.0 k hk).1 (omega arith)
          ∙ sym (get_or-eq_default (take q (laid (b ∷ bs))) L.poison (omega (arith, length-take q (laid (b ∷ bs))))))
          (lt_or_ge k q)),
      rw (drop-laid q b bs) (held (word b L.ids) (q - L.ids) bs c.2 f.1),
    )

    -- a chain that holds a list, in blocks below n, is right
    pub chain_held : (bs xs : List ℕ) → ((b : ℕ) → 0 < times b bs → b < n) → Holds L.ids L.poison word bs xs
        → Chain (next L word) n (link_to bs) bs
    chain_held [] xs below h = refl
    chain_held (b ∷ bs) xs below h = (
      refl,
      below b (times_head b bs),
      rw h.0 (chain_held bs (drop L.ids xs) (λ c lt. below c (times-tail c b bs lt)) h.2),
    )

  -- the entries of a right chain are ids
  pub ids_filled : (q : ℕ) (bs : List ℕ) → Filled (λ b. Places L (word b)) L.ids q bs → q ≤ L.ids * length bs
      → (i : ℕ) → i < q → get_or (take q (laid bs)) i 0 < L.limit
  unfolding Places
  ids_filled q [] f le i lt = absurd (omega arith)
  ids_filled q (b ∷ bs) f le i lt =
      ⊎_elim (λ (hi : i < L.ids). rw (get_or-laid q b bs i 0 lt hi) ((f.0 i hi).0 (omega arith)))
      (λ (hi : L.ids ≤ i).
      let e : L.ids + (i - L.ids) ≡ i = omega arith in
      let x = ids_filled (q - L.ids) bs f.1 (omega arith) (i - L.ids) (omega arith) in
      let y = rw (← drop-laid q b bs, get_or-drop, e) at x in
      y)
      (lt_or_ge i L.ids)

  pub filled_held : (bs xs : List ℕ) → ((i : ℕ) → i < length xs → get_or xs i 0 < L.limit) → Holds L.ids L.poison word bs xs
      → Filled (λ b. Places L (word b)) L.ids (length xs) bs
  unfolding Places
  filled_held [] xs range h = tt
  filled_held (b ∷ bs) xs range h = (
    (λ j lj. (
      λ lt. rw (h.1 j lj, get_or_within xs j L.poison 0 (omega arith)) (range j (omega arith)),
      λ le. h.1 j lj ∙ get_or-eq_default xs L.poison (omega arith),
    )),
    rw (← length-drop L.ids xs)
        (filled_held bs (drop L.ids xs) (λ i lt. rw (get_or-drop L.ids xs i 0) (range (L.ids + i) (omega (arith, length-drop L.ids xs)))) h.2),
  )
