-- A chain of a sound pool that is followed, block by block.
use mathlib.Core.Path.{◌≡◌, sym, ap, ◌∙◌, subst}
use mathlib.Core.Logic.{⊎_elim}
use mathlib.Core.List.{List, [], ◌∷◌}
use Prim.Native.Nat.{ℕ, ◌+◌, ◌*◌, ◌-◌, ◌≤◌, ◌<◌, min}
use native.Mathlib.Omega.{arith}
use lib.ListN.{length, get_or, take, drop, length-drop, drop_of_length-le}
use lib.Seq.{length-take-le, get_or-take, drop-drop, ext_get_or}
use Rattle.numbers.proofs.Ceil.{lt_or_ge}
use Rattle.pool.specs.Words.{Layout, tile_word, block_word}
use Rattle.pool.specs.State.{tile_of, link_to, times, Holds}
use Rattle.pool.specs.Sound.{blocks_of}
use Rattle.pool.specs.Lists.{list_of}
use Rattle.pool.proofs.Times.{times_head, times-tail}
use Rattle.pool.proofs.State.{tile_block<}
use Rattle.pool.proofs.Lists.{list_of_tile, blocks_enough}
use Rattle.pool.proofs.Chain.{get_or_within}
use Rattle.lists.specs.Reach.{BlockIn, Among}
use Rattle.lists.proofs.Reaches.{block_in, shown, roomed}

-- a list ends with its last block of entries, full or not
drop_share : (ids done k : ℕ) (list : List ℕ) → k ≡ min ids (length list - done) → drop (done + ids) list ≡ drop (done + k) list
drop_share ids done k list e =
    ⊎_elim
    (λ (h : length list - done < ids).
    let a : length list ≤ done + ids = omega arith in
    let b : length list ≤ done + k = omega arith in
    drop_of_length-le list a ∙ sym (drop_of_length-le list b))
    (λ (h : ids ≤ length list - done). let z : k ≡ ids = omega arith in rw z)
    (lt_or_ge (length list - done) ids)

-- ---- following

-- The link names the blocks, each one of N, that hold the entries of the list but the first `done`. word b k is word k of block b.
pub record Following (ids poison : ℕ) (word : ℕ → ℕ → ℕ) (N : ℕ) (list : List ℕ) (link done : ℕ) : Type 0 where
  pub blocks : List ℕ
  pub named : link ≡ link_to blocks
  pub held : Holds ids poison word blocks (drop done list)
  pub enough : length list ≤ done + ids * length blocks
  pub within : (b : ℕ) → 0 < times b blocks → b < N
  pub upto : done ≤ length list

module _ {ids poison : ℕ} {word : ℕ → ℕ → ℕ} {N : ℕ} {list : List ℕ} {link done : ℕ}
    (F : Following ids poison word N list link done) (more : done < length list) where
  -- with entries to go, the link names a block
  pub follow_block : (0 < link) × (link - 1 < N)
  follow_block = go F.blocks F.named F.enough F.within
    where
      go : (bs : List ℕ) → link ≡ link_to bs → length list ≤ done + ids * length bs → ((b : ℕ) → 0 < times b bs → b < N) → (0 < link) × (link - 1 < N)
      go [] e n w = absurd (omega arith)
      go (b ∷ bs) e n w = (omega arith, omega (arith, w b (times_head b bs)))

  module _ (k : ℕ) (share : k ≡ min ids (length list - done)) where
    -- which has the next k of them
    pub follow-part : (part : List ℕ) → length part ≡ k → ((j : ℕ) → j < k → get_or part j 0 ≡ word (link - 1) j) → part ≡ take k (drop done list)
    follow-part part size same = go F.blocks F.named F.held F.enough
      where
        go : (bs : List ℕ) → link ≡ link_to bs → Holds ids poison word bs (drop done list) → length list ≤ done + ids * length bs
            → part ≡ take k (drop done list)
        go [] e held n = absurd (omega arith)
        go (b ∷ bs) e held n =
            let eb : link - 1 ≡ b = omega arith in
            let rest = length-drop done list in
            let size' = length-take-le k (drop done list) (omega arith) in
            ext_get_or 0 part (take k (drop done list)) (size ∙ sym size')
            (λ j hj.
            let hk : j < k = omega arith in
            same j hk ∙ ap (λ (c : ℕ). word c j) eb ∙ held.1 j (omega arith) ∙ get_or_within (drop done list) j poison 0 (omega arith)
            ∙ sym (get_or-take k (drop done list) j 0 hk))

    -- and its link is next
    pub follow_step : Following ids poison word N list (word (link - 1) ids) (done + k)
    follow_step = go F.blocks F.named F.held F.enough F.within
      where
        go : (bs : List ℕ) → link ≡ link_to bs → Holds ids poison word bs (drop done list) → length list ≤ done + ids * length bs
            → ((b : ℕ) → 0 < times b bs → b < N) → Following ids poison word N list (word (link - 1) ids) (done + k)
        go [] e held n w = absurd (omega arith)
        go (b ∷ bs) e held n w =
            let eb : link - 1 ≡ b = omega arith in
            record {
              blocks = bs;
              named = ap (λ (c : ℕ). word c ids) eb ∙ held.0;
              held = subst (Holds ids poison word bs) (drop-drop ids done list ∙ drop_share ids done k list share) held.2;
              enough = omega arith;
              within = λ c hc. w c (times-tail c b bs hc);
              upto = omega arith;
            }

-- ---- a tile of a sound pool

module _ {L : Layout} {p : List ℕ} {T t : ℕ} (G : Among L p T t) where
  pub follow-start : Following L.ids L.poison (block_word L T p) (blocks_of p) (list_of L T p t) (tile_word L p t 1) 0
  follow-start =
      let k = (shown G).tile t G.tile in
      let A = G.sized.fair in
      rw (list_of_tile A k)
      (record {
        blocks = (tile_of G.sound.state t).blocks;
        named = k.first;
        held = k.held;
        enough = omega (arith, blocks_enough A k);
        within = tile_block< (shown G) t;
        upto = omega arith;
      })

  -- a block that a followed link names lies in the pool
  pub named_in : {link done : ℕ} → Following L.ids L.poison (block_word L T p) (blocks_of p) (list_of L T p t) link done → done < length (list_of L T p t)
      → (0 < link) × BlockIn L T p (link - 1) L.ids
  named_in F more = let b = follow_block F more in (b.0, block_in L T (blocks_of p) p _ _ (roomed G) b.1 (omega arith))
