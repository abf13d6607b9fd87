-- The words of a pool say a state exactly where the walks find its chains right; the state is that of the chains that the links lead to.
use mathlib.Core.Path.{◌≡◌, refl, ap, sym, ◌∙◌, subst}
use mathlib.Core.List.{List, [], ◌∷◌}
use Prim.Native.Nat.{ℕ, zero, suc, ◌+◌, ◌*◌, ◌<◌, ◌≤◌}
use native.Mathlib.Nat.{not-suc-le-zero, le_of_suc-le-suc}
use native.Mathlib.Omega.{arith}
use lib.ListN.{length, get_or, take}
use Rattle.numbers.specs.Ceil.{ceil}
use Rattle.numbers.proofs.Ceil.{ceil_enough}
use Rattle.pool.specs.Words.{Layout, start, header_word, tile_word, block_word}
use Rattle.pool.specs.State.{Chained, empty, State, tile_of, last_link, times, times_in_tiles}
use Rattle.pool.specs.Sound.{tiles_of, blocks_of, Opened, TileShows, Shows, Sound}
use Rattle.pool.proofs.State.{tile_block<, free_block<}
use Rattle.audit.specs.Chain.{Chain, Filled, Places, next, Run, times_in_first}
use Rattle.audit.specs.Walk.{block_word_from, chain_from, chain_of, free_of, TileRight, FreeRight, ChainsRight}
use Rattle.audit.proofs.Follow.{length-follow, follow_chain}
use Rattle.audit.proofs.Held.{laid, length_list, held, ids_filled, chain_link, chain_none, chain_held, filled_held}

-- ---- a row of tiles, and how often a block stands in its chains

-- f 0, f 1, .. : n tiles
abbrev row : (n : ℕ) → (ℕ → Chained) → List Chained
row zero f = []
row (suc n) f = f zero ∷ row n (λ t. f (suc t))

length-row : (n : ℕ) (f : ℕ → Chained) → length (row n f) ≡ n
length-row zero f = refl
length-row (suc n) f = ap suc (length-row n (λ t. f (suc t)))

get_or-row : (n : ℕ) (f : ℕ → Chained) (t : ℕ) → t < n → get_or (row n f) t empty ≡ f t
get_or-row zero f t h = absurd (not-suc-le-zero h)
get_or-row (suc n) f zero h = refl
get_or-row (suc n) f (suc t) h = get_or-row n (λ u. f (suc u)) t (le_of_suc-le-suc h)

-- counted from the front
times_front : (b : ℕ) (chain : ℕ → List ℕ) (n : ℕ)
    → times_in_first b chain (suc n) ≡ times b (chain 0) + times_in_first b (λ t. chain (suc t)) n
times_front b chain zero = omega arith
times_front b chain (suc n) = omega (arith, times_front b chain n)

times_same : (b : ℕ) (f g : ℕ → List ℕ) (n : ℕ) → ((t : ℕ) → t < n → f t ≡ g t) → times_in_first b f n ≡ times_in_first b g n
times_same b f g zero h = refl
times_same b f g (suc n) h = omega (arith, times_same b f g n (λ t lt. h t (omega arith)), ap (times b) (h n (omega arith)))

times_none : (b : ℕ) (f : ℕ → List ℕ) (n : ℕ) → ((t : ℕ) → t < n → times b (f t) ≡ 0) → times_in_first b f n ≡ 0
times_none b f zero h = refl
times_none b f (suc n) h = omega (arith, times_none b f n (λ t lt. h t (omega arith)), h n (omega arith))

-- the tiles of a state are the first of a row
times-tiles : (b : ℕ) (l : List Chained) → times_in_tiles b l ≡ times_in_first b (λ t. (get_or l t empty).blocks) (length l)
times-tiles b [] = refl
times-tiles b (x ∷ l) = omega (arith, times_front b (λ t. (get_or (x ∷ l) t empty).blocks) (length l), times-tiles b l)

times-row : (b n : ℕ) (f : ℕ → Chained) → times_in_tiles b (row n f) ≡ times_in_first b (λ t. (f t).blocks) n
times-row b zero f = refl
times-row b (suc n) f = omega (arith, times_front b (λ t. (f t).blocks) n, times-row b n (λ t. f (suc t)))

-- the link of a block, in a pool of T tiles
abbrev links : Layout → (T : ℕ) → List ℕ → (b : ℕ) → ℕ
links L T p = next L (block_word_from L p (start L T))

module _ (L : Layout) (0<ids : 0 < L.ids) (T N : ℕ) (p : List ℕ) where
  -- ---- from the walks to the state

  -- tile t, as the links lead: its blocks, and as many of their places as it has entries
  abbrev tile_found : (t : ℕ) → Chained
  tile_found t =
      record {
        blocks = chain_of L p (start L T) t;
        list = take (tile_word L p t 0) (laid L (block_word L T p) (chain_of L p (start L T) t));
        mark = tile_word L p t 3;
      }

  abbrev state_found : State
  state_found = record { free = free_of L p (start L T); tiles = row T tile_found }

  tile_shows : (t : ℕ) → TileRight L p (start L T) N t → TileShows L T N p t (tile_found t)
  unfolding block_word
  tile_shows t h =
      let q = tile_word L p t 0 in
      let bs = chain_of L p (start L T) t in
      let many = length-follow (links L T p) (ceil q L.ids) (tile_word L p t 1) in
      let enough : q ≤ L.ids * length bs = rw many (ceil_enough q L.ids 0<ids) in
      let len = length_list L (block_word L T p) q bs enough in
      record {
        entries = sym len;
        first = chain_link (links L T p) N (tile_word L p t 1) bs h.run.chain;
        last = h.last;
        many = many ∙ ap (λ (k : ℕ). ceil k L.ids) (sym len);
        in_range = λ i lt. ids_filled L (block_word L T p) q bs h.run.filled enough i (omega arith);
        held = held L (block_word L T p) N (tile_word L p t 1) q bs h.run.chain h.run.filled;
        mark = refl;
        mark≥ = rw len h.mark.above;
        mark≤ = h.mark.below;
      }

  pub shows_found : ChainsRight L p (start L T) N T → Shows L T N p state_found
  unfolding block_word
  shows_found h =
      let free = free_of L p (start L T) in
      record {
        count = sym (length-follow (links L T p) (header_word p 4) (header_word p 5));
        first = chain_link (links L T p) N (header_word p 5) free h.free.chain;
        poisoned = held L (block_word L T p) N (header_word p 5) 0 free h.free.chain h.free.filled;
        tiled = length-row T tile_found;
        tile = λ t lt. rw (get_or-row T tile_found t lt) (tile_shows t (h.tiles t lt));
        once = λ b lt. omega (arith, times-row b T tile_found, h.once b lt);
        none = λ b le.
            omega (
              arith,
              times-row b T tile_found,
              chain_none (links L T p) N (header_word p 5) free h.free.chain b le,
              times_none b (chain_of L p (start L T)) T
                  (λ t lt. chain_none (links L T p) N (tile_word L p t 1) (chain_of L p (start L T) t) (h.tiles t lt).run.chain b le),
            );
      }

  -- ---- and back

  -- a chain of that many blocks is what the links lead to
  found : (link k : ℕ) (bs : List ℕ) → Chain (links L T p) N link bs → length bs ≡ k
      → bs ≡ chain_from L p (start L T) k link
  found link k bs c e =
      follow_chain (links L T p) N link bs c ∙ ap (λ (j : ℕ). chain_from L p (start L T) j link) e

  module _ (s : State) (h : Shows L T N p s) where
    free_chain : Chain (links L T p) N (header_word p 5) s.free
    unfolding block_word
    free_chain = rw h.first (chain_held L (block_word L T p) N s.free [] (free_block< h) h.poisoned)

    tile_chain : (t : ℕ) → t < T → Chain (links L T p) N (tile_word L p t 1) (tile_of s t).blocks
    unfolding block_word
    tile_chain t lt =
        let x = h.tile t lt in
        rw x.first (chain_held L (block_word L T p) N (tile_of s t).blocks (tile_of s t).list (tile_block< h t) x.held)

    free_is : s.free ≡ free_of L p (start L T)
    free_is = found (header_word p 5) (header_word p 4) s.free free_chain (sym h.count)

    tile_is : (t : ℕ) → t < T → (tile_of s t).blocks ≡ chain_of L p (start L T) t
    tile_is t lt =
        let x = h.tile t lt in
        found (tile_word L p t 1) (ceil (tile_word L p t 0) L.ids) (tile_of s t).blocks (tile_chain t lt)
        (x.many ∙ ap (λ (k : ℕ). ceil k L.ids) (sym x.entries))

    -- a right chain is a right run of the blocks that its links lead to
    run_of : (link q k : ℕ) (bs : List ℕ) → bs ≡ chain_from L p (start L T) k link → Chain (links L T p) N link bs
        → Filled (λ b. Places L (block_word_from L p (start L T) b)) L.ids q bs → Run L (block_word_from L p (start L T)) N link q k
    run_of link q k bs e c f =
        record {
          chain = subst (λ (l : List ℕ). Chain (links L T p) N link l) e c;
          filled = subst (λ (l : List ℕ). Filled (λ b. Places L (block_word_from L p (start L T) b)) L.ids q l) e f;
        }

    tile_right : (t : ℕ) → t < T → TileRight L p (start L T) N t
    unfolding block_word
    tile_right t lt =
        let x = h.tile t lt in
        record {
          run =
              run_of (tile_word L p t 1) (tile_word L p t 0) (ceil (tile_word L p t 0) L.ids) (tile_of s t).blocks (tile_is t lt) (tile_chain t lt)
              (rw x.entries (filled_held L (block_word L T p) (tile_of s t).blocks (tile_of s t).list x.in_range x.held));
          last = x.last ∙ ap (last_link 0) (tile_is t lt);
          mark = record { above = rw (x.entries, x.mark) x.mark≥; below = rw x.mark x.mark≤ };
        }

    free_right : FreeRight L p (start L T) N
    unfolding block_word
    free_right =
        run_of (header_word p 5) 0 (header_word p 4) s.free free_is free_chain
        (filled_held L (block_word L T p) s.free [] (λ i lt. absurd (not-suc-le-zero lt)) h.poisoned)

    pub right_shown : ChainsRight L p (start L T) N T
    right_shown =
        record {
          tiles = tile_right;
          free = free_right;
          once = λ b lt.
              omega (
                arith,
                h.once b lt,
                times-tiles b s.tiles,
                ap (times_in_first b (λ t. (tile_of s t).blocks)) h.tiled,
                times_same b (λ t. (tile_of s t).blocks) (chain_of L p (start L T)) T tile_is,
                ap (times b) free_is,
              );
        }

-- ---- so a pool is sound exactly where its header is right and its chains are
module _ (L : Layout) (0<ids : 0 < L.ids) (p : List ℕ) {from n count : ℕ} (ef : from ≡ start L (tiles_of p)) (en : n ≡ blocks_of p)
    (ec : count ≡ tiles_of p) where
  pub sound_right : Opened L p → ChainsRight L p from n count → Sound L p
  sound_right o h =
      record {
        opened = o;
        state = state_found L 0<ids (tiles_of p) (blocks_of p) p;
        shows = shows_found L 0<ids (tiles_of p) (blocks_of p) p (rw (ef, en, ec) at h);
      }

  pub right_sound : Sound L p → ChainsRight L p from n count
  right_sound s = rw (ef, en, ec) (right_shown L 0<ids (tiles_of p) (blocks_of p) p s.state s.shows)
