-- What follows from the words showing a state: each block stands in one chain; and what they show after one tile and the free chain have changed.
use mathlib.Core.Path.{◌≡◌, sym, subst, ◌∙◌}
use mathlib.Core.Logic.{◌≢◌, ◌⊎◌, inl, inr, ⊎_elim}
use mathlib.Core.List.{List, [], ◌∷◌, ◌++◌}
use Prim.Native.Nat.{ℕ, suc, ◌+◌, ◌≤◌, ◌<◌}
use native.Mathlib.Nat.{not-suc-le-zero, eq-zero-or-pos}
use native.Mathlib.Omega.{arith}
use lib.ListN.{length, get_or, set, length-set, length-append}
use lib.Seq.{get_or-set_same, get_or-set_other}
use Rattle.numbers.proofs.Ceil.{lt_or_ge, eq_or_ne}
use Rattle.pool.specs.Words.{Layout, Fair, header_word, tile_word, block_word}
use Rattle.pool.specs.State.{Chained, empty, State, tile_of, link_to, times, times_in_tiles, times_in_all, Holds}
use Rattle.pool.specs.Sound.{TileShows, Shows}
use Rattle.pool.proofs.Times.{times_in_tiles-set, times_in_tiles-at, times_in_tiles_two}
use Rattle.pool.proofs.Chain.{Same, frame, get_or_snoc_same, get_or_snoc_other}

-- ---- each block stands in one chain

-- what stands in the tiles' chains stands in some tile's
pub in_some_tile : (b : ℕ) (l : List Chained) → 0 < times_in_tiles b l → (t : ℕ) × (t < length l) × (0 < times b (get_or l t empty).blocks)
in_some_tile b [] h = absurd (not-suc-le-zero h)
in_some_tile b (x ∷ l) h =
    ⊎_elim (λ (z : times b x.blocks ≡ 0). let r = in_some_tile b l (omega arith) in (suc r.0, omega (arith, r.1), r.2))
    (λ (z : 0 < times b x.blocks). (0, omega arith, z))
    (eq-zero-or-pos (times b x.blocks))

module _ {L : Layout} {T N : ℕ} {p : List ℕ} {s : State} (R : Shows L T N p s) where
  -- no block stands twice
  pub times≤ : (b : ℕ) → times_in_all b s ≤ 1
  times≤ b = ⊎_elim (λ (h : b < N). omega (arith, R.once b h)) (λ (h : N ≤ b). omega (arith, R.none b h)) (lt_or_ge b N)

  -- what stands in a chain is a block
  pub chained< : (b : ℕ) → 0 < times_in_all b s → b < N
  chained< b h = ⊎_elim (λ (k : b < N). k) (λ (k : N ≤ b). absurd (omega (arith, R.none b k))) (lt_or_ge b N)

  pub tile_block< : (t b : ℕ) → 0 < times b (tile_of s t).blocks → b < N
  tile_block< t b h = chained< b (omega (arith, times_in_tiles-at b s.tiles t))

  pub free_block< : (b : ℕ) → 0 < times b s.free → b < N
  free_block< b h = chained< b (omega arith)

  -- in a tile's chain a block stands once
  pub tile_once : (t b : ℕ) → times b (tile_of s t).blocks ≤ 1
  tile_once t b = omega (arith, times≤ b, times_in_tiles-at b s.tiles t)

  -- a block of a tile's chain stands in no other tile's, and not in the free chain
  pub apart : (t u b : ℕ) → u ≢ t → 0 < times b (tile_of s t).blocks → times b (tile_of s u).blocks ≡ 0
  apart t u b ne h = omega (arith, times≤ b, times_in_tiles_two b s.tiles u t ne)

  pub apart_free : (t b : ℕ) → 0 < times b (tile_of s t).blocks → times b s.free ≡ 0
  apart_free t b h = omega (arith, times≤ b, times_in_tiles-at b s.tiles t)

  pub free_apart : (t b : ℕ) → 0 < times b s.free → times b (tile_of s t).blocks ≡ 0
  free_apart t b h = omega (arith, times≤ b, times_in_tiles-at b s.tiles t)

  -- a block is free, or stands in a tile's chain
  pub where_is : (b : ℕ) → b < N → (0 < times b s.free) ⊎ ((t : ℕ) × (t < T) × (0 < times b (tile_of s t).blocks))
  where_is b hb =
      ⊎_elim
      (λ (z : times b s.free ≡ 0).
      let r = in_some_tile b s.tiles (omega (arith, R.once b hb)) in
      let ht : r.0 < T = omega (arith, r.1, R.tiled) in inr (r.0, ht, r.2))
      (λ (z : 0 < times b s.free). inl z)
      (eq-zero-or-pos (times b s.free))

-- ---- changes

-- a list of tiles with one changed
pub tiles-set : (P : ℕ → Chained → Type 0) (l : List Chained) (t : ℕ) (x : Chained) → t < length l → P t x
    → ((u : ℕ) → u < length l → u ≢ t → P u (get_or l u empty)) → (u : ℕ) → u < length l → P u (get_or (set l t x) u empty)
tiles-set P l t x h px po u hu =
    ⊎_elim (λ (e : u ≡ t). subst (λ (v : ℕ). P v (get_or (set l t x) v empty)) (sym e) (rw (get_or-set_same l t x empty h) px))
    (λ (ne : u ≢ t). rw (get_or-set_other l t u x empty ne) (po u hu ne))
    (eq_or_ne u t)

-- ids in range, and one more
pub in_range_snoc : (limit : ℕ) (list : List ℕ) (id : ℕ) → ((i : ℕ) → i < length list → get_or list i 0 < limit) → id < limit
    → (i : ℕ) → i < length (list ++ (id ∷ [])) → get_or (list ++ (id ∷ [])) i 0 < limit
in_range_snoc limit list id h hid i hi =
    ⊎_elim (λ (e : i ≡ length list). rw (e, get_or_snoc_same list id 0) hid)
    (λ (ne : i ≢ length list). rw (get_or_snoc_other list id 0 i ne) (h i (omega (arith, length-append list (id ∷ [])))))
    (eq_or_ne i (length list))

-- a tile whose words and whose blocks' words stay
pub tile_frame : {L : Layout} {T N : ℕ} {p q : List ℕ} {u : ℕ} {y : Chained} → Fair L → ((i : ℕ) → i < L.tile → tile_word L q u i ≡ tile_word L p u i)
    → ((b : ℕ) → 0 < times b y.blocks → Same L.ids (block_word L T p) (block_word L T q) b) → TileShows L T N p u y → TileShows L T N q u y
tile_frame {L} {T} {N} {p} {q} {u} {y} A w s k = record {
  entries = w 0 (omega (arith, A.tile>)) ∙ k.entries;
  first = w 1 (omega (arith, A.tile>)) ∙ k.first;
  last = w 2 (omega (arith, A.tile>)) ∙ k.last;
  many = k.many;
  in_range = k.in_range;
  held = frame L.ids L.poison (block_word L T p) (block_word L T q) y.blocks y.list s k.held;
  mark = w 3 A.tile> ∙ k.mark;
  mark≥ = k.mark≥;
  mark≤ = k.mark≤;
}

-- one tile and the free chain say something else, and blocks only moved between the two
pub shows_set : {L : Layout} {T N : ℕ} {p : List ℕ} {s : State} (R : Shows L T N p s) (q : List ℕ) (t : ℕ) (x : Chained) (free : List ℕ) → t < T
    → header_word q 4 ≡ length free → header_word q 5 ≡ link_to free → Holds L.ids L.poison (block_word L T q) free [] → TileShows L T N q t x
    → ((u : ℕ) → u < T → u ≢ t → TileShows L T N q u (tile_of s u))
    → ((b : ℕ) → times b free + times b x.blocks ≡ times b s.free + times b (tile_of s t).blocks)
    → Shows L T N q (record { free = free; tiles = set s.tiles t x })
shows_set {L} {T} {N} {p} {s} R q t x free ht h4 h5 poisoned shown others moved =
    let ht' : t < length s.tiles = omega (arith, R.tiled) in
    record {
      count = h4;
      first = h5;
      poisoned = poisoned;
      tiled = length-set s.tiles t x ∙ R.tiled;
      tile = λ u hu. tiles-set (TileShows L T N q) s.tiles t x ht' shown (λ v hv. others v (omega (arith, R.tiled))) u (omega (arith, R.tiled));
      once = λ b hb. omega (arith, times_in_tiles-set b s.tiles t x ht', moved b, R.once b hb);
      none = λ b hb. omega (arith, times_in_tiles-set b s.tiles t x ht', moved b, R.none b hb);
    }
