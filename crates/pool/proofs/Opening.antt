-- What an opening leaves is sound, whatever the slice held: every tile is empty, and every block is free, in rising order.
use mathlib.Core.Path.{◌≡◌, refl, sym, ap, ◌∙◌, subst}
use mathlib.Core.List.{List, [], ◌∷◌, ◌++◌, append_assoc}
use Prim.Native.Nat.{ℕ, zero, suc, ◌+◌, ◌*◌, ◌-◌, ◌≤◌, ◌<◌, zero-le}
use native.Mathlib.Nat.{le_of_suc-le-suc, not-suc-le-zero}
use native.Mathlib.Omega.{arith}
use lib.ListN.{length, get_or, drop, length-append, length-drop, replicate, length-replicate, get_or-replicate, get_or-append}
use lib.Seq.{get_or-append-add, get_or_at, get_or-drop, get_or-take}
use Rattle.screen.specs.declared.Screen.{Screen}
use Rattle.screen.specs.Screen.{Allowed, tiles}
use Rattle.pool.specs.Words.{Layout, Known, one, two_32, two_64, Fair, start, room, header_word, tile_word, block_word}
use Rattle.pool.specs.State.{Chained, empty, link_to, times_in_tiles}
use Rattle.pool.specs.Sound.{screen_of, tiles_of, blocks_of, Opened, Shows, Sound}
use Rattle.pool.specs.Lists.{list_of}
use Rattle.pool.specs.Opening.{rising, header_rest, header_for, free_block, free_blocks, opening, opening_state}
use Rattle.pool.specs.Written.{written}
use Rattle.pool.proofs.Words.{row_within}
use Rattle.pool.proofs.Editions.{known_fair}
use Rattle.pool.proofs.Parts.{ceil_none}
use Rattle.pool.proofs.Rising.{length-rising, times-rising, times_rising_above, holds_rising}
use Rattle.pool.proofs.Lists.{list_of_shows}
use Rattle.pool.proofs.Written.{written-append, written_is, length-free_block, length-free_blocks}

pub times_in_tiles-empty : (b T : ℕ) → times_in_tiles b (replicate T empty) ≡ 0
times_in_tiles-empty b zero = refl
times_in_tiles-empty b (suc T) = omega (arith, times_in_tiles-empty b T)

-- ---- the words of free blocks

module _ (L : Layout) where
  pub get_or-free_blocks : (c n b k : ℕ) → b < n → k ≤ L.ids
      → get_or (free_blocks L c n) (suc L.ids * b + k) 0 ≡ get_or (free_block L (c + b) (n - suc b)) k 0
  get_or-free_blocks c zero b k hb hk = absurd (not-suc-le-zero hb)
  get_or-free_blocks c (suc n) zero k hb hk =
      let e1 : suc L.ids * 0 + k ≡ k = omega arith in
      let e2 : c + 0 ≡ c = omega arith in
      let e3 : suc n - 1 ≡ n = omega arith in
      rw (e1, e2, e3) (get_or-append (free_block L c n) (free_blocks L (suc c) n) 0 k (rw length-free_block (omega arith)))
  get_or-free_blocks c (suc n) (suc b) k hb hk =
      let e1 : suc L.ids * suc b + k ≡ length (free_block L c n) + (suc L.ids * b + k) = omega (arith, length-free_block L c n) in
      let e2 : c + suc b ≡ suc c + b = omega arith in
      let e3 : suc n - suc (suc b) ≡ n - suc b = omega arith in
      rw (e1, e2, e3)
      (get_or-append-add (free_block L c n) (free_blocks L (suc c) n) (suc L.ids * b + k) 0 ∙ get_or-free_blocks (suc c) n b k (le_of_suc-le-suc hb) hk)

  pub free_block_place : (b n k : ℕ) → k < L.ids → get_or (free_block L b n) k 0 ≡ L.poison
  unfolding free_block
  free_block_place b n k h =
      get_or-append (replicate L.ids L.poison) _ 0 k (rw length-replicate h) ∙ get_or-replicate L.ids k L.poison 0 h

  pub free_block_link : (b n : ℕ) → get_or (free_block L b n) L.ids 0 ≡ link_to (rising (suc b) n)
  unfolding free_block
  free_block_link b n = get_or_at (replicate L.ids L.poison) _ [] 0 L.ids (length-replicate L.ids L.poison)

  -- ---- the words that an opening leaves

  module _ (d : Screen) (N : ℕ) (p : List ℕ) (fits : length (header_for L d N) ≡ L.header) where
    pub opening-length : room L (tiles d) N ≤ length p → length (opening L d N p) ≡ length p
    unfolding opening room start
    opening-length h = simp (length-append, length-replicate, length-free_blocks, length-drop, fits) (omega arith)

    pub opening_header : (k : ℕ) → k < L.header → header_word (opening L d N p) k ≡ get_or (header_for L d N) k 0
    unfolding opening header_word
    opening_header k h = get_or-append (header_for L d N) _ 0 k (rw fits h)

    pub opening_tile : (t i : ℕ) → t < tiles d → i < L.tile → tile_word L (opening L d N p) t i ≡ 0
    unfolding opening tile_word
    opening_tile t i ht hi =
        let lt = row_within L.tile hi ht in
        let e : L.header + L.tile * t + i ≡ length (header_for L d N) + (L.tile * t + i) = omega arith in
        rw e
        (get_or-append-add (header_for L d N) _ (L.tile * t + i) 0
        ∙ get_or-append (replicate (L.tile * tiles d) 0) _ 0 (L.tile * t + i) (rw length-replicate lt)
        ∙ get_or-replicate (L.tile * tiles d) (L.tile * t + i) 0 0 lt)

    opening_block : (b k : ℕ) → b < N → k ≤ L.ids → block_word L (tiles d) (opening L d N p) b k ≡ get_or (free_block L b (N - suc b)) k 0
    unfolding opening block_word start
    opening_block b k hb hk =
        let hk' : k < suc L.ids = omega arith in
        let lt = row_within (suc L.ids) hk' hb in
        let zs : List ℕ = replicate (L.tile * tiles d) 0 in
        let lz : length zs ≡ L.tile * tiles d = length-replicate (L.tile * tiles d) 0 in
        let e : L.header + L.tile * tiles d + suc L.ids * b + k ≡ length (header_for L d N) + (length zs + (suc L.ids * b + k)) = omega arith in
        let z : 0 + b ≡ b = omega arith in
        rw e
        (get_or-append-add (header_for L d N) _ (length zs + (suc L.ids * b + k)) 0
        ∙ get_or-append-add zs _ (suc L.ids * b + k) 0
        ∙ get_or-append (free_blocks L 0 N) _ 0 (suc L.ids * b + k) (rw length-free_blocks lt)
        ∙ rw z at (get_or-free_blocks 0 N b k hb hk))

    pub opening_place : (b k : ℕ) → b < N → k < L.ids → block_word L (tiles d) (opening L d N p) b k ≡ L.poison
    opening_place b k hb hk = opening_block b k hb (omega arith) ∙ free_block_place b (N - suc b) k hk

    pub opening_link : (b : ℕ) → b < N → block_word L (tiles d) (opening L d N p) b L.ids ≡ link_to (rising (suc b) (N - suc b))
    opening_link b hb = opening_block b L.ids hb (omega arith) ∙ free_block_link b (N - suc b)

    -- the tail is as it was
    pub opening-tail : (i : ℕ) → room L (tiles d) N ≤ i → get_or (opening L d N p) i 0 ≡ get_or p i 0
    unfolding opening room start
    opening-tail i h =
        let hs = header_for L d N in
        let zs : List ℕ = replicate (L.tile * tiles d) 0 in
        let lz : length zs ≡ L.tile * tiles d = length-replicate (L.tile * tiles d) 0 in
        let bs : List ℕ = free_blocks L 0 N in
        let lb : length bs ≡ suc L.ids * N = length-free_blocks L 0 N in
        let from = L.header + L.tile * tiles d + suc L.ids * N in
        let e : i ≡ length hs + (length zs + (length bs + (i - from))) = omega arith in
        let z : from + (i - from) ≡ i = omega arith in
        ap (λ (j : ℕ). get_or (hs ++ (zs ++ (bs ++ drop from p))) j 0) e
        ∙ get_or-append-add hs _ (length zs + (length bs + (i - from))) 0
        ∙ get_or-append-add zs _ (length bs + (i - from)) 0
        ∙ get_or-append-add bs (drop from p) (i - from) 0
        ∙ rw z at (get_or-drop from p (i - from) 0)

    -- header, tiles and blocks, written one after the other
    opening-written : room L (tiles d) N ≤ length p
        → written (written (written p 0 (header_for L d N)) L.header (replicate (L.tile * tiles d) 0)) (start L (tiles d)) (free_blocks L 0 N)
        ≡ opening L d N p
    unfolding opening room start
    opening-written long =
        let hs = header_for L d N in
        let zs : List ℕ = replicate (L.tile * tiles d) 0 in
        let lz : length zs ≡ L.tile * tiles d = length-replicate (L.tile * tiles d) 0 in
        let bs : List ℕ = free_blocks L 0 N in
        let lb : length bs ≡ suc L.ids * N = length-free_blocks L 0 N in
        let from = L.header + L.tile * tiles d + suc L.ids * N in
        let e1 : 0 + length hs ≡ L.header = omega arith in
        let e2 : L.header + length zs ≡ L.header + L.tile * tiles d = omega arith in
        let e3 : 0 + length (hs ++ (zs ++ bs)) ≡ from = simp length-append (omega arith) in
        let w1 : written p 0 (hs ++ (zs ++ bs)) ≡ written (written p 0 hs) L.header (zs ++ bs) = rw e1 at (written-append p 0 hs (zs ++ bs)) in
        let w2 : written (written p 0 hs) L.header (zs ++ bs) ≡ written (written (written p 0 hs) L.header zs) (L.header + L.tile * tiles d) bs
        = rw e2 at (written-append (written p 0 hs) L.header zs bs) in
        let w3 : written p 0 (hs ++ (zs ++ bs)) ≡ (hs ++ (zs ++ bs)) ++ drop from p
        = rw e3 at (written_is p 0 (hs ++ (zs ++ bs)) (rw e3 long)) in
        sym w2 ∙ sym w1 ∙ w3 ∙ append_assoc hs (zs ++ bs) (drop from p) ∙ ap (λ (l : List ℕ). hs ++ l) (append_assoc zs bs (drop from p))

    pub opening_steps : (q₁ q₂ q₃ : List ℕ) (count from : ℕ) → room L (tiles d) N ≤ length p → count ≡ tiles d → from ≡ start L (tiles d)
        → q₁ ≡ written p 0 (header_for L d N) → q₂ ≡ written q₁ L.header (replicate (L.tile * count) 0) → q₃ ≡ written q₂ from (free_blocks L 0 N)
        → q₃ ≡ opening L d N p
    opening_steps q₁ q₂ q₃ count from long ec ef e₁ e₂ e₃ = rw (e₃, e₂, e₁, ec, ef) (opening-written long)

    -- ---- what they say

    module _ (A : Fair L) where
      at : (k : ℕ) → k ≤ 7 → header_word (opening L d N p) k ≡ get_or (header_for L d N) k 0
      at k h = opening_header k (omega (arith, A.header>))

      -- a word of the header after the eighth
      rest_at : (k : ℕ) → k < 2 → k < L.header - 8 → get_or (header_rest L) k 0 ≡ get_or (suc L.ids ∷ 0 ∷ []) k 0
      rest_at k h l = get_or-take (L.header - 8) (suc L.ids ∷ 0 ∷ []) k 0 l

      pub opening-screen : screen_of (opening L d N p) ≡ d
      unfolding header_for
      opening-screen = λ i. record { width = at 0 (omega arith) i; height = at 1 (omega arith) i; s = at 2 (omega arith) i }

      pub opening-tiles : tiles_of (opening L d N p) ≡ tiles d
      opening-tiles = λ i. tiles (opening-screen i)

      pub opening_blocks : blocks_of (opening L d N p) ≡ N
      unfolding header_for
      opening_blocks = at 3 (omega arith)

      -- all blocks are free
      pub opening_free : header_word (opening L d N p) 4 ≡ N
      unfolding header_for
      opening_free = at 4 (omega arith)

      pub opening_opened : Allowed d → N ≤ 2048 → room L (tiles d) N ≤ length p → Opened L (opening L d N p)
      unfolding header_for
      opening_opened allowed few long = record {
        screen = subst Allowed (sym opening-screen) allowed;
        blocks≤ = rw opening_blocks few;
        table_at = at 6 (omega arith);
        blocks_at = at 7 (omega arith) ∙ (λ i. start L (sym opening-tiles i));
        size_at = λ h. opening_header 8 h ∙ rest_at 0 (omega arith) (omega arith);
        zero_at = λ h. opening_header 9 h ∙ rest_at 1 (omega arith) (omega arith);
        long = subst (λ (n : ℕ). n ≤ length (opening L d N p)) (λ i. room L (sym opening-tiles i) (sym opening_blocks i)) (rw (opening-length long) long);
      }

      pub opening_shows : Shows L (tiles d) N (opening L d N p) (opening_state (tiles d) N)
      unfolding header_for
      opening_shows = record {
        count = opening_free ∙ sym (length-rising 0 N);
        first = at 5 (omega arith);
        poisoned = holds_rising L.ids L.poison (block_word L (tiles d) (opening L d N p)) N N 0 (omega arith) (λ b _. opening_link b) (λ b _ hb k. opening_place b k hb);
        tiled = length-replicate (tiles d) empty;
        tile = λ t ht. rw (get_or-replicate (tiles d) t empty empty ht)
            (record {
              entries = opening_tile t 0 ht (omega (arith, A.tile>));
              first = opening_tile t 1 ht (omega (arith, A.tile>));
              last = opening_tile t 2 ht (omega (arith, A.tile>));
              many = sym (ceil_none L.ids A.ids>);
              in_range = λ i hi. absurd (not-suc-le-zero hi);
              held = tt;
              mark = opening_tile t 3 ht A.tile>;
              mark≥ = zero-le;
              mark≤ = zero-le;
            });
        once = λ b hb. omega (arith, times-rising b 0 N zero-le (omega arith), times_in_tiles-empty b (tiles d));
        none = λ b hb. omega (arith, times_rising_above b 0 N (omega arith), times_in_tiles-empty b (tiles d));
      }

      pub opening_lists_empty : (t : ℕ) → t < tiles d → list_of L (tiles d) (opening L d N p) t ≡ []
      opening_lists_empty t ht = list_of_shows A opening_shows t ht ∙ ap (λ (x : Chained). x.list) (get_or-replicate (tiles d) t empty empty ht)

      pub opening_sound : Allowed d → N ≤ 2048 → room L (tiles d) N ≤ length p → Sound L (opening L d N p)
      opening_sound allowed few long = record {
        opened = opening_opened allowed few long;
        state = opening_state (tiles d) N;
        shows = subst (λ (T : ℕ). Shows L T (blocks_of (opening L d N p)) (opening L d N p) (opening_state (tiles d) N)) (sym opening-tiles)
            (subst (λ (M : ℕ). Shows L (tiles d) M (opening L d N p) (opening_state (tiles d) N)) (sym opening_blocks) opening_shows);
      }

-- ---- in a layout that there is

pub header_fits : {L : Layout} → Known L → (d : Screen) (N : ℕ) → length (header_for L d N) ≡ L.header
unfolding header_for
header_fits one d N = refl
header_fits two_32 d N = refl
header_fits two_64 d N = refl

pub open_sound : {L : Layout} (k : Known L) (d : Screen) (N : ℕ) (p : List ℕ) → Allowed d → N ≤ 2048 → room L (tiles d) N ≤ length p
    → Sound L (opening L d N p)
open_sound {L} k d N p = opening_sound L d N p (header_fits k d N) (known_fair k)
