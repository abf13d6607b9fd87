-- A slice that has the words of another up to the room of a pool says the same, and is sound if the other is and it is long enough. Two openings of one
-- screen with as many blocks have the same words there.
use mathlib.Core.Path.{◌≡◌, sym, subst, ◌∙◌}
use mathlib.Core.List.{List, [], ◌++◌, append_assoc}
use Prim.Native.Nat.{ℕ, suc, ◌*◌, ◌≤◌, ◌<◌}
use native.Mathlib.Omega.{arith}
use lib.ListN.{length, get_or, replicate, length-append, length-replicate, get_or-append}
use Rattle.screen.specs.declared.Screen.{Screen}
use Rattle.screen.specs.Screen.{Allowed, tiles}
use Rattle.pool.specs.Words.{Layout, layout_of, Fair, start, room, header_word, tile_word, block_word}
use Rattle.pool.specs.State.{State}
use Rattle.pool.specs.Sound.{screen_of, tiles_of, blocks_of, Shows, Sound}
use Rattle.pool.specs.Opening.{header_for, free_blocks, opening}
use Rattle.pool.proofs.Words.{row_within, header≤start, start≤room}
use Rattle.pool.proofs.Chain.{frame}
use Rattle.pool.proofs.State.{tile_block<, free_block<, tile_frame}
use Rattle.pool.proofs.Written.{length-free_blocks}
use Rattle.pool.proofs.Editions.{same_layout}

-- q has the words of p in the room of T tiles and N blocks
pub record Agree (L : Layout) (T N : ℕ) (p q : List ℕ) : Type 0 where
  pub words : (i : ℕ) → i < room L T N → get_or q i 0 ≡ get_or p i 0

module _ {L : Layout} {T N : ℕ} {p q : List ℕ} (W : Agree L T N p q) where
  pub header_agrees : (k : ℕ) → k < L.header → header_word q k ≡ header_word p k
  unfolding header_word
  header_agrees k hk = W.words k (omega (arith, header≤start L T, start≤room L T N))

  pub tile_agrees : (t i : ℕ) → t < T → i < L.tile → tile_word L q t i ≡ tile_word L p t i
  unfolding tile_word start
  tile_agrees t i ht hi = W.words _ (omega (arith, row_within L.tile hi ht, start≤room L T N))

  pub block_agrees : (b k : ℕ) → b < N → k ≤ L.ids → block_word L T q b k ≡ block_word L T p b k
  unfolding block_word room
  block_agrees b k hb hk =
      let hk' : k < suc L.ids = omega arith in
      W.words _ (omega (arith, row_within (suc L.ids) hk' hb))

  -- every word that a state is read from lies in the room
  pub agree_shows : {s : State} → Fair L → Shows L T N p s → Shows L T N q s
  agree_shows {s} A R = record {
    count = header_agrees 4 (omega (arith, A.header>)) ∙ R.count;
    first = header_agrees 5 (omega (arith, A.header>)) ∙ R.first;
    poisoned = frame L.ids L.poison (block_word L T p) (block_word L T q) s.free [] (λ b hb k. block_agrees b k (free_block< R b hb)) R.poisoned;
    tiled = R.tiled;
    tile = λ t ht. tile_frame A (λ i. tile_agrees t i ht) (λ b hb k. block_agrees b k (tile_block< R t b hb)) (R.tile t ht);
    once = R.once;
    none = R.none;
  }

-- so it says the same layout
pub agree_layout : {T N : ℕ} {p q : List ℕ} → Agree (layout_of p) T N p q → layout_of q ≡ layout_of p
agree_layout {p = p} {q = q} W = same_layout p q (header_agrees W)

-- ---- the room that the header of p says

module _ {L : Layout} {p q : List ℕ} (A : Fair L) (W : Agree L (tiles_of p) (blocks_of p) p q) where
  at : (k : ℕ) → k ≤ 7 → header_word q k ≡ header_word p k
  at k h = header_agrees W k (omega (arith, A.header>))

  pub agree_screen : screen_of q ≡ screen_of p
  agree_screen = λ i. record { width = at 0 (omega arith) i; height = at 1 (omega arith) i; s = at 2 (omega arith) i }

  pub agree_tiles : tiles_of q ≡ tiles_of p
  agree_tiles = λ i. tiles (agree_screen i)

  pub agree_blocks : blocks_of q ≡ blocks_of p
  agree_blocks = at 3 (omega arith)

  pub agree_room : room L (tiles_of q) (blocks_of q) ≡ room L (tiles_of p) (blocks_of p)
  agree_room = λ i. room L (agree_tiles i) (agree_blocks i)

  pub agree_sound : room L (tiles_of p) (blocks_of p) ≤ length q → Sound L p → Sound L q
  agree_sound long S = record {
    opened = record {
      screen = subst Allowed (sym agree_screen) S.opened.screen;
      blocks≤ = rw agree_blocks S.opened.blocks≤;
      table_at = at 6 (omega arith) ∙ S.opened.table_at;
      blocks_at = at 7 (omega arith) ∙ S.opened.blocks_at ∙ (λ i. start L (sym agree_tiles i));
      size_at = λ h. header_agrees W 8 h ∙ S.opened.size_at h;
      zero_at = λ h. header_agrees W 9 h ∙ S.opened.zero_at h;
      long = rw agree_room long;
    };
    state = S.state;
    shows = subst (λ (T : ℕ). Shows L T (blocks_of q) q S.state) (sym agree_tiles)
        (subst (λ (N : ℕ). Shows L (tiles_of p) N q S.state) (sym agree_blocks) (agree_shows W A S.shows));
  }

-- ---- openings

module _ (L : Layout) (d : Screen) (N : ℕ) (fits : length (header_for L d N) ≡ L.header) where
  -- what an opening writes does not depend on what was there
  opening_word : (p : List ℕ) (i : ℕ) → i < room L (tiles d) N
      → get_or (opening L d N p) i 0 ≡ get_or (header_for L d N ++ (replicate (L.tile * tiles d) 0 ++ free_blocks L 0 N)) i 0
  unfolding opening room start
  opening_word p i h =
      let hs = header_for L d N in
      let zs : List ℕ = replicate (L.tile * tiles d) 0 in
      let bs : List ℕ = free_blocks L 0 N in
      rw (← append_assoc zs bs, ← append_assoc hs (zs ++ bs))
      (get_or-append (hs ++ (zs ++ bs)) _ 0 i (simp (length-append, length-replicate, length-free_blocks L, fits) (omega arith)))

  pub opening_agrees : (p q : List ℕ) → Agree L (tiles d) N (opening L d N p) (opening L d N q)
  opening_agrees p q = record { words = λ i h. opening_word q i h ∙ sym (opening_word p i h) }
