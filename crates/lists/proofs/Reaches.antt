-- What a sound pool says of the numbers that the functions compute with: the words that they name lie in the pool, and what they count fits a word.
use mathlib.Core.Path.{◌≡◌, sym, ap, ◌∙◌, subst}
use mathlib.Core.Logic.{◌≢◌}
use mathlib.Core.List.{List, [], ◌∷◌}
use Prim.Native.Nat.{ℕ, suc, ◌+◌, ◌-◌, ◌%◌, ◌*◌, ◌^◌, ◌≤◌, ◌<◌}
use native.Mathlib.Nat.{mul-le-mul_left, zero-mod}
use native.Mathlib.Omega.{arith}
use borrow.Author.Tests.{eq-eqb}
use lib.ListN.{length}
use Rattle.numbers.specs.Sum.{one}
use Rattle.pool.specs.Words.{Layout, start, room, header_word, tile_word}
use Rattle.pool.specs.State.{tile_of, link_to, last_link, times}
use Rattle.pool.specs.Sound.{Shows, Sound, tiles_of, blocks_of}
use Rattle.pool.specs.Lists.{list_of}
use Rattle.pool.proofs.Words.{row_within, header≤start, start≤room}
use Rattle.pool.proofs.Times.{one_same, times-append}
use Rattle.pool.proofs.Parts.{ceil_some}
use Rattle.pool.proofs.Chain.{uncons, unsnoc, last_link_snoc}
use Rattle.pool.proofs.Lists.{list_of_shows}
use Rattle.pool.proofs.State.{tile_block<, free_block<}
use Rattle.pool.proofs.Total.{entries≤}
use Rattle.lists.specs.Appending.{need}
use Rattle.lists.specs.Reach.{TileIn, BlockIn, Among, Roomy, Takeable}

-- the words of n blocks lie in a pool that has the room
pub block_in : (L : Layout) (T N : ℕ) (p : List ℕ) (b k : ℕ) → room L T N ≤ length p → b < N → k ≤ L.ids → BlockIn L T p b k
unfolding room
block_in L T N p b k long hb hk = let h : k < suc L.ids = omega arith in omega (arith, row_within (suc L.ids) h hb)

-- with the link of a block, its other words lie in the pool
pub block_reach : (L : Layout) (T : ℕ) (p : List ℕ) (b k : ℕ) → BlockIn L T p b L.ids → k ≤ L.ids → BlockIn L T p b k
block_reach L T p b k h l = omega arith

-- the header lies in a sound pool
pub header_in : {L : Layout} {p : List ℕ} → Sound L p → L.header ≤ length p
header_in {L} {p} S = omega (arith, header≤start L (tiles_of p), start≤room L (tiles_of p) (blocks_of p), S.opened.long)

module _ {L : Layout} {p : List ℕ} {T t : ℕ} (G : Among L p T t) where
  pub shown : Shows L T (blocks_of p) p G.sound.state
  shown = subst (λ (n : ℕ). Shows L n (blocks_of p) p G.sound.state) (sym G.tiles) G.sound.shows

  pub roomed : room L T (blocks_of p) ≤ length p
  roomed = subst (λ (n : ℕ). room L n (blocks_of p) ≤ length p) (sym G.tiles) G.sound.opened.long

  pub tile_in : {i : ℕ} → i < L.tile → TileIn L p t i
  unfolding start
  tile_in {i} hi = omega (arith, row_within L.tile hi G.tile, start≤room L T (blocks_of p), roomed)

  pub entries_fit : tile_word L p t 0 + 1 < 2 ^ 32
  entries_fit =
      let w : L.ids * blocks_of p ≤ L.ids * 2048 = mul-le-mul_left L.ids G.sound.opened.blocks≤ in
      omega (arith, (shown.tile t G.tile).entries, entries≤ shown G.sized.fair t G.tile, G.sized.ids≤)

  pub entries_list : length (list_of L T p t) ≡ tile_word L p t 0
  entries_list = ap length (list_of_shows G.sized.fair shown t G.tile) ∙ sym (shown.tile t G.tile).entries

  -- a tile with entries has a last block
  pub last_reach : tile_word L p t 0 ≢ 0 → (0 < tile_word L p t 2) × BlockIn L T p (tile_word L p t 2 - 1) L.ids
  last_reach nz =
      let R = shown in
      let k = R.tile t G.tile in
      let x = tile_of G.sound.state t in
      let nb : 0 < length x.blocks = rw k.many (ceil_some L.ids G.sized.fair.ids> (length x.list) (λ z. nz (k.entries ∙ z))) in
      let v = unsnoc x.blocks nb in
      let l = v.1 in
      let e : tile_word L p t 2 ≡ suc l = k.last ∙ ap (last_link 0) v.2 ∙ last_link_snoc 0 v.0 l in
      let e' : tile_word L p t 2 - 1 ≡ l = omega arith in
      let lin : 0 < times l x.blocks = omega (arith, ap (times l) v.2, times-append l v.0 (l ∷ []), one_same l) in
      (omega arith, rw e' (block_in L T (blocks_of p) p l _ roomed (tile_block< R t l lin) (omega arith)))

  pub roomy : tile_word L p t 0 % L.ids ≢ 0 → Roomy L p T t
  roomy nz =
      let r = last_reach (λ z. nz (ap (λ (n : ℕ). n % L.ids) z ∙ zero-mod L.ids)) in
      record { sized = G.sized; tile = tile_in G.sized.fair.tile>; last = r.0; block = r.1; fits = entries_fit }

  -- the head of the free chain, where the tile takes it
  pub takeable : need L p (t ∷ []) ≤ header_word p 4 → tile_word L p t 0 % L.ids ≡ 0
      → (0 < header_word p 5) × Takeable L p T t (header_word p 5 - 1)
  unfolding need
  takeable enough z =
      let R = shown in
      let s = G.sound.state in
      let some : 0 < header_word p 4 = omega (arith, ap one (eq-eqb (tile_word L p t 0 % L.ids) 0 z)) in
      let u = uncons s.free (omega (arith, R.count)) in
      let b = u.0 in
      let e : header_word p 5 ≡ suc b = R.first ∙ ap link_to u.2 in
      let e' : header_word p 5 - 1 ≡ b = omega arith in
      let hb : b < blocks_of p = free_block< R b (omega (arith, ap (times b) u.2, one_same b)) in (
        omega arith,
        rw e' (record {
          sized = G.sized;
          tile = tile_in G.sized.fair.tile>;
          block = block_in L T (blocks_of p) p b _ roomed hb (omega arith);
          free = some;
          number = omega (arith, G.sound.opened.blocks≤);
          fits = entries_fit;
        }),
      )
