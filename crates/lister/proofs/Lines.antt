-- The lines of a listing: one more, and how long they are at most.
use mathlib.Core.Path.{◌≡◌, refl, ap}
use mathlib.Core.Bool.{Bool, true, false, cond}
use mathlib.Core.Logic.{⊎_elim}
use mathlib.Core.List.{List, [], ◌∷◌, ◌++◌, append-nil}
use Prim.Native.Nat.{ℕ, zero, suc, ◌+◌, ◌*◌, ◌^◌, ◌≤◌, ◌<◌}
use native.Mathlib.Nat.{not-suc-le-zero, mul-le-mul_left, mul-le-mul_right}
use native.Mathlib.Numerals.{add-one}
use native.Mathlib.Omega.{arith}
use lib.ListN.{length, get_or, drop, length-append}
use lib.Pow.{pow_mono}
use lib.Seq.{drop-cons}
use Rattle.numbers.specs.Flag.{plain, is_flagged}
use Rattle.numbers.proofs.Ceil.{lt_or_ge}
use Rattle.pool.specs.Words.{layout_of, room, start, header_word}
use Rattle.pool.specs.State.{empty, tile_of}
use Rattle.pool.specs.Sound.{Sound, tiles_of, blocks_of}
use Rattle.pool.specs.Lists.{list_of}
use Rattle.pool.proofs.Editions.{layout_known, layout_fair, known_sized}
use Rattle.pool.proofs.Lists.{list_of_tile, blocks_enough}
use Rattle.pool.proofs.Total.{blocks_in_tiles, blocks_total, free≤, entries≤}
use Rattle.lister.specs.Text.{field}
use Rattle.lister.specs.Listing.{space, star, screen_name, side_name, blocks_name, free_name, tile_name, screen_line, entry_text, entries_text, line_of, tile_line, tile_lines, listing}
use Rattle.lister.proofs.Numerals.{field≤}

-- ---- one entry, by its flag

module _ (entry : ℕ) where
  pub entry_text-flagged : is_flagged entry ≡ true → entry_text entry ≡ field space (plain entry) ++ star
  unfolding entry_text
  entry_text-flagged e = rw e

  pub entry_text-plain : is_flagged entry ≡ false → entry_text entry ≡ field space (plain entry)
  unfolding entry_text
  entry_text-plain e = rw e (append-nil (field space (plain entry)))

-- ---- one more entry, and one more tile

pub entries_text-next : (entries : List ℕ) (k : ℕ) → k < length entries
    → entries_text (drop k entries) ≡ entry_text (get_or entries k 0) ++ entries_text (drop (k + 1) entries)
entries_text-next entries k h = rw (add-one k) (ap entries_text (drop-cons entries k 0 h))

-- a tile with entries has its line
pub tile_line_some : (t : ℕ) (list : List ℕ) → 0 < length list → tile_line t list ≡ line_of t list
tile_line_some t [] h = absurd (not-suc-le-zero h)
tile_line_some t (entry ∷ entries) h = refl

pub tile_lines-next : (p : List ℕ) (t : ℕ) → tile_lines p (t + 1) ≡ tile_lines p t ++ tile_line t (list_of (layout_of p) (tiles_of p) p t)
tile_lines-next p t = rw (add-one t)

pub tile_lines_grow : (p : List ℕ) (t n : ℕ) → t < n → length (tile_lines p t) + length (tile_line t (list_of (layout_of p) (tiles_of p) p t)) ≤ length (tile_lines p n)
tile_lines_grow p t zero h = absurd (not-suc-le-zero h)
tile_lines_grow p t (suc n) h =
    let whole = length-append (tile_lines p n) (tile_line n (list_of (layout_of p) (tiles_of p) p n)) in
    ⊎_elim (λ (l : t < n). omega (arith, tile_lines_grow p t n l))
    (λ (l : n ≤ t). let e : t ≡ n = omega arith in rw e (omega arith))
    (lt_or_ge t n)

-- ---- how long they are at most: 47 bytes for the screen, 11 for each tile and 10 for each entry

screen_line≤ : (width height side blocks free : ℕ) → width ≤ 4096 → height ≤ 4096 → side ≤ 64 → blocks ≤ 2048 → free ≤ 2048
    → length (screen_line width height side blocks free) ≤ 47
unfolding screen_line
screen_line≤ width height side blocks free hw hh hs hb hf =
    let w : length (field screen_name width) ≤ 11 = field≤ screen_name 3 width (omega arith) in
    let h : length (field space height) ≤ 5 = field≤ space 3 height (omega arith) in
    let s : length (field side_name side) ≤ 8 = field≤ side_name 1 side (omega arith) in
    let b : length (field blocks_name blocks) ≤ 12 = field≤ blocks_name 3 blocks (omega arith) in
    let f : length (field free_name free) ≤ 10 = field≤ free_name 3 free (omega arith) in
    simp length-append (omega arith)

entry_text≤ : (entry : ℕ) → length (entry_text entry) ≤ 10
unfolding entry_text
entry_text≤ entry =
    let id : length (field space (plain entry)) ≤ 9 = field≤ space 7 (plain entry) (omega arith) in
    omega (arith, length-append (field space (plain entry)) (cond (is_flagged entry) star []), flag≤ (is_flagged entry))
  where
    flag≤ : (b : Bool) → length (cond b star []) ≤ 1
    flag≤ true = omega arith
    flag≤ false = omega arith

entries_text≤ : (entries : List ℕ) → length (entries_text entries) ≤ 10 * length entries
entries_text≤ [] = omega arith
entries_text≤ (entry ∷ entries) = omega (arith, entry_text≤ entry, entries_text≤ entries, length-append (entry_text entry) (entries_text entries))

tile_line≤ : (t : ℕ) (list : List ℕ) → t < 4096 → length (tile_line t list) ≤ 10 * length list + 11
unfolding line_of
tile_line≤ t [] ht = omega arith
tile_line≤ t (entry ∷ entries) ht =
    let a : length (field tile_name t) ≤ 9 = field≤ tile_name 3 t (omega arith) in
    let b = entries_text≤ (entry ∷ entries) in
    simp length-append (omega (arith, length-append (entry_text entry) (entries_text entries)))

module _ (p : List ℕ) (S : Sound (layout_of p) p) where
  -- the entries of so many blocks, at most
  abbrev entries : (blocks : ℕ) → ℕ
  entries blocks = (layout_of p).ids * blocks

  -- the lines of the first tiles, with room for the entries of the others
  tile_lines≤ : (t : ℕ) → t ≤ tiles_of p → length (tile_lines p t) + 10 * entries (blocks_in_tiles (drop t S.state.tiles)) ≤ 10 * entries (blocks_of p) + 11 * t
  tile_lines≤ zero h =
      let few : blocks_in_tiles S.state.tiles ≤ blocks_of p = omega (arith, blocks_total S.shows) in
      omega (arith, mul-le-mul_left (layout_of p).ids few)
  tile_lines≤ (suc t) h =
      let k = S.shows.tile t h in
      let x = tile_of S.state t in
      let before = tile_lines≤ t (omega arith) in
      let ht : t < length S.state.tiles = omega (arith, S.shows.tiled) in
      let rest = drop (suc t) S.state.tiles in
      let more : blocks_in_tiles (drop t S.state.tiles) ≡ length x.blocks + blocks_in_tiles rest = ap blocks_in_tiles (drop-cons S.state.tiles t empty ht) in
      let line = tile_line≤ t x.list (omega (arith, S.opened.screen.tiles≤)) in
      rw (list_of_tile (layout_fair p) k)
      (omega (arith, ap entries more, blocks_enough (layout_fair p) k, length-append (tile_lines p t) (tile_line t x.list)))

  -- the longest listing of a pool of 16,384 words, of which at most 63 in 64 are entries
  pub listing≤ : length p ≤ 16384 → length (listing p) ≤ 162000
  unfolding listing room start
  listing≤ h =
      let a = S.opened.screen in
      let side : 2 ^ header_word p 2 ≤ 64 = pow_mono a.s≤ in
      let line = screen_line≤ (header_word p 0) (header_word p 1) (2 ^ header_word p 2) (blocks_of p) (header_word p 4) a.width≤ a.height≤ side S.opened.blocks≤
      (omega (arith, S.shows.count, free≤ S.shows, S.opened.blocks≤)) in
      let lines = tile_lines≤ (tiles_of p) (omega arith) in
      let long = S.opened.long in
      let tiles : 4 * tiles_of p ≤ (layout_of p).tile * tiles_of p = mul-le-mul_right (tiles_of p) (layout_fair p).tile> in
      let full : entries (blocks_of p) ≤ 63 * blocks_of p = mul-le-mul_right (blocks_of p) (known_sized (layout_known p)).ids≤ in
      omega (arith, length-append (screen_line (header_word p 0) (header_word p 1) (2 ^ header_word p 2) (blocks_of p) (header_word p 4)) (tile_lines p (tiles_of p)))

  -- a list is no longer than the pool
  pub list≤ : (t : ℕ) → t < tiles_of p → length (list_of (layout_of p) (tiles_of p) p t) ≤ length p
  unfolding room
  list≤ t ht = rw (list_of_tile (layout_fair p) (S.shows.tile t ht)) (omega (arith, entries≤ S.shows (layout_fair p) t ht, S.opened.long))
