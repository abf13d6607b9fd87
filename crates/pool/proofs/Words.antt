-- What a word is after another, or the same, was set, for the three kinds of word.
use mathlib.Core.Path.{◌≡◌}
use mathlib.Core.Logic.{◌≢◌, ⊎_elim}
use mathlib.Core.List.{List}
use Prim.Native.Nat.{ℕ, suc, ◌+◌, ◌*◌, ◌≤◌, ◌<◌}
use native.Mathlib.Nat.{mul-le-mul_left}
use native.Mathlib.Omega.{arith}
use lib.ListN.{length, length-set}
use lib.Seq.{get_or-set_same, get_or-set_other}
use Rattle.numbers.proofs.Ceil.{lt_or_ge}
use Rattle.pool.specs.Words.{Layout, edition, second, Fair, start, room, header_word, tile_word, block_word, header_set, tile_set, block_set}

pub edition_fair : Fair edition
edition_fair = omega arith

pub second_fair : (words : ℕ) → 1 < words → Fair (second words)
second_fair words h = omega arith

-- two places in a table of rows of w words are one only if row and column are
pub row_differs : (w : ℕ) {r s i j : ℕ} → i < w → j < w → r ≢ s → w * r + i ≢ w * s + j
row_differs w {r} {s} {i} {j} hi hj ne =
    ⊎_elim (λ (l : r < s). let h : w * suc r ≤ w * s = mul-le-mul_left w l in omega arith)
    (λ (l : s ≤ r). let l' : s < r = omega arith in let h : w * suc s ≤ w * r = mul-le-mul_left w l' in omega arith)
    (lt_or_ge r s)

-- a place in row r of n rows is within the table
pub row_within : (w : ℕ) {r n i : ℕ} → i < w → r < n → w * r + i < w * n
row_within w {r} {n} {i} hi l = let h : w * suc r ≤ w * n = mul-le-mul_left w l in omega arith

pub header≤start : (L : Layout) (T : ℕ) → L.header ≤ start L T
unfolding start
header≤start L T = omega arith

pub start≤room : (L : Layout) (T N : ℕ) → start L T ≤ room L T N
unfolding room
start≤room L T N = omega arith

-- ---- a word of the header after a word of the header was set

pub header_set_lem : (p : List ℕ) (k v : ℕ) → k < length p → header_word (header_set p k v) k ≡ v
unfolding header_word header_set
header_set_lem p k v h = get_or-set_same p k v 0 h

pub header_set_other : (p : List ℕ) (k v j : ℕ) → j ≢ k → header_word (header_set p k v) j ≡ header_word p j
unfolding header_word header_set
header_set_other p k v j h = get_or-set_other p k j v 0 h

pub length-header_set : (p : List ℕ) (k v : ℕ) → length (header_set p k v) ≡ length p
unfolding header_set
length-header_set p k v = length-set p k v

module _ (L : Layout) where
  -- ---- a word of a tile after a word of a tile was set

  pub tile_set_lem : (T : ℕ) (p : List ℕ) (t i v : ℕ) → start L T ≤ length p → t < T → i < L.tile → tile_word L (tile_set L p t i v) t i ≡ v
  unfolding tile_word tile_set start
  tile_set_lem T p t i v l ht hi = get_or-set_same p _ v 0 (omega (arith, row_within L.tile hi ht))

  pub tile_set_other_tile : (p : List ℕ) (t i v u j : ℕ) → u ≢ t → j < L.tile → i < L.tile → tile_word L (tile_set L p t i v) u j ≡ tile_word L p u j
  unfolding tile_word tile_set
  tile_set_other_tile p t i v u j ne hj hi = get_or-set_other p _ _ v 0 (omega (arith, row_differs L.tile hj hi ne))

  pub tile_set_other_word : (p : List ℕ) (t i v j : ℕ) → j ≢ i → tile_word L (tile_set L p t i v) t j ≡ tile_word L p t j
  unfolding tile_word tile_set
  tile_set_other_word p t i v j ne = get_or-set_other p _ _ v 0 (omega arith)

  pub length-tile_set : (p : List ℕ) (t i v : ℕ) → length (tile_set L p t i v) ≡ length p
  unfolding tile_set
  length-tile_set p t i v = length-set p _ v

  -- ---- the header's words and the tiles' are apart

  pub header_tile_set : (p : List ℕ) (t i v k : ℕ) → k < L.header → header_word (tile_set L p t i v) k ≡ header_word p k
  unfolding header_word tile_set
  header_tile_set p t i v k h = get_or-set_other p _ k v 0 (omega arith)

  pub tile_header_set : (p : List ℕ) (k v t i : ℕ) → k < L.header → tile_word L (header_set p k v) t i ≡ tile_word L p t i
  unfolding tile_word header_set
  tile_header_set p k v t i h = get_or-set_other p _ _ v 0 (omega arith)

  module _ (T : ℕ) where
    -- ---- a word of a block after a word of a block was set

    pub block_set_lem : (N : ℕ) (p : List ℕ) (b k v : ℕ) → room L T N ≤ length p → b < N → k ≤ L.ids → block_word L T (block_set L T p b k v) b k ≡ v
    unfolding block_word block_set room
    block_set_lem N p b k v l hb hk =
        let hk' : k < suc L.ids = omega arith in
        get_or-set_same p _ v 0 (omega (arith, row_within (suc L.ids) hk' hb))

    pub block_set_other_block : (p : List ℕ) (b k v c j : ℕ) → c ≢ b → j ≤ L.ids → k ≤ L.ids
        → block_word L T (block_set L T p b k v) c j ≡ block_word L T p c j
    unfolding block_word block_set
    block_set_other_block p b k v c j ne hj hk =
        let hj' : j < suc L.ids = omega arith in
        let hk' : k < suc L.ids = omega arith in
        get_or-set_other p _ _ v 0 (omega (arith, row_differs (suc L.ids) hj' hk' ne))

    pub block_set_other_word : (p : List ℕ) (b k v j : ℕ) → j ≢ k → block_word L T (block_set L T p b k v) b j ≡ block_word L T p b j
    unfolding block_word block_set
    block_set_other_word p b k v j ne = get_or-set_other p _ _ v 0 (omega arith)

    pub length-block_set : (p : List ℕ) (b k v : ℕ) → length (block_set L T p b k v) ≡ length p
    unfolding block_set
    length-block_set p b k v = length-set p _ v

    -- ---- the blocks' words are apart from the header's and the tiles'

    pub header_block_set : (p : List ℕ) (b j v k : ℕ) → k < L.header → header_word (block_set L T p b j v) k ≡ header_word p k
    unfolding header_word block_set start
    header_block_set p b j v k h = get_or-set_other p _ k v 0 (omega arith)

    pub tile_block_set : (p : List ℕ) (b k v t i : ℕ) → t < T → i < L.tile → tile_word L (block_set L T p b k v) t i ≡ tile_word L p t i
    unfolding tile_word block_set start
    tile_block_set p b k v t i ht hi = get_or-set_other p _ _ v 0 (omega (arith, row_within L.tile hi ht))

    pub block_header_set : (p : List ℕ) (k v b j : ℕ) → k < L.header → block_word L T (header_set p k v) b j ≡ block_word L T p b j
    unfolding block_word header_set start
    block_header_set p k v b j h = get_or-set_other p _ _ v 0 (omega arith)

    pub block_tile_set : (p : List ℕ) (t i v b j : ℕ) → t < T → i < L.tile → block_word L T (tile_set L p t i v) b j ≡ block_word L T p b j
    unfolding block_word tile_set start
    block_tile_set p t i v b j ht hi = get_or-set_other p _ _ v 0 (omega (arith, row_within L.tile hi ht))
