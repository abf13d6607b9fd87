-- The blocks of all chains together are N. So a chain has at most N blocks, and a tile at most as many entries as N blocks have places.
use mathlib.Core.Path.{◌≡◌, refl, sym, ap, ◌∙◌}
use mathlib.Core.Logic.{◌≢◌, ⊎_elim}
use mathlib.Core.List.{List, [], ◌∷◌}
use Prim.Native.Nat.{ℕ, zero, suc, ◌+◌, ◌*◌, ◌≤◌, ◌<◌, zero-le}
use native.Mathlib.Nat.{not-suc-le-zero, mul-le-mul_left}
use native.Mathlib.Omega.{arith}
use lib.Dec.{eqb}
use lib.ListN.{length, get_or}
use Rattle.numbers.specs.Ceil.{ceil}
use Rattle.numbers.specs.Sum.{one, sum_to}
use Rattle.numbers.proofs.Ceil.{eq_or_ne, ceil_enough}
use Rattle.numbers.proofs.Sum.{sum_to_add, sum_to_all, sum_to_first}
use Rattle.pool.specs.Words.{Layout, Fair, tile_word, header_word}
use Rattle.pool.specs.State.{Chained, empty, State, tile_of, times, times_in_tiles, times_in_all}
use Rattle.pool.specs.Sound.{Shows}
use Rattle.pool.proofs.Times.{one_same, one_other, times_head, times-tail}
use Rattle.pool.proofs.State.{chained<}

pub sum_to_one : (n c : ℕ) → c < n → sum_to n (λ b. one (eqb b c)) ≡ 1
sum_to_one zero c h = absurd (not-suc-le-zero h)
sum_to_one (suc n) c h =
    ⊎_elim
    (λ (e : n ≡ c).
    omega (arith, ap (λ (y : ℕ). one (eqb n y)) (sym e), one_same n, sum_to_all n 0 (λ b. one (eqb b c)) (λ b hb. one_other b c (omega arith))))
    (λ (ne : n ≢ c). omega (arith, one_other n c ne, sum_to_one n c (omega arith)))
    (eq_or_ne n c)

-- each number below n, counted in a list of such numbers, gives the list's length
pub sum-times : (n : ℕ) (l : List ℕ) → ((b : ℕ) → 0 < times b l → b < n) → sum_to n (λ b. times b l) ≡ length l
sum-times n [] h = sum_to_all n 0 (λ b. 0) (λ b hb. refl) ∙ omega arith
sum-times n (c ∷ l) h =
    sum_to_add n (λ b. one (eqb b c)) (λ b. times b l)
    ∙ omega (arith, sum_to_one n c (h c (times_head c l)), sum-times n l (λ b hb. h b (times-tail b c l hb)))

-- the number of blocks in the chains of all tiles
abbrev pub blocks_in_tiles : List Chained → ℕ
blocks_in_tiles [] = 0
blocks_in_tiles (x ∷ l) = length x.blocks + blocks_in_tiles l

pub sum-times_in_tiles : (n : ℕ) (l : List Chained) → ((b : ℕ) → 0 < times_in_tiles b l → b < n) → sum_to n (λ b. times_in_tiles b l) ≡ blocks_in_tiles l
sum-times_in_tiles n [] h = sum_to_all n 0 (λ b. 0) (λ b hb. refl) ∙ omega arith
sum-times_in_tiles n (x ∷ l) h =
    sum_to_add n (λ b. times b x.blocks) (λ b. times_in_tiles b l)
    ∙ omega (arith, sum-times n x.blocks (λ b hb. h b (omega arith)), sum-times_in_tiles n l (λ b hb. h b (omega arith)))

pub blocks_in_tiles-sum : (l : List Chained) → blocks_in_tiles l ≡ sum_to (length l) (λ t. length (get_or l t empty).blocks)
blocks_in_tiles-sum [] = refl
blocks_in_tiles-sum (x ∷ l) = omega (arith, sum_to_first (length l) (λ t. length (get_or (x ∷ l) t empty).blocks), blocks_in_tiles-sum l)

pub blocks_in_tiles-at : (l : List Chained) (t : ℕ) → length (get_or l t empty).blocks ≤ blocks_in_tiles l
blocks_in_tiles-at [] t = zero-le
blocks_in_tiles-at (x ∷ l) zero = omega arith
blocks_in_tiles-at (x ∷ l) (suc t) = omega (arith, blocks_in_tiles-at l t)

-- a list in as few blocks as hold it, c of at most N, has no more ids than N blocks hold
pub held≤ : {L : Layout} {N n c : ℕ} → Fair L → c ≡ ceil n L.ids → c ≤ N → n ≤ L.ids * N
held≤ {L} {N} {n} {c} A e h =
    let w : L.ids * c ≤ L.ids * N = mul-le-mul_left L.ids h in
    let v : n ≤ L.ids * c = rw e (ceil_enough n L.ids A.ids>) in
    omega arith

module _ {L : Layout} {T N : ℕ} {p : List ℕ} {s : State} (R : Shows L T N p s) where
  pub blocks_total : length s.free + blocks_in_tiles s.tiles ≡ N
  blocks_total =
      let f = sum-times N s.free (λ b hb. chained< R b (omega arith)) in
      let g = sum-times_in_tiles N s.tiles (λ b hb. chained< R b (omega arith)) in
      let h = sum_to_add N (λ b. times b s.free) (λ b. times_in_tiles b s.tiles) in
      let o = sum_to_all N 1 (λ b. times_in_all b s) R.once in
      omega arith

  pub free≤ : length s.free ≤ N
  free≤ = omega (arith, blocks_total)

  pub chain_and_free≤ : (t : ℕ) → length s.free + length (tile_of s t).blocks ≤ N
  chain_and_free≤ t = omega (arith, blocks_total, blocks_in_tiles-at s.tiles t)

  pub chain≤ : (t : ℕ) → length (tile_of s t).blocks ≤ N
  chain≤ t = omega (arith, chain_and_free≤ t)

  pub entries≤ : Fair L → (t : ℕ) → t < T → length (tile_of s t).list ≤ L.ids * N
  entries≤ A t ht = held≤ A (R.tile t ht).many (chain≤ t)

  -- the same of the words
  pub free_count≤ : header_word p 4 ≤ N
  free_count≤ = rw R.count free≤

  pub entry_count≤ : Fair L → (t : ℕ) → t < T → tile_word L p t 0 ≤ L.ids * N
  entry_count≤ A t ht = rw (R.tile t ht).entries (entries≤ A t ht)
