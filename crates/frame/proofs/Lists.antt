-- Laws of all lists, one after the other, and of where each starts.
use mathlib.Core.Path.{◌≡◌, refl, sym, ap, ◌∙◌}
use mathlib.Core.Logic.{⊎_elim}
use mathlib.Core.List.{List, [], ◌++◌, append-nil, append_assoc}
use Prim.Native.Nat.{ℕ, zero, suc, ◌+◌, ◌*◌, ◌^◌, ◌≤◌, ◌<◌}
use native.Mathlib.Nat.{mul-le-mul_right}
use native.Mathlib.Numerals.{add-one}
use native.Mathlib.Omega.{arith}
use lib.ListN.{length, get_or, set, length-append}
use Rattle.numbers.proofs.Ceil.{lt_or_ge}
use Rattle.numbers.specs.Sum.{sum_to}
use Rattle.pool.specs.Words.{Layout, header_word}
use Rattle.pool.specs.State.{tile_of}
use Rattle.pool.specs.Editions.{Sized}
use Rattle.pool.specs.Sound.{Sound, tiles_of, blocks_of}
use Rattle.pool.specs.Lists.{list_of}
use Rattle.pool.specs.Written.{written, Puts}
use Rattle.pool.proofs.Lists.{get_or-table, length-table, list_of_tile, blocks_enough}
use Rattle.pool.proofs.Total.{blocks_in_tiles, blocks_in_tiles-sum, blocks_total}
use Rattle.pool.proofs.Putting.{Writing, write_start, write_step, write_end, puts_none, puts_then}
use Rattle.frame.specs.Frame.{lists_of, starts_of}

module _ (L : Layout) (T : ℕ) (p : List ℕ) where
  pub lists_next : (t : ℕ) → lists_of L T p (t + 1) ≡ lists_of L T p t ++ list_of L T p t
  lists_next t = ap (lists_of L T p) (add-one t)

  pub lists_longer : (t : ℕ) → length (lists_of L T p (t + 1)) ≡ length (lists_of L T p t) + length (list_of L T p t)
  lists_longer t = ap length (lists_next t) ∙ length-append (lists_of L T p t) (list_of L T p t)

  -- the lists of more tiles are no shorter
  pub lists_grow : (t n : ℕ) → t ≤ n → length (lists_of L T p t) ≤ length (lists_of L T p n)
  lists_grow t zero h = let z : t ≡ 0 = omega arith in rw z (omega arith)
  lists_grow t (suc n) h =
      ⊎_elim
      (λ (l : n < t). let e : t ≡ suc n = omega arith in rw e (omega arith))
      (λ (g : t ≤ n). omega (arith, lists_grow t n g, length-append (lists_of L T p n) (list_of L T p n)))
      (lt_or_ge n t)

  -- and begin with those of fewer
  pub lists_split : (t n : ℕ) → t ≤ n → (rest : List ℕ) × (lists_of L T p n ≡ lists_of L T p t ++ rest)
  lists_split t zero h = let z : t ≡ 0 = omega arith in rw z ([], refl)
  lists_split t (suc n) h =
      ⊎_elim
      (λ (l : n < t). let e : t ≡ suc n = omega arith in rw e ([], sym (append-nil (lists_of L T p (suc n)))))
      (λ (g : t ≤ n).
      let k = lists_split t n g in
      (k.0 ++ list_of L T p n, ap (λ (l : List ℕ). l ++ list_of L T p n) k.1 ∙ append_assoc (lists_of L T p t) k.0 (list_of L T p n)))
      (lt_or_ge n t)

  pub start-at : (t : ℕ) → t ≤ T → get_or (starts_of L T p) t 0 ≡ length (lists_of L T p t)
  start-at t h = get_or-table (suc T) (λ n. length (lists_of L T p n)) t 0 (omega arith)

  pub starts_long : length (starts_of L T p) ≡ suc T
  starts_long = length-table (suc T) (λ n. length (lists_of L T p n))

-- ---- of a sound pool

module _ {L : Layout} {p : List ℕ} (S : Sound L p) (A : Sized L) where
  -- the lists of the first n tiles are held by their blocks
  lists_held : (n : ℕ) → n ≤ tiles_of p → length (lists_of L (tiles_of p) p n) ≤ L.ids * sum_to n (λ t. length (tile_of S.state t).blocks)
  lists_held zero h = omega arith
  lists_held (suc t) h =
      let k = S.shows.tile t h in
      let list = list_of L (tiles_of p) p t in
      let more = length-append (lists_of L (tiles_of p) p t) list in
      omega (arith, lists_held t (omega arith), more, ap length (list_of_tile A.fair k), blocks_enough A.fair k)

  -- and so all lists by the blocks that are not free
  pub all_held : length (lists_of L (tiles_of p) p (tiles_of p)) + L.ids * header_word p 4 ≤ L.ids * blocks_of p
  all_held =
      let R = S.shows in
      let s = S.state in
      let in_use : sum_to (tiles_of p) (λ t. length (tile_of s t).blocks) ≡ blocks_in_tiles s.tiles
      = ap (λ (n : ℕ). sum_to n (λ t. length (tile_of s t).blocks)) (sym R.tiled) ∙ sym (blocks_in_tiles-sum s.tiles) in
      let all : L.ids * blocks_of p ≡ L.ids * (header_word p 4 + sum_to (tiles_of p) (λ t. length (tile_of s t).blocks))
      = ap (λ (n : ℕ). L.ids * n) (omega (arith, blocks_total R, R.count, in_use)) in
      omega (arith, all, lists_held (tiles_of p) (omega arith))

  module _ {T : ℕ} (e : T ≡ tiles_of p) where
    pub lists_fit : (t : ℕ) → t ≤ T → length (lists_of L T p t) < 2 ^ 32
    lists_fit t h =
        let most : L.ids * blocks_of p ≤ 63 * blocks_of p = mul-le-mul_right (blocks_of p) A.ids≤ in
        let all : length (lists_of L T p T) ≤ L.ids * blocks_of p = rw e (omega (arith, all_held)) in
        omega (arith, lists_grow L T p t T h, S.opened.blocks≤)

-- ---- lists and starts, written side by side

-- after t tiles, their lists have been put one behind the other, and t of the starts written
pub record Framing (L : Layout) (T : ℕ) (p starts₀ entries₀ starts entries : List ℕ) (next t : ℕ) : Type 0 where
  pub begun : Writing starts₀ 0 (starts_of L T p) starts t
  pub listed : Puts entries₀ 0 (lists_of L T p t) entries next
  pub upto : t ≤ T

module _ {L : Layout} {T : ℕ} {p starts₀ entries₀ : List ℕ} where
  pub frame_none : Framing L T p starts₀ entries₀ starts₀ entries₀ 0 0
  frame_none = record { begun = write_start _ _ _; listed = puts_none _ _; upto = omega arith }

  module _ {starts entries : List ℕ} {next t : ℕ} (F : Framing L T p starts₀ entries₀ starts entries next t) where
    -- the start of the next tile is written
    started : (i v : ℕ) → i ≡ t → v ≡ next → Writing starts₀ 0 (starts_of L T p) (set starts i v) (t + 1)
    started i v ei ev =
        let is : next ≡ get_or (starts_of L T p) t 0 = omega (arith, F.listed.next_is, start-at L T p t F.upto) in
        let at : i ≡ 0 + t = omega arith in
        rw (at, ev) (write_step next F.begun (omega (arith, starts_long L T p, F.upto)) is)

    pub frame-next : (i v : ℕ) → i ≡ t → v ≡ next → t < T → {entries' : List ℕ} {next' : ℕ} → Puts entries next (list_of L T p t) entries' next'
        → Framing L T p starts₀ entries₀ (set starts i v) entries' next' (t + 1)
    frame-next i v ei ev h P = record { begun = started i v ei ev; listed = rw (lists_next L T p t) (puts_then F.listed P); upto = omega arith }

    -- after the last tile there is one start to write, where its list ends
    pub frame_all : (i v : ℕ) → i ≡ T → v ≡ next → T ≤ t → set starts i v ≡ written starts₀ 0 (starts_of L T p)
    frame_all i v ei ev h =
        let e : t ≡ T = omega (arith, F.upto) in
        let W = started i v (ei ∙ sym e) ev in
        write_end W (omega (arith, starts_long L T p))
