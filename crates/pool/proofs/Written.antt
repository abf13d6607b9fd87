-- Words that are written from a place on, one after the other: the steps of the loops that open a pool.
use mathlib.Core.Path.{◌≡◌, refl, sym, ap, ◌∙◌}
use mathlib.Core.List.{List, [], ◌∷◌, ◌++◌}
use Prim.Native.Nat.{ℕ, zero, suc, ◌+◌, ◌*◌, ◌-◌, ◌≤◌, ◌<◌}
use native.Mathlib.Numerals.{add-one}
use native.Mathlib.Omega.{arith}
use lib.ListN.{length, set, take, drop, replicate, length-append, length-replicate}
use lib.Seq.{set_comm, sets-eq, length-sets}
use Rattle.pool.specs.Words.{Layout}
use Rattle.pool.specs.State.{link_to}
use Rattle.pool.specs.Opening.{rising, free_block, free_blocks}
use Rattle.pool.specs.Written.{written}

pub length-written : (p : List ℕ) (from : ℕ) (words : List ℕ) → length (written p from words) ≡ length p
unfolding written
length-written p from words = length-sets p from words

pub written_none : (p : List ℕ) (from : ℕ) → written p from [] ≡ p
unfolding written
written_none p from = refl

pub written_next : (p : List ℕ) (from a : ℕ) (words : List ℕ) → written p from (a ∷ words) ≡ written (set p from a) (suc from) words
unfolding written
written_next p from a words = refl

pub written-append : (p : List ℕ) (from : ℕ) (xs ys : List ℕ) → written p from (xs ++ ys) ≡ written (written p from xs) (from + length xs) ys
unfolding written
written-append p from [] ys = let z : from + 0 ≡ from = omega arith in rw z
written-append p from (x ∷ xs) ys =
    let z : from + suc (length xs) ≡ suc from + length xs = omega arith in
    rw z (written-append (set p from x) (suc from) xs ys)

-- what was there before, the words, and what was there after
pub written_is : (p : List ℕ) (from : ℕ) (words : List ℕ) → from + length words ≤ length p
    → written p from words ≡ take from p ++ words ++ drop (from + length words) p
unfolding written
written_is p from words h = sets-eq words p from h

-- a word behind them may be set before
pub written-set : (p : List ℕ) (from i v : ℕ) (words : List ℕ) → from + length words ≤ i → written (set p i v) from words ≡ set (written p from words) i v
unfolding written
written-set p from i v [] h = refl
written-set p from i v (x ∷ words) h =
    ap (λ (q : List ℕ). written q (suc from) words) (set_comm p i from v x (omega arith)) ∙ written-set (set p from x) (suc from) i v words (omega arith)

-- ---- n free blocks

module _ (L : Layout) where
  pub length-free_block : (b n : ℕ) → length (free_block L b n) ≡ suc L.ids
  unfolding free_block
  length-free_block b n = length-append (replicate L.ids L.poison) _ ∙ rw length-replicate (omega arith)

  pub length-free_blocks : (b n : ℕ) → length (free_blocks L b n) ≡ suc L.ids * n
  length-free_blocks b zero = omega arith
  length-free_blocks b (suc n) =
      length-append (free_block L b n) (free_blocks L (suc b) n) ∙ rw (length-free_block b n, length-free_blocks (suc b) n) (omega arith)

  -- the link of a block, and then poison in its places
  pub free_block_lem : (p q : List ℕ) (at b n link : ℕ) → link ≡ link_to (rising (suc b) n) → q ≡ written (set p (at + L.ids) link) at (replicate L.ids L.poison)
      → q ≡ written p at (free_block L b n)
  unfolding free_block
  free_block_lem p q at b n link f e =
      let poisons : List ℕ = replicate L.ids L.poison in
      let z : at + length poisons ≡ at + L.ids = omega (arith, length-replicate L.ids L.poison) in
      let w : written p at (poisons ++ (link ∷ [])) ≡ written (written p at poisons) (at + L.ids) (link ∷ []) = rw z at (written-append p at poisons (link ∷ [])) in
      rw (← f) (e ∙ written-set p at (at + L.ids) link poisons (omega arith)
      ∙ sym (w ∙ written_next (written p at poisons) (at + L.ids) link [] ∙ written_none _ _))

-- p is p₀ with b of them written: writing the rest from there on gives what all of them give
pub record Freeing (L : Layout) (p₀ : List ℕ) (from n : ℕ) (p : List ℕ) (b : ℕ) : Type 0 where
  pub upto : b ≤ n
  pub long : length p ≡ length p₀
  pub rest : written p (from + suc L.ids * b) (free_blocks L b (n - b)) ≡ written p₀ from (free_blocks L 0 n)

pub free_start : (L : Layout) (p : List ℕ) (from n : ℕ) → Freeing L p from n p 0
free_start L p from n =
    let e : from + suc L.ids * 0 ≡ from = omega arith in
    let e' : n - 0 ≡ n = omega arith in
    record { upto = omega arith; long = refl; rest = rw (e, e') }

pub free_step : {L : Layout} {p₀ : List ℕ} {from n : ℕ} {p : List ℕ} {b : ℕ} (q : List ℕ) → Freeing L p₀ from n p b → b < n
    → q ≡ written p (from + suc L.ids * b) (free_block L b (n - (b + 1))) → Freeing L p₀ from n q (b + 1)
free_step {L} {p₀} {from} {n} {p} {b} q F h w =
    let m = n - suc b in
    let at = from + suc L.ids * b in
    let a : n - b ≡ suc m = omega arith in
    let z : from + suc L.ids * suc b ≡ at + length (free_block L b m) = omega (arith, length-free_block L b m) in
    let r : written p at (free_block L b m ++ free_blocks L (suc b) m) ≡ written p₀ from (free_blocks L 0 n) = rw a at F.rest in
    let w' : q ≡ written p at (free_block L b m) = rw add-one at w in
    record {
      upto = omega arith;
      long = ap length w' ∙ length-written p at (free_block L b m) ∙ F.long;
      rest = rw (add-one, z, w') (sym (written-append p at (free_block L b m) (free_blocks L (suc b) m)) ∙ r);
    }

pub free_end : {L : Layout} {p₀ : List ℕ} {from n : ℕ} {p : List ℕ} {b : ℕ} → Freeing L p₀ from n p b → n ≤ b → p ≡ written p₀ from (free_blocks L 0 n)
free_end {L} {p₀} {from} {n} {p} {b} F h =
    let a : n - b ≡ 0 = omega arith in
    let r : written p (from + suc L.ids * b) [] ≡ written p₀ from (free_blocks L 0 n) = rw a at F.rest in
    sym (written_none p (from + suc L.ids * b)) ∙ r
