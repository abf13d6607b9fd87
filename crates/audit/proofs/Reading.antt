-- The words that the code reads are those that the definitions speak of.
use mathlib.Core.Path.{◌≡◌, refl, ap, ◌∙◌}
use mathlib.Core.Bool.{Bool}
use mathlib.Core.List.{List}
use Rattle.std.specs.Prelude.{Option}
use Prim.Native.Nat.{ℕ, ◌+◌, ◌-◌, ◌<◌, ◌≤◌}
use native.Mathlib.Omega.{arith}
use lib.Dec.{eqb}
use lib.ListN.{length, get_or, take, drop, length-drop}
use lib.Seq.{get_or-take, get_or-drop, length-take-le}
use Rattle.numbers.specs.Ceil.{ceil}
use Rattle.numbers.specs.Says.{Says}
use Rattle.numbers.specs.Sum.{one}
use Rattle.numbers.proofs.Says.{says_iff}
use Rattle.numbers.proofs.Sum.{sum_to_same}
use Rattle.pool.specs.Words.{Layout, header_word, tile_word}
use Rattle.audit.specs.Chain.{poison_in}
use Rattle.audit.specs.Walk.{tile_start, WalkSays}

-- a part of the words: m of them from a place on
module _ (p : List ℕ) (at m : ℕ) where
  abbrev pub part : List ℕ
  part = take (at + m - at) (drop at p)

  pub part_word : (j : ℕ) → j < m → get_or part j 0 ≡ get_or p (at + j) 0
  part_word j lt = get_or-take (at + m - at) (drop at p) j 0 (omega arith) ∙ get_or-drop at p j 0

  module _ (long : at + m ≤ length p) where
    pub part-length : length part ≡ m
    part-length =
        let e : at + m - at ≡ m = omega arith in
        rw e (length-take-le m (drop at p) (omega (arith, length-drop at p)))

    pub part_poison : (L : Layout) → poison_in L (λ j. get_or part j 0) (length part) ≡ poison_in L (λ j. get_or p (at + j) 0) m
    part_poison L =
        ap (poison_in L (λ j. get_or part j 0)) part-length
        ∙ sum_to_same m _ _ (λ j lt. ap (λ (w : ℕ). one (eqb w L.poison)) (part_word j lt))

    pub part_below : {r : Bool} {most : ℕ} → Says r ((j : ℕ) → j < length part → get_or part j 0 < most) → Says r ((j : ℕ) → j < m → get_or p (at + j) 0 < most)
    part_below says =
        let e = part-length in
        says_iff (λ h j lt. omega (arith, h j (omega arith), part_word j lt)) (λ h j lt. omega (arith, h j (omega arith), part_word j (omega arith))) says

module _ (L : Layout) (p : List ℕ) where
  pub tile_word_lem : {k t : ℕ} (i : ℕ) → k ≡ t → get_or p (tile_start L k + i) 0 ≡ tile_word L p t i
  unfolding tile_word
  tile_word_lem i e = rw e refl

  pub tile_entries : {k t : ℕ} → k ≡ t → get_or p (tile_start L k) 0 ≡ tile_word L p t 0
  unfolding tile_word
  tile_entries {k} {t} e = let z : tile_start L k ≡ tile_start L k + 0 = omega arith in rw (z, e) refl

  module _ (from n : ℕ) (v w : List ℕ) (r : Option ℕ) where
    -- a walk along the chain of tile t
    pub of_tile : (t : ℕ) {q link s : ℕ} → q ≡ tile_word L p t 0 → link ≡ tile_word L p t 1 → s ≡ ceil q L.ids
        → WalkSays L p from n link q s v w r
        → WalkSays L p from n (tile_word L p t 1) (tile_word L p t 0) (ceil (tile_word L p t 0) L.ids) v w r
    of_tile t eq el es h = rw (es, eq, el) at h

    -- a walk along the free chain
    pub of_free : {link s : ℕ} → link ≡ header_word p 5 → s ≡ header_word p 4
        → WalkSays L p from n link 0 s v w r → WalkSays L p from n (header_word p 5) 0 (header_word p 4) v w r
    of_free el es h = rw (es, el) at h
