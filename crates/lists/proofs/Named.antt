-- Lists of tiles by their places: what stands at a place is named, what is named stands at one, and a rising list names no tile twice.
use mathlib.Core.Path.{◌≡◌, refl, sym, ap, ◌∙◌, subst}
use mathlib.Core.Logic.{◌≢◌, ⊎_elim}
use mathlib.Core.List.{List, [], ◌∷◌}
use Prim.Native.Nat.{ℕ, zero, suc, ◌≤◌, ◌<◌}
use native.Mathlib.Nat.{not-suc-le-zero, le_of_suc-le-suc}
use native.Mathlib.Omega.{arith}
use lib.ListN.{length, get_or}
use Rattle.numbers.proofs.Ceil.{eq_or_ne}
use Rattle.pool.specs.Words.{Layout, Fair, tile_word}
use Rattle.pool.specs.State.{times}
use Rattle.pool.specs.Sound.{Sound, tiles_of}
use Rattle.pool.specs.Lists.{list_of}
use Rattle.pool.proofs.Times.{one_same, one_other, times_head, times-tail}
use Rattle.pool.proofs.Lists.{list_of_shows}
use Rattle.lists.specs.Appending.{Distinct}

pub place_named : (ts : List ℕ) (i : ℕ) → i < length ts → 0 < times (get_or ts i 0) ts
place_named [] i h = absurd (not-suc-le-zero h)
place_named (t ∷ ts) zero h = times_head t ts
place_named (t ∷ ts) (suc i) h = times-tail (get_or ts i 0) t ts (place_named ts i (le_of_suc-le-suc h))

pub named_place : (ts : List ℕ) (t : ℕ) → 0 < times t ts → (i : ℕ) × (i < length ts) × (get_or ts i 0 ≡ t)
named_place [] t h = absurd (not-suc-le-zero h)
named_place (u ∷ ts) t h =
    ⊎_elim (λ (e : u ≡ t). (0, omega arith, e))
    (λ (ne : u ≢ t).
    let ne' : t ≢ u = (λ z. ne (sym z)) in
    let r = named_place ts t (omega (arith, one_other t u ne')) in
    (suc r.0, omega (arith, r.1), r.2))
    (eq_or_ne u t)

-- a number below the first of a rising list is not in it
rising_misses : (ts : List ℕ) (t : ℕ) → ((i : ℕ) → suc i < length ts → get_or ts i 0 < get_or ts (suc i) 0) → (0 < length ts → t < get_or ts 0 0) → times t ts ≡ 0
rising_misses [] t up low = refl
rising_misses (u ∷ ts) t up low =
    let l : t < u = low (omega arith) in
    omega (arith, one_other t u (omega arith), rising_misses ts t (λ i h. up (suc i) (omega arith)) (λ h. omega (arith, up 0 (omega arith))))

rising_once : (ts : List ℕ) → ((i : ℕ) → suc i < length ts → get_or ts i 0 < get_or ts (suc i) 0) → (t : ℕ) → times t ts ≤ 1
rising_once [] up t = omega arith
rising_once (u ∷ ts) up t =
    let rest : (i : ℕ) → suc i < length ts → get_or ts i 0 < get_or ts (suc i) 0 = (λ i h. up (suc i) (omega arith)) in
    ⊎_elim (λ (e : t ≡ u). subst (λ (n : ℕ). times n (u ∷ ts) ≤ 1) (sym e) (omega (arith, one_same u, rising_misses ts u rest (λ h. up 0 (omega arith)))))
    (λ (ne : t ≢ u). omega (arith, one_other t u ne, rising_once ts rest t))
    (eq_or_ne t u)

pub rising_distinct : {T : ℕ} (ts : List ℕ) → ((i : ℕ) → suc i < length ts → get_or ts i 0 < get_or ts (suc i) 0)
    → ((i : ℕ) → i < length ts → get_or ts i 0 < T) → Distinct T ts
rising_distinct {T} ts up below = record {
  once = rising_once ts up;
  below = λ t h. let r = named_place ts t h in omega (arith, r.2, below r.0 r.1);
}

-- the length of a tile's list is its entries
pub list_length : {L : Layout} {p : List ℕ} → Fair L → (S : Sound L p) (t : ℕ) → t < tiles_of p → length (list_of L (tiles_of p) p t) ≡ tile_word L p t 0
list_length A S t ht = ap length (list_of_shows A S.shows t ht) ∙ sym (S.shows.tile t ht).entries
