-- Poison counted: the id places of a block hold k ids and then poison exactly if the first k hold ids and as many hold poison as are left.
use mathlib.Core.Path.{◌≡◌, refl, ap, subst}
use mathlib.Core.Bool.{Bool, true, false}
use Prim.Native.Nat.{ℕ, suc, ◌+◌, ◌-◌, ◌<◌, ◌≤◌}
use native.Mathlib.Omega.{arith}
use borrow.Author.Tests.{eqb-true}
use lib.Dec.{eqb}
use mir.Val.{bool_byte}
use Rattle.numbers.specs.Sum.{sum_to, one}
use Rattle.numbers.proofs.Says.{says_true}
use Rattle.numbers.proofs.Deciding.{says_eq}
use Rattle.numbers.proofs.Sum.{sum_to_parts, none_passes, all_pass, passed_all}
use Rattle.pool.specs.Words.{Layout}
use Rattle.audit.specs.Chain.{Places, poison_in}

-- the number that the code makes of an answer
as_one : (b : Bool) → bool_byte b ≡ one b
as_one true = refl
as_one false = refl

-- the count over one word more
pub poison_more : (L : Layout) (word : ℕ → ℕ) (n : ℕ) → poison_in L word (n + 1) ≡ poison_in L word n + bool_byte (eqb (word n) L.poison)
poison_more L word n =
    let e : n + 1 ≡ suc n = omega arith in
    omega (arith, ap (poison_in L word) e, as_one (eqb (word n) L.poison))

module _ (L : Layout) (word : ℕ → ℕ) (k : ℕ) (k≤ : k ≤ L.ids) (apart : L.limit ≤ L.poison) where
  -- where the first k hold ids, these are among the others
  among_others : ((j : ℕ) → j < k → word j < L.limit) → poison_in L word L.ids ≡ poison_in L (λ i. word (k + i)) (L.ids - k)
  among_others h =
      let f : ℕ → ℕ = λ j. one (eqb (word j) L.poison) in
      let all : k + (L.ids - k) ≡ L.ids = omega arith in
      omega (
        arith,
        ap (λ (n : ℕ). sum_to n f) all,
        sum_to_parts k (L.ids - k) f,
        none_passes k (λ j. eqb (word j) L.poison) (λ j l e. omega (arith, h j l, eqb-true (word j) L.poison e)),
      )

  pub places_count : Places L word k → poison_in L word L.ids ≡ L.ids - k
  unfolding Places
  places_count h =
      omega (
        arith,
        among_others (λ j l. (h j (omega arith)).0 l),
        all_pass (L.ids - k) (λ i. eqb (word (k + i)) L.poison) (λ i l. says_true (says_eq _ _) ((h (k + i) (omega arith)).1 (omega arith))),
      )

  pub count_places : ((j : ℕ) → j < k → word j < L.limit) → poison_in L word L.ids ≡ L.ids - k → Places L word k
  unfolding Places
  count_places h e j l = (
    h j,
    λ past.
        let at : k + (j - k) ≡ j = omega arith in
        subst (λ (n : ℕ). word n ≡ L.poison) at
        (eqb-true _ _ (passed_all (L.ids - k) (λ i. eqb (word (k + i)) L.poison) (omega (arith, among_others h)) (j - k) (omega arith))),
  )
