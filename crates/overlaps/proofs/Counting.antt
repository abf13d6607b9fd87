-- How many numbers satisfy a condition: there is one such count, it grows with the condition, and a rising list of the numbers is as long.
use mathlib.Core.Path.{◌≡◌, refl, sym, ap, ◌∙◌}
use mathlib.Core.Bool.{Bool, true, false, not}
use mathlib.Core.Logic.{⊎_elim}
use Prim.Native.Nat.{ℕ, zero, suc, ◌+◌, ◌-◌, ◌≤◌, ◌<◌}
use native.Mathlib.Omega.{arith}
use Rattle.numbers.specs.Says.{Says}
use Rattle.numbers.specs.Sum.{sum_to, one}
use Rattle.numbers.proofs.Says.{says_not, says_false, says_once}
use Rattle.numbers.proofs.Ceil.{below_or_last}
use Rattle.numbers.proofs.Sum.{sum_to_add, sum_to_same, sum_to_all, sum_to≤, sum_to_parts, one≤, passes≤, none_passes}
use Rattle.overlaps.specs.HowMany.{HowMany}

one_rises : {P Q : Type 0} {r s : Bool} → (Q → P) → Says r P → Says s Q → one s ≤ one r
one_rises {r = true} {s} f h k = one≤ s
one_rises {r = false} {s} f h k = rw (says_false k (λ q. h.no refl (f q))) (omega arith)

pub counts_once : {n c e : ℕ} {P : ℕ → Type 0} → HowMany n P c → HowMany n P e → c ≡ e
counts_once {n} h k = h.sum ∙ sum_to_same n (λ i. one (h.test i)) (λ i. one (k.test i)) (λ i l. ap one (says_once (h.says i l) (k.says i l))) ∙ sym k.sum

pub counts≤ : {n c : ℕ} {P : ℕ → Type 0} → HowMany n P c → c ≤ n
counts≤ {n} h = omega (arith, h.sum, passes≤ n h.test)

pub counts_rise : {n c e : ℕ} {P Q : ℕ → Type 0} → ((i : ℕ) → Q i → P i) → HowMany n P c → HowMany n Q e → e ≤ c
counts_rise {n} f h k =
    omega (arith, h.sum, k.sum, sum_to≤ n (λ i. one (k.test i)) (λ i. one (h.test i)) (λ i l. one_rises (f i) (h.says i l) (k.says i l)))

one_both : (b : Bool) → one b + one (not b) ≡ 1
one_both true = refl
one_both false = refl

-- each number satisfies the condition or does not
pub counts_both : {n c e : ℕ} {P : ℕ → Type 0} → HowMany n P c → HowMany n (λ i. P i → ⊥) e → c + e ≡ n
counts_both {n} {c} {e} h k =
    let f : ℕ → ℕ = λ i. one (h.test i) in
    let g : ℕ → ℕ = λ i. one (not (h.test i)) in
    omega (
      arith,
      h.sum,
      counts_once {c = e} {e = sum_to n g} k (record { test = λ i. not (h.test i); says = λ i l. says_not (h.says i l); sum = refl }),
      sum_to_add n f g,
      sum_to_all n 1 (λ i. f i + g i) (λ i l. one_both (h.test i)),
    )

-- ---- a rising list of all that pass a test

-- n numbers below m, rising, are all that pass
pub record Rising (f : ℕ → ℕ) (n m : ℕ) (test : ℕ → Bool) : Type 0 where
  pub rising : (i j : ℕ) → i < j → j < n → f i < f j
  pub below : (i : ℕ) → i < n → f i < m
  pub passes : (i : ℕ) → i < n → test (f i) ≡ true
  pub all : (t : ℕ) → t < m → test t ≡ true → (i : ℕ) × (i < n) × (f i ≡ t)

pub rising-sum : (f : ℕ → ℕ) (n m : ℕ) (test : ℕ → Bool) → Rising f n m test → sum_to m (λ t. one (test t)) ≡ n
rising-sum f zero m test r = none_passes m test (λ t l e. let w = r.all t l e in let h = w.1 in omega arith)
rising-sum f (suc n) m test r =
    let split : suc x + rest ≡ m = omega (arith, x<) in
    omega (arith, ap (λ (k : ℕ). sum_to k g) split, sum_to_parts (suc x) rest g, after, ap one (r.passes n (omega arith)), rising-sum f n x test before)
  where
    x : ℕ
    x = f n

    x< : f n < m
    x< = r.below n (omega arith)

    rest : ℕ
    rest = m - suc (f n)

    g : ℕ → ℕ
    g t = one (test t)

    -- a number of the list that is below the last stands before it
    earlier : (i : ℕ) → i < suc n → f i < f n → i < n
    earlier i l h = ⊎_elim (λ (u : i < n). u) (λ (e : i ≡ n). absurd (omega (arith, ap f e))) (below_or_last i n l)

    last : (i : ℕ) → i < suc n → f i ≤ f n
    last i l = ⊎_elim (λ (u : i < n). let h = r.rising i n u (omega arith) in omega arith) (λ (e : i ≡ n). omega (arith, ap f e)) (below_or_last i n l)

    after : sum_to rest (λ k. one (test (suc (f n) + k))) ≡ 0
    after =
        none_passes rest (λ k. test (suc (f n) + k))
        (λ k l e.
        let w = r.all (suc (f n) + k) (omega (arith, l)) e in
        let there = w.2 in
        omega (arith, last w.0 w.1))

    before : Rising f n (f n) test
    before =
        record {
          rising = λ i j l h. r.rising i j l (omega arith);
          below = λ i l. r.rising i n l (omega arith);
          passes = λ i l. r.passes i (omega arith);
          all =
              λ t l e.
              let w = r.all t (omega (arith, x<)) e in
              let there = w.2 in
              (w.0, earlier w.0 w.1 (omega arith), there);
        }
