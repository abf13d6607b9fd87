-- Rounding a fraction of naturals: at most one number is nearest to it, a half going to the even one, and the kit's `closest` is that number. Where
-- an even number is added to the fraction, or the fraction taken from one, it follows.
use mathlib.Core.Path.{◌≡◌, refl, ap, subst}
use Prim.Native.Nat.{ℕ, zero, suc, ◌+◌, ◌-◌, ◌*◌, ◌/◌, ◌%◌, ◌≤◌, ◌<◌, compare, Ordering}
use native.Mathlib.Nat.{le_trans, mul-le-mul_right, eq_of_mul-eq-mul_right, div-add-mod', le-div_iff_mul-le, mod-lt, lt_of_not-le, lt_of_mul-lt-mul_right, le_antisymm, le_of_suc-le-suc}
use native.Mathlib.Omega.{arith}
use mathlib.Core.Bool.{not}
use lib.Dec.{T, is_le, compare_is_eq, eqb, leb→le, nleb→lt, eqb→eq, eqb_refl}
use lib.Arith.{lt_of_le-ne}
use lib.Ieee.{nearest}
use lib.Ieee.Nearest.{closest, nearest-ge}

-- u is at most a half away from n / d on either side, and even where it is just a half away: each side times 2 * d
pub record NearestSize (n d u : ℕ) : Type 0 where
  pub under : 2 * n ≤ 2 * (u * d) + d
  pub over : 2 * (u * d) ≤ 2 * n + d
  pub tie_under : 2 * n ≡ 2 * (u * d) + d → u % 2 ≡ 0
  pub tie_over : 2 * (u * d) ≡ 2 * n + d → u % 2 ≡ 0

-- ---- one at most

no_next : {n d u w : ℕ} → 0 < d → NearestSize n d u → NearestSize n d w → u < w → ⊥
no_next {n} {d} {u} {w} D p q h =
    let a : suc u * d ≤ w * d = mul-le-mul_right d h in
    let e₁ : 2 * n ≡ 2 * (u * d) + d = omega arith in
    let e₂ : 2 * (w * d) ≡ 2 * n + d = omega arith in
    let e₃ : w ≡ suc u = eq_of_mul-eq-mul_right d D w (suc u) (omega arith) in
    omega (arith, p.tie_under e₁, q.tie_over e₂)

pub size_only : {n d u w : ℕ} → 0 < d → NearestSize n d u → NearestSize n d w → u ≡ w
size_only D p q =
    le_antisymm (le_of_suc-le-suc (lt_of_not-le (λ h. no_next D q p h)))
    (le_of_suc-le-suc (lt_of_not-le (λ h. no_next D p q h)))

-- ---- `closest` is one

abbrev Compared : Ordering → ℕ → ℕ → Type 0
Compared Ordering.lt a b = a < b
Compared Ordering.eq a b = a ≡ b
Compared Ordering.gt a b = b < a

compared : (a b : ℕ) → Compared (compare a b) a b
compared a b =
    go (compare a b) (leb→le a b) (nleb→lt a b) (eqb→eq a b)
    (λ (e : a ≡ b). subst (λ (x : ℕ). T (eqb a x)) e (eqb_refl a))
  where
    go : (o : Ordering) → (T (is_le o) → a ≤ b) → (T (not (is_le o)) → b < a) → (T (compare_is_eq o) → a ≡ b) → (a ≡ b → T (compare_is_eq o)) → Compared o a b
    go Ordering.lt h k e n = lt_of_le-ne (h tt) n
    go Ordering.eq h k e n = e tt
    go Ordering.gt h k e n = k tt

-- by how twice the remainder r compares with the divisor
by_rest : (n d q r : ℕ) (o : Ordering) → q * d + r ≡ n → r < d → Compared o (r * 2) d → NearestSize n d (nearest q o)
by_rest n d q r Ordering.lt e h c =
    record { under = omega arith; over = omega arith; tie_under = λ t. absurd (omega arith); tie_over = λ t. absurd (omega arith) }
by_rest n d q r Ordering.eq e h c = go (q % 2) refl
  where
    go : (b : ℕ) → q % 2 ≡ b → NearestSize n d (q + b)
    go zero z = record { under = omega arith; over = omega arith; tie_under = λ t. omega arith; tie_over = λ t. omega arith }
    go (suc zero) z = record { under = omega arith; over = omega arith; tie_under = λ t. omega arith; tie_over = λ t. omega arith }
    go (suc (suc b)) z = absurd (omega arith)
by_rest n d q r Ordering.gt e h c =
    record { under = omega arith; over = omega arith; tie_under = λ t. absurd (omega arith); tie_over = λ t. absurd (omega arith) }

pub closest_is : (n d : ℕ) → 0 < d → NearestSize n d (closest n d)
closest_is n d D = by_rest n d (n / d) (n % d) (compare (n % d * 2) d) (div-add-mod' n d) (mod-lt n D) (compared (n % d * 2) d)

-- ---- how large it is

pub closest_at_least : (n k : ℕ) {d : ℕ} → 0 < d → k * d ≤ n → k ≤ closest n d
closest_at_least n k {d} D h = le_trans ((le-div_iff_mul-le D).1 h) (nearest-ge (n / d) (compare (n % d * 2) d))

pub closest_at_most : (n k : ℕ) {d : ℕ} → 0 < d → n ≤ k * d → closest n d ≤ k
closest_at_most n k {d} D h = le_of_suc-le-suc (lt_of_mul-lt-mul_right d {n = suc k} (omega (arith, (closest_is n d D).over)))

-- ---- an even number more, and taken from an even number: a half still goes to the same one

module _ (K n : ℕ) {d : ℕ} (D : 0 < d) (E : K % 2 ≡ 0) where
  nearest_more : {u : ℕ} → NearestSize n d u → NearestSize (n + K * d) d (u + K)
  nearest_more p =
      record {
        under = omega arith;
        over = omega arith;
        tie_under = λ t. omega (arith, p.tie_under (omega arith));
        tie_over = λ t. omega (arith, p.tie_over (omega arith));
      }

  pub closest_more : closest (n + K * d) d ≡ closest n d + K
  closest_more = size_only D (closest_is (n + K * d) d D) (nearest_more (closest_is n d D))

  nearest_less : {u v : ℕ} → n ≤ K * d → v + u ≡ K → NearestSize n d u → NearestSize (K * d - n) d v
  nearest_less {u} {v} h e p =
      let a : (v + u) * d ≡ K * d = ap (λ (x : ℕ). x * d) e in
      record {
        under = omega arith;
        over = omega arith;
        tie_under = λ t. omega (arith, p.tie_over (omega arith));
        tie_over = λ t. omega (arith, p.tie_under (omega arith));
      }

  pub closest_less : n ≤ K * d → closest (K * d - n) d ≡ K - closest n d
  closest_less h =
      size_only D (closest_is (K * d - n) d D)
      (nearest_less h (omega (arith, closest_at_most n K D h)) (closest_is n d D))
