-- A quotient rounded up, as orders of products: m · n is the least multiple of m that is no less than q.
use mathlib.Core.Path.{◌≡◌}
use mathlib.Core.Logic.{◌≢◌, ◌⊎◌, inl, inr, ⊎_elim}
use Prim.Native.Nat.{ℕ, suc, ◌+◌, ◌*◌, ◌-◌, ◌%◌, ◌≤◌, ◌<◌}
use native.Mathlib.Nat.{mul-le-mul_left, div-add-mod, mod-lt}
use native.Mathlib.Decide.{dec_lt, ℕ_discrete}
use native.Mathlib.Omega.{arith}
use Rattle.numbers.specs.Ceil.{ceil}

pub lt_or_ge : (a b : ℕ) → (a < b) ⊎ (b ≤ a)
lt_or_ge a b = elim (dec_lt a b) [ yes h ↦ inl h | no n ↦ inr (omega arith) ]

pub below_or_last : (i n : ℕ) → i < suc n → (i < n) ⊎ (i ≡ n)
below_or_last i n h = ⊎_elim (λ (l : i < n). inl l) (λ (l : n ≤ i). inr (omega arith)) (lt_or_ge i n)

pub eq_or_ne : (a b : ℕ) → (a ≡ b) ⊎ (a ≢ b)
eq_or_ne a b = elim (ℕ_discrete a b) [ yes h ↦ inl h | no n ↦ inr n ]

-- two multiples of m that are less than m apart are one
pub same_mul : (m a b r : ℕ) → m * a ≤ m * b + r → m * b ≤ m * a + r → r < m → a ≡ b
same_mul m a b r u v l =
    ⊎_elim (λ (h : a < b). let w : m * suc a ≤ m * b = mul-le-mul_left m h in absurd (omega arith))
    (λ (h : b ≤ a). ⊎_elim (λ (h' : b < a). let w : m * suc b ≤ m * a = mul-le-mul_left m h' in absurd (omega arith)) (λ (h' : a ≤ b). omega arith) (lt_or_ge b a))
    (lt_or_ge a b)

module _ (q m : ℕ) (0<m : 0 < m) where
  -- the parts cover q
  pub ceil_enough : q ≤ m * ceil q m
  ceil_enough =
      let d : m * ceil q m + (q + (m - 1)) % m ≡ q + (m - 1) = div-add-mod (q + (m - 1)) m in
      let r : (q + (m - 1)) % m < m = mod-lt (q + (m - 1)) 0<m in
      omega arith

  -- and one part fewer does not
  pub ceil-least : m * ceil q m < q + m
  ceil-least =
      let d : m * ceil q m + (q + (m - 1)) % m ≡ q + (m - 1) = div-add-mod (q + (m - 1)) m in
      omega arith

  -- nothing else does both
  pub ceil_is : (n : ℕ) → q ≤ m * n → m * n < q + m → n ≡ ceil q m
  ceil_is n lo hi = let e = ceil_enough in let l = ceil-least in same_mul m n (ceil q m) (m - 1) (omega arith) (omega arith) (omega arith)

-- more to cover takes no fewer parts
pub ceil≤ : (m : ℕ) → 0 < m → {a b : ℕ} → a ≤ b → ceil a m ≤ ceil b m
ceil≤ m 0<m {a} {b} h =
    ⊎_elim
    (λ (lt : ceil b m < ceil a m).
    let w : m * suc (ceil b m) ≤ m * ceil a m = mul-le-mul_left m lt in
    absurd (omega (arith, ceil_enough b m 0<m, ceil-least a m 0<m)))
    (λ (ge : ceil a m ≤ ceil b m). ge)
    (lt_or_ge (ceil b m) (ceil a m))
