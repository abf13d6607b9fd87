-- Sums: of sums, of equal summands, of a multiple, by the first summand, in order, in parts and row by row; and of a test's answers.
use mathlib.Core.Path.{◌≡◌, refl, ap}
use mathlib.Core.Bool.{Bool, true, false}
use mathlib.Core.Logic.{⊎_elim}
use Prim.Native.Nat.{ℕ, zero, suc, ◌+◌, ◌*◌, ◌≤◌, ◌<◌, zero-le}
use native.Mathlib.Omega.{arith}
use Rattle.numbers.specs.Sum.{sum_to, one}
use Rattle.numbers.proofs.Ceil.{below_or_last}

pub sum_to_add : (n : ℕ) (f g : ℕ → ℕ) → sum_to n (λ b. f b + g b) ≡ sum_to n f + sum_to n g
sum_to_add zero f g = refl
sum_to_add (suc n) f g = omega (arith, sum_to_add n f g)

pub sum_to_all : (n k : ℕ) (f : ℕ → ℕ) → ((b : ℕ) → b < n → f b ≡ k) → sum_to n f ≡ n * k
sum_to_all zero k f h = omega arith
sum_to_all (suc n) k f h = omega (arith, sum_to_all n k f (λ b hb. h b (omega arith)), h n (omega arith))

pub sum_to_first : (n : ℕ) (f : ℕ → ℕ) → sum_to (suc n) f ≡ f 0 + sum_to n (λ b. f (suc b))
sum_to_first zero f = omega arith
sum_to_first (suc n) f = omega (arith, sum_to_first n f)

pub sum_to≤ : (n : ℕ) (f g : ℕ → ℕ) → ((b : ℕ) → b < n → f b ≤ g b) → sum_to n f ≤ sum_to n g
sum_to≤ zero f g h = zero-le
sum_to≤ (suc n) f g h = omega (arith, sum_to≤ n f g (λ b hb. h b (omega arith)), h n (omega arith))

pub sum_to_same : (n : ℕ) (f g : ℕ → ℕ) → ((b : ℕ) → b < n → f b ≡ g b) → sum_to n f ≡ sum_to n g
sum_to_same zero f g h = refl
sum_to_same (suc n) f g h = omega (arith, sum_to_same n f g (λ b hb. h b (omega arith)), h n (omega arith))

-- at most k each, and each at most the sum
pub sum_to_most : (n k : ℕ) (f : ℕ → ℕ) → ((b : ℕ) → b < n → f b ≤ k) → sum_to n f ≤ n * k
sum_to_most zero k f h = zero-le
sum_to_most (suc n) k f h = omega (arith, sum_to_most n k f (λ b hb. h b (omega arith)), h n (omega arith))

pub sum_to_part : (n : ℕ) (f : ℕ → ℕ) (b : ℕ) → b < n → f b ≤ sum_to n f
sum_to_part zero f b h = absurd (omega arith)
sum_to_part (suc n) f b h =
    ⊎_elim (λ (l : b < n). omega (arith, sum_to_part n f b l)) (λ (e : b ≡ n). omega (arith, ap f e)) (below_or_last b n h)

pub sum_to_times : (n k : ℕ) (f : ℕ → ℕ) → sum_to n (λ b. k * f b) ≡ k * sum_to n f
sum_to_times zero k f = omega arith
sum_to_times (suc n) k f = omega (arith, sum_to_times n k f)

pub sum_to_parts : (n m : ℕ) (f : ℕ → ℕ) → sum_to (n + m) f ≡ sum_to n f + sum_to m (λ b. f (n + b))
sum_to_parts n zero f = let e : n + 0 ≡ n = omega arith in omega (arith, ap (λ (k : ℕ). sum_to k f) e)
sum_to_parts n (suc m) f = let e : n + suc m ≡ suc (n + m) = omega arith in omega (arith, ap (λ (k : ℕ). sum_to k f) e, sum_to_parts n m f)

-- over the places of a grid, row by row
pub sum_to_rows : (columns rows : ℕ) (f : ℕ → ℕ) → sum_to (columns * rows) f ≡ sum_to rows (λ r. sum_to columns (λ c. f (columns * r + c)))
sum_to_rows columns zero f = let e : columns * 0 ≡ 0 = omega arith in omega (arith, ap (λ (k : ℕ). sum_to k f) e)
sum_to_rows columns (suc rows) f =
    let e : columns * suc rows ≡ columns * rows + columns = omega arith in
    omega (arith, ap (λ (k : ℕ). sum_to k f) e, sum_to_rows columns rows f, sum_to_parts (columns * rows) columns f)

-- ---- a test adds at most 1; where it never passes nothing, and only where it always passes as much as there are numbers

pub one≤ : (b : Bool) → one b ≤ 1
one≤ true = omega arith
one≤ false = omega arith

pub passes≤ : (n : ℕ) (test : ℕ → Bool) → sum_to n (λ i. one (test i)) ≤ n
passes≤ n test = omega (arith, sum_to_most n 1 (λ i. one (test i)) (λ i l. one≤ (test i)))

pub none_passes : (n : ℕ) (test : ℕ → Bool) → ((i : ℕ) → i < n → test i ≡ true → ⊥) → sum_to n (λ i. one (test i)) ≡ 0
none_passes n test f = omega (arith, sum_to_all n 0 (λ i. one (test i)) (λ i l. no i l (test i) refl))
  where
    no : (i : ℕ) → i < n → (b : Bool) → test i ≡ b → one b ≡ 0
    no i l true e = absurd (f i l e)
    no i l false e = refl

pub all_pass : (n : ℕ) (test : ℕ → Bool) → ((i : ℕ) → i < n → test i ≡ true) → sum_to n (λ i. one (test i)) ≡ n
all_pass n test f = omega (arith, sum_to_all n 1 (λ i. one (test i)) (λ i l. ap one (f i l)))

pub passed_all : (n : ℕ) (test : ℕ → Bool) → sum_to n (λ i. one (test i)) ≡ n → (i : ℕ) → i < n → test i ≡ true
passed_all zero test e i l = absurd (omega arith)
passed_all (suc n) test e i l =
    ⊎_elim
    (λ (l' : i < n). passed_all n test (omega (arith, passes≤ n test, one≤ (test n))) i l')
    (λ (e' : i ≡ n). yes (test i) refl e')
    (below_or_last i n l)
  where
    yes : (b : Bool) → test i ≡ b → i ≡ n → b ≡ true
    yes true h e' = refl
    yes false h e' = absurd (omega (arith, passes≤ n test, ap one h, ap (λ (k : ℕ). one (test k)) e'))
