-- The digits that `io::decimal` makes are the numeral; and how many there are at most.
use mathlib.Core.Path.{◌≡◌, refl, ap₂}
use mathlib.Core.Logic.{⊎_elim}
use mathlib.Core.List.{List, [], ◌∷◌, ◌++◌}
use Prim.Native.Nat.{ℕ, zero, suc, ◌+◌, ◌*◌, ◌-◌, ◌/◌, ◌%◌, ◌^◌, ◌≤◌, ◌<◌}
use native.Mathlib.Nat.{pow-suc, one-le-pow}
use native.Mathlib.Omega.{arith}
use borrow.Author.Tests.{lt-ltb, le-ltb}
use lib.ListN.{length, length-append}
use Rattle.io.specs.Digits.{hex_digit_ascii, last_digits, IsDigitCount}
use Rattle.numbers.proofs.Ceil.{lt_or_ge}
use Rattle.lister.specs.Text.{numeral_to, numeral, field}

-- ---- the digits

last_digit : (n : ℕ) → hex_digit_ascii (n % 10) ≡ 48 + n % 10
last_digit n = rw (lt-ltb (n % 10) 10 (omega arith))

-- a numeral of one digit, and a longer one
short : (f n : ℕ) → n < 10 → numeral_to f n ≡ (48 + n % 10) ∷ []
short zero n h = refl
short (suc f) n h = rw (lt-ltb n 10 h)

longer : (f n : ℕ) → 10 ≤ n → numeral_to (suc f) n ≡ numeral_to f (n / 10) ++ ((48 + n % 10) ∷ [])
longer f n h = rw (le-ltb n 10 h)

-- of two digits or more, the first is not 0
least : (k n : ℕ) → IsDigitCount 10 1 n (suc (suc k)) → (10 ^ k * 10 ≤ n) × (0 < 10 ^ k)
least k n F =
    let e : suc (suc k) - 1 ≡ suc k = omega arith in
    (rw (e, pow-suc) at (F.2 (omega arith)), one-le-pow k 10 (omega arith))

digits_numeral : (f k n : ℕ) → n ≤ f → IsDigitCount 10 1 n k → last_digits 10 k n ≡ numeral_to f n
digits_numeral f zero n h F = absurd (omega (arith, F.0))
digits_numeral f (suc zero) n h F = rw (last_digit n, short f n F.1)
digits_numeral zero (suc (suc k)) n h F = absurd (omega (arith, least k n F))
digits_numeral (suc f) (suc (suc k)) n h F =
    let l = least k n F in
    let u : n < 10 ^ suc k * 10 = rw pow-suc at F.1 in
    let e : suc k - 1 ≡ k = omega arith in
    let rest = digits_numeral f (suc k) (n / 10) (omega arith) (omega arith, omega arith, λ (z : 1 < suc k). rw e (omega arith)) in
    rw (longer f n (omega arith)) (ap₂ (λ (s : List ℕ) (d : ℕ). s ++ (d ∷ [])) rest (last_digit n))

pub decimal_numeral : (k n : ℕ) → IsDigitCount 10 1 n k → last_digits 10 k n ≡ numeral n
unfolding numeral
decimal_numeral k n F = digits_numeral n k n (omega arith) F

-- ---- how many

numeral_to≤ : (f j n : ℕ) → n < 10 ^ suc j → length (numeral_to f n) ≤ suc j
numeral_to≤ zero j n h = omega arith
numeral_to≤ (suc f) zero n h = rw (short (suc f) n h) (omega arith)
numeral_to≤ (suc f) (suc j) n h =
    let u : n < 10 ^ suc j * 10 = rw pow-suc at h in
    ⊎_elim (λ (l : n < 10). rw (short (suc f) n l) (omega arith))
    (λ (l : 10 ≤ n).
    rw (longer f n l) (omega (arith, length-append (numeral_to f (n / 10)) ((48 + n % 10) ∷ []), numeral_to≤ f j (n / 10) (omega arith))))
    (lt_or_ge n 10)

pub numeral≤ : (j n : ℕ) → n < 10 ^ suc j → length (numeral n) ≤ suc j
unfolding numeral
numeral≤ j n h = numeral_to≤ n j n h

pub field≤ : (name : List ℕ) (j n : ℕ) → n < 10 ^ suc j → length (field name n) ≤ length name + suc j
unfolding field
field≤ name j n h = omega (arith, length-append name (numeral n), numeral≤ j n h)
