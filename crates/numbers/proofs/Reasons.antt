-- The number of a refusal tells which it is, and is never 0: so an answer is refused exactly if its number is not 0.
use Rattle.std.specs.Prelude.{Result, Ok, Err}
use Rattle.std.proofs.Common.{◌≡◌, ℕ, ◌<◌, cond, eqb, refl, ap, sym, ◌∙◌, arith}
use Rattle.numbers.specs.declared.Refusal.{Refusal}
use Rattle.numbers.specs.declared.Refusal.TheVariants as why
use Rattle.numbers.specs.Refusal.{number_of, number_in}

-- the refusal of a number, and some refusal where a number has none
abbrev of_number : ℕ → Refusal
of_number n =
    cond (eqb n 1) why.Screen (
    cond (eqb n 2) why.Blocks (
    cond (eqb n 3) why.ShortPool (
    cond (eqb n 4) why.Unsound (
    cond (eqb n 5) why.Id (
    cond (eqb n 6) why.NotFinite (
    cond (eqb n 7) why.OutOfRange (
    cond (eqb n 8) why.NoRoom (
    cond (eqb n 9) why.NoTile (
    cond (eqb n 10) why.NoPlace (
    cond (eqb n 11) why.ShortSlice why.BadList))))))))))

of_number_of : (r : Refusal) → of_number (number_of r) ≡ r
of_number_of why.Screen = refl
of_number_of why.Blocks = refl
of_number_of why.ShortPool = refl
of_number_of why.Unsound = refl
of_number_of why.Id = refl
of_number_of why.NotFinite = refl
of_number_of why.OutOfRange = refl
of_number_of why.NoRoom = refl
of_number_of why.NoTile = refl
of_number_of why.NoPlace = refl
of_number_of why.ShortSlice = refl
of_number_of why.BadList = refl

pub number_once : {r s : Refusal} → number_of r ≡ number_of s → r ≡ s
number_once {r} {s} e = sym (of_number_of r) ∙ ap of_number e ∙ of_number_of s

number> : (r : Refusal) → 0 < number_of r
number> why.Screen = omega arith
number> why.Blocks = omega arith
number> why.ShortPool = omega arith
number> why.Unsound = omega arith
number> why.Id = omega arith
number> why.NotFinite = omega arith
number> why.OutOfRange = omega arith
number> why.NoRoom = omega arith
number> why.NoTile = omega arith
number> why.NoPlace = omega arith
number> why.ShortSlice = omega arith
number> why.BadList = omega arith

-- it is never 0
pub number_nonzero : (r : Refusal) → number_of r ≡ 0 → ⊥
number_nonzero r e = omega (arith, number> r)

-- so the number of an answer that has one value at most tells the answer
pub number_in_once : {A : Type 0} → ((a b : A) → a ≡ b) → (x y : Result A Refusal) → number_in x ≡ number_in y → x ≡ y
number_in_once one (Ok a) (Ok b) e = ap Ok (one a b)
number_in_once one (Ok a) (Err s) e = absurd (number_nonzero s (sym e))
number_in_once one (Err r) (Ok b) e = absurd (number_nonzero r e)
number_in_once one (Err r) (Err s) e = ap Err (number_once e)
