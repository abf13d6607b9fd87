-- Numbers as text.
use Rattle.std.specs.Prelude.{cond, List, [], ◌∷◌, ◌++◌, ℕ, zero, suc, ◌+◌, ◌/◌, ◌%◌, ltb}

-- the decimal digits of n, of which there are at most `most` + 1: those of n / 10, and the last
abbrev pub numeral_to : (most n : ℕ) → List ℕ
numeral_to zero n = (48 + n % 10) ∷ []
numeral_to (suc most) n = cond (ltb n 10) ((48 + n % 10) ∷ []) (numeral_to most (n / 10) ++ ((48 + n % 10) ∷ []))

-- the decimal digits of n, with no zero in front
unfoldable pub numeral : (n : ℕ) → List ℕ
numeral n = numeral_to n n

-- text, and the number behind it
unfoldable pub field : List ℕ → (n : ℕ) → List ℕ
field name n = name ++ numeral n
