-- An integer as the difference of two naturals, and its positive part: the bridge by which facts of ℤ become facts of ℕ.
use Rattle.std.specs.Prelude.{◌≡◌, ℕ, suc, ◌+◌, ℤ, pos, negsuc}

abbrev pub DiffT : ℤ → ℕ → ℕ → Type 0
DiffT (pos n) a b = a ≡ n + b
DiffT (negsuc n) a b = a + suc n ≡ b

-- the integer z is a − b
pub record Diff (z : ℤ) (a b : ℕ) : Type 0 where
  pub is : DiffT z a b

-- an integer, and 0 where it is negative
abbrev pub up : ℤ → ℕ
up (pos n) = n
up (negsuc n) = 0
