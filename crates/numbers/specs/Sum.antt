-- A sum over the numbers from 0 on, and what a test adds to one.
use Rattle.std.specs.Prelude.{Bool, true, false, ℕ, zero, suc, ◌+◌}

-- f 0 + f 1 + .. : n summands
abbrev pub sum_to : ℕ → (ℕ → ℕ) → ℕ
sum_to zero f = 0
sum_to (suc n) f = sum_to n f + f n

-- 1 for yes, 0 for no
abbrev pub one : Bool → ℕ
one true = 1
one false = 0
