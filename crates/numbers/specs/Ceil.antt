-- A quotient, rounded up.
use Rattle.std.specs.Prelude.{ℕ, ◌+◌, ◌-◌, ◌/◌}

-- how many parts of the size b cover a
abbrev pub ceil : ℕ → ℕ → ℕ
ceil a b = (a + (b - 1)) / b
