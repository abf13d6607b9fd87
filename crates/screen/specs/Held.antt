-- The tile of a coordinate along an axis, by division, held to the grid.
use Rattle.std.specs.Prelude.{ℕ, ◌-◌, ◌/◌, min, ℤ}
use Rattle.numbers.specs.Diff.{up}
use Rattle.numbers.specs.Ceil.{ceil}
use Rattle.screen.specs.Screen.{across}
use Rattle.screen.specs.Rectangle.{side}

-- k, or the last of n tiles where there is no tile k
abbrev pub held : (n k : ℕ) → ℕ
held n k = min k (n - 1)

-- x/T rounded down, of an x that is not negative
unfoldable pub rounded_down : (extent s : ℕ) → ℤ → ℕ
rounded_down extent s x = held (across extent s) (up x / side s)

-- x/T rounded up, less one, of an x that is not negative
unfoldable pub rounded_up_less_one : (extent s : ℕ) → ℤ → ℕ
rounded_up_less_one extent s x = held (across extent s) (ceil (up x) (side s) - 1)
