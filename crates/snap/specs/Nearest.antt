-- The whole number nearest to a fraction, a half going to the even one. Nothing here is about floats.
use Rattle.std.specs.Prelude.{ℕ, ◌*◌, ◌%◌, ◌≤◌, ◌≡◌, ℤ, pos, nat_abs, ◌-ℤ◌, ◌*ℤ◌}

-- how far z is from n / d, times d
abbrev pub away : ℤ → ℕ → ℤ → ℕ
away n d z = nat_abs (n -ℤ (z *ℤ pos d))

-- z is nearest to n / d, for a d above 0: at most a half away, and even where it is just a half away
pub record Nearest (n : ℤ) (d : ℕ) (z : ℤ) : Type 0 where
  pub near : 2 * away n d z ≤ d
  pub even : 2 * away n d z ≡ d → nat_abs z % 2 ≡ 0
