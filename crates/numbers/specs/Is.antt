-- A machine value and the integer that it stands for.
use Rattle.std.specs.Prelude.{◌≡◌, ℕ, ◌≤◌, ℤ, nat_abs}
use Rattle.std.specs.Int.{Width}
use Rattle.std.proofs.Common.{to_z, of_z}

-- v, which the machine reads back from its bits, is the integer z, and z is at most M in size
pub record Is (v z : ℤ) (M : ℕ) : Type 0 where
  pub same : v ≡ z
  pub size : nat_abs z ≤ M

-- what is read back from the bits of z
abbrev pub kept : Width → ℤ → ℤ
kept w z = to_z w (of_z w z)
