-- Every fact about products that the geometry needs is a sum of these: a product of two differences that are not negative is not negative.
use Prim.Native.Nat.{ℕ, ◌+◌, ◌*◌, ◌-◌, ◌≤◌}
use mathlib.Core.Path.{subst}
use native.Mathlib.Omega.{arith}
use native.Mathlib.Nat.{mul-le-mul_right, add-sub_of_le}

core : (a b c e : ℕ) → a ≤ b → a * (c + e) + b * c ≤ a * c + b * (c + e)
core a b c e h = omega (arith, mul-le-mul_right e h)

-- (b − a)(d − c) ≥ 0
pub rearr : (a b c d : ℕ) → a ≤ b → c ≤ d → a * d + b * c ≤ a * c + b * d
rearr a b c d h k = subst (λ (z : ℕ). a * z + b * c ≤ a * c + b * z) (add-sub_of_le k) (core a b c (d - c) h)
