-- The library's least and greatest of two numbers are those of the definitions.
use mathlib.Core.Path.{◌≡◌}
use native.Mathlib.Omega.{arith}
use lib.IntN.{ℤ}
use Rattle.std.proofs.lemmas.Int.{ints}
use Rattle.std.specs.Int.{int_min, int_max}
use Rattle.touch.specs.Corner.{lesser, greater}

pub min_is : (x y : ℤ) → int_min x y ≡ lesser x y
min_is x y = grind (arith, ints)

pub max_is : (x y : ℤ) → int_max x y ≡ greater x y
max_is x y = grind (arith, ints)
