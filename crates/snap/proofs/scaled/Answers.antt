-- `snap::scaled` meets its contract: the law of the product by sixteen.
use mathlib.Core.Path.{subst, sym}
use lib.Dec.{T}
use lib.Ieee.{of_bits}
use Rattle.snap.proofs.Product.{product_scaled}
use Rattle.snap.proofs.scaled.Goals as goal

pub returns : goal.returns
unfolding of_bits
returns c = product_scaled c.args.v (subst T (sym c.well_formed.0.1) tt)
