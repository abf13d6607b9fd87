-- `snap::snap` meets its contract: the unit of a finite coordinate is its product by sixteen, rounded; no other has a unit.
use mathlib.Core.Path.{◌≡◌, subst, sym, ◌∙◌}
use mathlib.Core.Bool.{Bool, true, false, not}
use lib.Dec.{T}
use Rattle.snap.proofs.Product.{product_is_number, product-rounded}
use Rattle.snap.proofs.Unit.{unit_of_is_right}
use Rattle.snap.proofs.snap.Goals as goal

is_finite : {r b : Bool} → r ≡ b → r ≡ true → T b
is_finite e h = subst T (sym h ∙ e) tt

is_not_finite : {r b : Bool} → r ≡ b → r ≡ false → T (not b)
is_not_finite e h = subst (λ (t : Bool). T (not t)) (sym h ∙ e) tt

pub returns-then-not-finite : goal.returns-then-not-finite
returns-then-not-finite c =
    sym ((unit_of_is_right c.args.v).not_finite (is_not_finite c.finite.ensures c.if-not-finite.true))

pub rounded-requires : goal.rounded-requires
rounded-requires c =
    product_is_number c.args.v c.scaled-units.result c.scaled-units.ensures (is_finite c.finite.ensures c.if-not-finite.false)

pub returns : goal.returns
returns c =
    c.rounded.ensures
    ∙ product-rounded c.args.v c.scaled-units.result c.scaled-units.ensures (is_finite c.finite.ensures c.if-not-finite.false)
