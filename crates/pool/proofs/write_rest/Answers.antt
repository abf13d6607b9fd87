-- `write_rest`: a header of eight words has no more; one of ten has the words of a block, and 0.
use mathlib.Core.Path.{◌≡◌, sym, ap, ◌∙◌}
use Prim.Native.Nat.{ℕ, suc, ◌-◌}
use mathlib.Core.List.{[], ◌∷◌}
use lib.ListN.{set, take, length-set}
use native.Mathlib.Numerals.{add-one}
use native.Mathlib.Omega.{arith}
use Rattle.pool.specs.Words.{Layout}
use Rattle.pool.specs.Editions.{layout_for}
use Rattle.pool.specs.Opening.{header_rest}
use Rattle.pool.specs.Written.{written}
use Rattle.pool.proofs.Editions.{ten}
use Rattle.pool.proofs.write_rest.Goals as goal

-- what headers of eight and of ten words have after eight
none : (L : Layout) → L.header ≡ 8 → header_rest L ≡ []
none L e = ap (λ (n : ℕ). take (n - 8) (suc L.ids ∷ 0 ∷ [])) e

two : (L : Layout) → L.header ≡ 10 → header_rest L ≡ suc L.ids ∷ 0 ∷ []
two L e = ap (λ (n : ℕ). take (n - 8) (suc L.ids ∷ 0 ∷ [])) e

pub returns-then-layout-eq8 : goal.returns-then-layout-eq8
unfolding written
returns-then-layout-eq8 c = let a = c.args in sym (ap (written a.pool.now 8) (none (layout_for a.layout) c.if-layout-eq8.true))

pub bounds-pool-8 : goal.bounds-pool-8
bounds-pool-8 c = omega (arith, ten c.requires.0 c.if-layout-eq8.false)

pub bounds-pool-9 : goal.bounds-pool-9
bounds-pool-9 c = simp length-set (omega (arith, ten c.requires.0 c.if-layout-eq8.false))

pub returns : goal.returns
unfolding written
returns c =
    let p = c.args.pool.now in
    let size = c.narrow.ensures ∙ add-one c.args.layout.ids in
    (λ i. set (set p 8 (size i)) 9 0) ∙ sym (ap (written p 8) (two (layout_for c.args.layout) (ten c.requires.0 c.if-layout-eq8.false)))
