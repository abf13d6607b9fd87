-- `audit::rest_right` tests the two words that the second edition's header has more.
use native.Mathlib.Omega.{arith}
use borrow.Author.Tests.{eqb-true, eqb-false}
use Rattle.numbers.proofs.Says.{says_yes, says_no}
use Rattle.pool.specs.Words.{header_word}
use Rattle.pool.proofs.Editions.{ten, sized}
use Rattle.audit.proofs.rest_right.Goals as goal

pub returns-then-layout-eq8 : goal.returns-then-layout-eq8
returns-then-layout-eq8 c = says_yes (record { size = λ h. absurd (omega (arith, c.if-layout-eq8.true)); zero = λ h. absurd (omega (arith, c.if-layout-eq8.true)) })

pub bounds-pool-8 : goal.bounds-pool-8
bounds-pool-8 c = omega (arith, ten (sized c.args.layout c.requires.0) c.if-layout-eq8.false)

pub overflow_add-layout : goal.overflow_add-layout
overflow_add-layout c = omega (arith, (sized c.args.layout c.requires.0).ids≤)

pub returns-then-wide-layout : goal.returns-then-wide-layout
unfolding header_word
returns-then-wide-layout c = let z = ten (sized c.args.layout c.requires.0) c.if-layout-eq8.false in says_no (λ h. omega (arith, c.if-wide-layout.true, h.size (omega arith)))

pub bounds-pool-9 : goal.bounds-pool-9
bounds-pool-9 c = omega (arith, ten (sized c.args.layout c.requires.0) c.if-layout-eq8.false)

pub returns : goal.returns
unfolding header_word
returns c =
    let z = ten (sized c.args.layout c.requires.0) c.if-layout-eq8.false in
    record {
      yes = λ e. record { size = λ h. omega arith; zero = λ h. omega (arith, eqb-true) };
      no = λ e h. omega (arith, eqb-false, h.zero (omega arith));
    }
