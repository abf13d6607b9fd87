-- `audit::edition_of` tells the layouts apart by words 6 and 8; where there is no word 8, it reads as 0.
use mathlib.Core.Path.{◌≡◌, refl, sym}
use native.Mathlib.Omega.{arith}
use borrow.Author.Rules.{rules}
use lib.ListN.{get_or}
use Rattle.pool.specs.Words.{header_word}
use Rattle.pool.proofs.Editions.{layout_one, layout_two_32, layout_two_64}
use Rattle.audit.proofs.edition_of.Goals as goal
use Rattle.audit.proofs.edition_of.Goals.{After-unwrap_or-size}

-- word 8, and 0 where there is none
size-is : (c : After-unwrap_or-size) → c.unwrap_or-size.result ≡ get_or c.args.pool.now 8 0
size-is c = search rules

pub returns-in-10-eq64 : goal.returns-in-10-eq64
unfolding header_word
returns-in-10-eq64 c =
    let size = size-is (goal.at.returns-in-10-eq64 c).After-unwrap_or-size in
    (refl, sym (layout_two_64 c.args.pool.now c.in-10-eq64.is-0 (omega (arith, size, c.in-10-eq64.is-1))))

pub returns-in-10-default : goal.returns-in-10-default
unfolding header_word
returns-in-10-default c =
    let size = size-is (goal.at.returns-in-10-default c).After-unwrap_or-size in
    (refl, sym (layout_two_32 c.args.pool.now c.in-10-default.is-0 (λ e. c.in-10-default.is-1.1 (omega (arith, size, e)))))

pub returns-in_default : goal.returns-in_default
unfolding header_word
returns-in_default c = (refl, sym (layout_one c.args.pool.now c.in_default.is-0.1))
