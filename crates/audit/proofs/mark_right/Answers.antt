-- `audit::mark_right` compares the mark with the entries, and with what the blocks hold.
use mathlib.Core.Path.{ap}
use Prim.Native.Nat.{ℕ, ◌*◌, ◌≤◌}
use native.Mathlib.Nat.{mul-le-mul_left}
use native.Mathlib.Omega.{arith}
use borrow.Author.Tests.{leb-true, leb-false}
use Rattle.numbers.proofs.Says.{says_no}
use Rattle.pool.specs.Editions.{layout_for}
use Rattle.pool.proofs.Editions.{sized}
use Rattle.audit.proofs.Reading.{tile_word_lem, tile_entries}
use Rattle.audit.proofs.mark_right.Goals as goal

pub returns-then-mark-wide : goal.returns-then-mark-wide
returns-then-mark-wide c =
    let p = c.args.pool.now in
    let at = c.wide.ensures in
    says_no (λ h. omega (arith, h.above, tile_entries (layout_for c.args.header.layout) p at, tile_word_lem (layout_for c.args.header.layout) p 3 at))

pub overflow_mul-result : goal.overflow_mul-result
overflow_mul-result c =
    let h : c.wide-3.result ≤ 4294967295 = omega arith in
    let w : c.args.header.layout.ids * c.wide-3.result ≤ c.args.header.layout.ids * 4294967295 = mul-le-mul_left c.args.header.layout.ids h in
    omega (arith, w, (sized c.args.header.layout c.args.header.known).ids≤)

pub returns : goal.returns
returns c =
    let p = c.args.pool.now in
    let at = c.wide.ensures in
    let entries = tile_entries (layout_for c.args.header.layout) p at in
    let mark = tile_word_lem (layout_for c.args.header.layout) p 3 at in
    let most = ap (λ (n : ℕ). c.args.header.layout.ids * n) c.wide-3.ensures in
    record {
      yes = λ e. record { above = omega arith; below = omega (arith, leb-true) };
      no = λ e h. omega (arith, leb-false, h.below);
    }
