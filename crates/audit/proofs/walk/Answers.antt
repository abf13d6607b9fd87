-- `audit::walk` finds a chain right or broken: what is left of the walk is right exactly where the whole is (`Going`).
use Prim.Native.Nat.{ℕ, suc, ◌+◌, ◌*◌, ◌-◌, ◌<◌, ◌≤◌}
use native.Mathlib.Nat.{mul-le-mul_left}
use mathlib.Core.Path.{◌≡◌, ap}
use native.Mathlib.Omega.{arith}
use lib.ListN.{length, get_or}
use Rattle.pool.specs.Editions.{layout_for}
use Rattle.audit.specs.Walk.{block_start}
use Rattle.audit.proofs.Follow.{going_start, going_step, going_next, going_stops, going_ends}
use Rattle.audit.proofs.walk.Goals as goal
use Rattle.audit.proofs.walk.Goals.{Start}

-- the block that a link names ends within the slice
within : (s : Start) (link : ℕ) → 0 < link → link ≤ s.args.header.blocks
    → block_start (layout_for s.args.header.layout) s.args.header.start (link - 1 + 1) ≤ length s.args.pool.now
within s link some h =
    let e : link - 1 + 1 ≡ link = omega arith in
    let w : suc s.args.header.layout.ids * link ≤ suc s.args.header.layout.ids * s.args.header.blocks = mul-le-mul_left (suc s.args.header.layout.ids) h in
    rw e (omega (arith, w, s.requires.0))

pub loop-left-init : goal.loop-left-init
loop-left-init c = going_start _ _ _ _ _ _ _ _

pub returns-then-link-eq0 : goal.returns-then-link-eq0
returns-then-link-eq0 c = λ r apart. omega (arith, (going_next _ _ _ _ c.loop-left.invariant (omega arith) r.chain r.filled apart).0)

pub returns-then-link-header : goal.returns-then-link-header
returns-then-link-header c = λ r apart. omega (arith, (going_next _ _ _ _ c.loop-left.invariant (omega arith) r.chain r.filled apart).1)

pub returns-then-marks-b-ne0 : goal.returns-then-marks-b-ne0
returns-then-marks-b-ne0 c = λ r apart. omega (arith, (going_next _ _ _ _ c.loop-left.invariant (omega arith) r.chain r.filled apart).2, ap (λ (i : ℕ). get_or c.loop-left.marks i 0) c.wide-b.ensures)

pub block_right-requires : goal.block_right-requires
block_right-requires c =
    let link = c.loop-left.link in
    (within (goal.at.block_right-requires c).Start link (omega arith) (omega arith), omega (arith, c.min-k.ensures))

pub returns-then-not-block_right : goal.returns-then-not-block_right
returns-then-not-block_right c = λ r apart.
    c.block_right.ensures.no c.if-not-block_right.true (rw c.min-k.ensures (going_next _ _ _ _ c.loop-left.invariant (omega arith) r.chain r.filled apart).3)

pub link_of-link-requires : goal.link_of-link-requires
link_of-link-requires c =
    let link = c.loop-left.link in
    within (goal.at.link_of-link-requires c).Start link (omega arith) (omega arith)

pub loop-left-preserved : goal.loop-left-preserved
loop-left-preserved c =
    rw (c.wide-b.ensures, c.link_of-link.ensures)
    (going_step _ _ _ _ c.loop-left.invariant _ (omega arith) (omega arith) (omega arith) (omega arith) (omega (arith, ap (λ (i : ℕ). get_or c.loop-left.marks i 0) c.wide-b.ensures))
    c.min-k.ensures (c.block_right.ensures.yes c.if-not-block_right.false))

pub returns-then-link-ne0 : goal.returns-then-link-ne0
returns-then-link-ne0 c = λ r apart. omega (arith, going_stops _ _ _ _ c.loop-left.invariant (omega arith) r.chain)

pub returns : goal.returns
returns c =
    let e = going_ends _ _ _ _ c.loop-left.invariant (omega arith) (omega arith) in
    record { run = record { chain = e.0; filled = e.1 }; last_is = e.2; marked = e.3 }
