-- `audit::tiles_right` says whether all tiles have their chains: those passed so far have, and their blocks are marked.
use Prim.Native.Nat.{◌+◌}
use mathlib.Core.Path.{◌≡◌, ap}
use native.Mathlib.Omega.{arith}
use borrow.Author.Count.{below_more, below_none}
use Rattle.pool.specs.Editions.{layout_for}
use Rattle.audit.specs.Chain.{times_in_first}
use Rattle.audit.specs.Walk.{chain_of}
use Rattle.audit.proofs.Passing.{passes_yes, passes_no, times_more, times_grows}
use Rattle.audit.proofs.tiles_right.Goals as goal

pub loop-t-init : goal.loop-t-init
loop-t-init c = (below_none _, λ b. omega arith)

pub tile_right-requires : goal.tile_right-requires
tile_right-requires c = (c.requires.0, omega arith, omega arith)

pub returns-then-not-tile_right : goal.returns-then-not-tile_right
returns-then-not-tile_right c =
    let i = c.loop-t.invariant in
    let t = c.loop-t.t in
    let f = chain_of (layout_for c.args.header.layout) c.args.pool.now c.args.header.start in
    passes_no (λ tiles apart.
    c.tile_right.ensures.no c.if-not-tile_right.true (tiles t (omega arith))
    (λ b lt. omega (arith, i.1 b, times_more b f t, times_grows b f (t + 1) c.args.header.tiles (omega arith), apart b lt)))

pub loop-t-preserved : goal.loop-t-preserved
loop-t-preserved c =
    let i = c.loop-t.invariant in
    let t = c.loop-t.t in
    let f = chain_of (layout_for c.args.header.layout) c.args.pool.now c.args.header.start in
    let x = c.tile_right.ensures.yes c.if-not-tile_right.false in
    (below_more _ _ i.0 x.0, λ b. omega (arith, i.1 b, x.1 b, times_more b f t))

pub returns : goal.returns
returns c =
    let i = c.loop-t.invariant in
    let f = chain_of (layout_for c.args.header.layout) c.args.pool.now c.args.header.start in
    let e : c.loop-t.t ≡ c.args.header.tiles = omega arith in
    passes_yes (λ t lt. i.0 t (omega arith)) (λ b. omega (arith, i.1 b, ap (times_in_first b f) e))
