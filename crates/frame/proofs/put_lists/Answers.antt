-- `put_lists`: tile after tile its start is written and its list put behind the others; the last start is where the last list ends.
use mathlib.Core.Path.{refl}
use Prim.Native.Nat.{◌+◌, ◌^◌, ◌<◌}
use native.Mathlib.Omega.{arith}
use Rattle.pool.specs.Editions.{layout_for}
use Rattle.pool.proofs.Putting.{puts_long}
use Rattle.frame.proofs.Lists.{frame_none, frame-next, frame_all, lists_longer, lists_grow, lists_fit}
use Rattle.frame.proofs.put_lists.Goals as goal
use Rattle.frame.proofs.put_lists.Goals.{At-loop-t}

-- the place of the next list fits a word
place-fits : (l : At-loop-t) → l.loop-t.next < 2 ^ 32
place-fits l =
    omega (arith, l.loop-t.invariant.listed.next_is, lists_fit l.requires.sound.0 l.requires.sound.1 l.requires.sound.2 l.loop-t.t l.loop-t.invariant.upto)

pub loop-t-init : goal.loop-t-init
loop-t-init c = frame_none

pub narrow-requires : goal.narrow-requires
narrow-requires c = place-fits (goal.at.narrow-requires c).At-loop-t

pub put_list-next-requires-clause-tile_in_bounds : goal.put_list-next-requires-clause-tile_in_bounds
put_list-next-requires-clause-tile_in_bounds c =
    let L = layout_for c.args.lists.layout in
    let T = c.args.lists.tiles in
    let p = c.args.pool.now in
    let t = c.loop-t.t in
    let more = lists_grow L T p (t + 1) T (omega (arith, c.loop-t-test.true, c.narrow-t-end.ensures)) in
    omega (arith, c.loop-t.invariant.listed.next_is, lists_longer L T p t, more, puts_long c.loop-t.invariant.listed, c.requires.tiles_in_bounds)

pub loop-t-preserved : goal.loop-t-preserved
loop-t-preserved c =
    frame-next c.loop-t.invariant _ _ c.wide.ensures c.narrow.ensures (omega (arith, c.loop-t-test.true, c.narrow-t-end.ensures)) c.put_list-next.ensures

pub narrow-requires-2 : goal.narrow-requires-2
narrow-requires-2 c = place-fits (goal.at.narrow-requires-2 c).At-loop-t

pub returns-clause-starts : goal.returns-clause-starts
returns-clause-starts c = frame_all c.loop-t.invariant _ _ refl c.narrow-2.ensures (omega (arith, c.loop-t-test.false, c.narrow-t-end.ensures))
