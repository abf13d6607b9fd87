-- `put_list`: stretch after stretch of the list is copied behind the other, and with none left all of it is.
use mathlib.Core.Path.{◌≡◌, ap, ◌∙◌}
use mathlib.Core.List.{List}
use Prim.Native.Nat.{ℕ, ◌+◌, ◌-◌, ◌≤◌, ◌<◌}
use native.Mathlib.Omega.{arith}
use lib.ListN.{length, take, drop, length-drop}
use lib.Seq.{take_all}
use Rattle.pool.specs.Editions.{layout_for}
use Rattle.pool.specs.Written.{written}
use Rattle.pool.proofs.Putting.{puts_long}
use Rattle.frame.proofs.Copying.{Copying, copy_start, copy_block, copy_part, copy_step}
use Rattle.frame.proofs.put_list.Goals as goal
use Rattle.frame.proofs.put_list.Goals.{After-stretch_at-stretch, At-loop-next}

-- where the list ends, as the code reckons it
ends : (at : ℕ) {words found held : ℕ} → words ≡ found → found ≡ held → at + words ≡ at + held
ends at w e = ap (λ (n : ℕ). at + n) (w ∙ e)

-- that much of the tile's list
copying : (l : At-loop-next) → let a = l.args in
    Copying (layout_for a.lists.layout) a.lists.tiles a.pool.now a.tile.0 a.list.now a.at l.loop-next.list l.loop-next.link l.loop-next.next
copying l =
    l.loop-next.invariant l.args.tile.0 l.requires.among l.first-link.ensures (ends l.args.at l.wide.ensures l.entries.ensures.list)

-- what is copied next lies in the pool; there is some of it, and no more than is left
next-part : (c : After-stretch_at-stretch) → let r = c.stretch_at-stretch.result in
    let a = c.args in
    (r.at + r.count ≤ length a.pool.now) × (0 < r.count) × (r.count ≤ (a.at + c.wide.result) - c.loop-next.next)
next-part c =
    let a = c.args in
    let e = ends a.at c.wide.ensures c.entries.ensures.list in
    let so_far = c.loop-next.invariant a.tile.0 c.requires.among c.first-link.ensures e in
    copy_part c.requires.among so_far (omega (arith, e, c.loop-next-test.true)) (ap (λ (n : ℕ). n - c.loop-next.next) e) c.stretch_at-stretch.ensures

pub loop-next-init : goal.loop-next-init
loop-next-init c = λ t G e h. rw e (copy_start G)

pub stretch_at-stretch-requires : goal.stretch_at-stretch-requires
stretch_at-stretch-requires c =
    copy_block c.requires.among (copying (goal.at.stretch_at-stretch-requires c).At-loop-next) (omega (arith, ends c.args.at c.wide.ensures c.entries.ensures.list, c.loop-next-test.true))

pub offset_bounds-pool-from : goal.offset_bounds-pool-from
offset_bounds-pool-from c = omega (arith, next-part (goal.at.offset_bounds-pool-from c).After-stretch_at-stretch)

pub slice_bounds-copy_stretch-count : goal.slice_bounds-copy_stretch-count
slice_bounds-copy_stretch-count c = omega (arith, next-part (goal.at.slice_bounds-copy_stretch-count c).After-stretch_at-stretch)

pub slice_bounds-copy_stretch-start : goal.slice_bounds-copy_stretch-start
slice_bounds-copy_stretch-start c = omega (arith, next-part (goal.at.slice_bounds-copy_stretch-start c).After-stretch_at-stretch)

pub copy_stretch-requires : goal.copy_stretch-requires
copy_stretch-requires c =
    let n = next-part (goal.at.copy_stretch-requires c).After-stretch_at-stretch in
    (omega (arith, n.0), omega (arith, n.2, ends c.args.at c.wide.ensures c.entries.ensures.list, puts_long (copying (goal.at.copy_stretch-requires c).At-loop-next).put, c.requires.tile_in_bounds))

pub loop-next-preserved : goal.loop-next-preserved
loop-next-preserved c =
    let r = c.stretch_at-stretch.result in
    let p = c.args.pool.now in
    let rest = take_all (length p - r.at) (drop r.at p) (omega (arith, length-drop r.at p)) in
    let put = c.copy_stretch.ensures ∙ ap (λ (w : List ℕ). written c.loop-next.list c.loop-next.next (take r.count w)) rest in
    λ t G e h. copy_step G (c.loop-next.invariant t G e h) (omega (arith, h, c.loop-next-test.true))
    (ap (λ (n : ℕ). n - c.loop-next.next) h) c.stretch_at-stretch.ensures put
