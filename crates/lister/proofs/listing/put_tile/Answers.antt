-- `put_tile`: the entries that were copied are the list; with none of them there is no line.
use mathlib.Core.Path.{◌≡◌, sym, ap, ◌∙◌}
use mathlib.Core.List.{List}
use Prim.Native.Nat.{ℕ, ◌<◌, ◌≤◌}
use lib.ListN.{length, take}
use native.Mathlib.Omega.{arith}
use Rattle.lister.specs.Listing.{line_of, tile_line}
use Rattle.pool.specs.Written.{Puts}
use Rattle.pool.proofs.Putting.{puts_none}
use Rattle.lister.proofs.Writing.{puts_all, puts_counts}
use Rattle.lister.proofs.Lines.{tile_line_some}
use borrow.Author.Rules.{rules}
use Rattle.lister.proofs.listing.put_tile.Goals as goal

-- the line of a tile, where some entries were copied
line : {list₀ entries list : List ℕ} {n : ℕ} (t : ℕ) → Puts list₀ 0 entries list n → length entries ≤ length list₀ → 0 < n
    → tile_line t entries ≡ line_of t (take n list)
line t P room some = tile_line_some t _ (omega (arith, P.next_is)) ∙ ap (line_of t) (sym (puts_all P room))

pub returns-then-count-eq0 : goal.returns-then-count-eq0
returns-then-count-eq0 c =
    let e = rw c.if-count-eq0.true at (puts_all c.put_list-count.ensures c.requires.tile_in_bounds) in
    rw (← e) (puts_none _ _)

pub slice_bounds-put_line-end : goal.slice_bounds-put_line-end
slice_bounds-put_line-end c = let e = puts_counts c.put_list-count.ensures c.requires.tile_in_bounds in search (rules, e)

pub slice_bounds-put_line-end-2 : goal.slice_bounds-put_line-end-2
slice_bounds-put_line-end-2 c = let e = puts_counts c.put_list-count.ensures c.requires.tile_in_bounds in search (rules, e)

pub put_line-requires : goal.put_line-requires
put_line-requires c = rw (line c.args.tile.0 c.put_list-count.ensures c.requires.tile_in_bounds (omega arith)) at c.requires.tile_in_bounds_2

pub returns : goal.returns
returns c = rw (line c.args.tile.0 c.put_list-count.ensures c.requires.tile_in_bounds (omega arith)) c.put_line.ensures
