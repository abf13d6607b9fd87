-- `put_tiles`: after t tiles, their lines have been put.
use mathlib.Core.Path.{◌≡◌, refl, sym, ap, ap₂, subst, ◌∙◌}
use mathlib.Core.List.{List}
use Prim.Native.Nat.{ℕ, ◌<◌}
use lib.ListN.{length}
use native.Mathlib.Omega.{arith}
use Rattle.pool.specs.Words.{Layout, layout_of}
use Rattle.pool.specs.Editions.{layout_for, Sized}
use Rattle.pool.specs.Sound.{Sound, tiles_of}
use Rattle.pool.specs.Lists.{list_of}
use Rattle.audit.specs.declared.header.Header.{Header}
use Rattle.audit.specs.Answer.{HeaderOf}
use Rattle.lister.specs.Listing.{tile_line}
use Rattle.pool.proofs.Putting.{puts_none, puts_then, puts_long}
use Rattle.lister.proofs.Lines.{tile_lines-next, tile_lines_grow, list≤}
use Rattle.lister.proofs.listing.put_tiles.Goals as goal

-- a list is that of the layout and the tiles that the header carries
list_is : (p : List ℕ) (header : Header) → HeaderOf (layout_of p) p header → (T t : ℕ) → T ≡ header.tiles
    → list_of (layout_for header.layout) T p t ≡ list_of (layout_of p) (tiles_of p) p t
list_is p header h T t e = ap₂ (λ (L : Layout) (n : ℕ). list_of L n p t) h.layout (e ∙ h.tiles)

pub loop-t-init : goal.loop-t-init
loop-t-init c = (puts_none _ _, refl)

pub put_tile-next-requires : goal.put_tile-next-requires
put_tile-next-requires c =
    let l = c.loop-t in
    let p = c.args.pool.now in
    let h = c.requires.header_of in
    let lt : l.t < tiles_of p = omega (arith, h.tiles) in
    let grow = tile_lines_grow p l.t (tiles_of p) lt in
    let list = list_is p c.args.header h c.wide-all.result l.t c.wide-all.ensures in
    record {
      among = record {
        sound = subst (λ (L : Layout). Sound L p) (sym h.layout) c.requires.sound;
        sized = subst Sized (sym h.layout) h.sized;
        tiles = c.wide-all.ensures ∙ h.tiles;
        tile = omega (arith, c.wide-all.ensures);
      };
      tile_in_bounds = omega (arith, ap length list, list≤ p c.requires.sound l.t lt, c.requires.pool_in_bounds);
      tile_in_bounds_2 = omega (arith, ap (λ (x : List ℕ). length (tile_line l.t x)) list, grow, l.invariant.0.next_is, puts_long l.invariant.0, c.requires.pool_in_bounds_2);
    }

pub loop-t-preserved : goal.loop-t-preserved
loop-t-preserved c =
    let l = c.loop-t in
    let p = c.args.pool.now in
    let list = list_is p c.args.header c.requires.header_of c.wide-all.result l.t c.wide-all.ensures in
    let put = puts_then l.invariant.0 (rw list at c.put_tile-next.ensures) in
    (rw (tile_lines-next p l.t) put, omega arith)

pub shape_of-list : goal.shape_of-list
shape_of-list c = c.loop-t.invariant.1

pub shape_of-out : goal.shape_of-out
shape_of-out c = puts_long c.loop-t.invariant.0

pub returns : goal.returns
returns c =
    let e : c.loop-t.t ≡ tiles_of c.args.pool.now = omega (arith, c.requires.header_of.tiles) in
    rw e at c.loop-t.invariant.0
