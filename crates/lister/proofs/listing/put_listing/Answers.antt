-- `put_listing`: the line of the screen, and the lines of the tiles behind it.
use mathlib.Core.Path.{◌≡◌, ap}
use Prim.Native.Nat.{◌^◌, ℕ}
use mathlib.Core.List.{List}
use lib.ListN.{length, get_or, length-append}
use native.Mathlib.Omega.{arith}
use Rattle.pool.specs.Words.{layout_of, start, room, header_word}
use Rattle.pool.specs.Sound.{blocks_of}
use Rattle.audit.specs.declared.header.Header.{Header}
use Rattle.audit.specs.Answer.{HeaderOf}
use Rattle.lister.specs.Listing.{screen_line, listing}
use Rattle.pool.proofs.Putting.{puts_then}
use Rattle.lister.proofs.listing.put_listing.Goals as goal

-- the line of the screen, by the words of the header
line : (p : List ℕ) (h : Header) → HeaderOf (layout_of p) p h
    → screen_line h.grid.screen.width h.grid.screen.height (2 ^ h.grid.screen.s) h.blocks (get_or p 4 0)
    ≡ screen_line (header_word p 0) (header_word p 1) (2 ^ header_word p 2) (blocks_of p) (header_word p 4)
unfolding header_word
line p header h = λ i. screen_line (h.screen i).width (h.screen i).height (2 ^ (h.screen i).s) (h.blocks i) (get_or p 4 0)

pub bounds-pool-4 : goal.bounds-pool-4
unfolding room start
bounds-pool-4 c = omega (arith, c.requires.sound.opened.long)

pub put_screen-at-requires : goal.put_screen-at-requires
unfolding listing
put_screen-at-requires c =
    omega (arith, ap length (line c.args.pool.now c.args.header c.requires.header_of), simp length-append at c.requires.pool_in_bounds_2)

pub put_tiles-requires : goal.put_tiles-requires
unfolding listing
put_tiles-requires c = record {
  sound = c.requires.sound;
  header_of = c.requires.header_of;
  pool_in_bounds = c.requires.pool_in_bounds;
  pool_in_bounds_2 = omega (
    arith,
    ap length (line c.args.pool.now c.args.header c.requires.header_of),
    simp length-append at c.requires.pool_in_bounds_2,
    c.put_screen-at.ensures.next_is,
  );
}

pub returns : goal.returns
unfolding listing
returns c = puts_then (rw (line c.args.pool.now c.args.header c.requires.header_of) at c.put_screen-at.ensures) c.put_tiles.ensures
