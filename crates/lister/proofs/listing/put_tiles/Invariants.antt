-- `put_tiles`: after t tiles, their lines have been put.
use mathlib.Core.Path.{◌≡◌}
use lib.ListN.{length}
use Rattle.pool.specs.Written.{Puts}
use Rattle.lister.specs.Listing.{tile_lines}
use Rattle.lister.proofs.listing.put_tiles.Given as goal

abbrev pub invariant-loop-t : goal.invariant-loop-t
invariant-loop-t l = Puts l.initial.out l.at (tile_lines l.pool l.t) l.out l.next × (length l.list ≡ length l.initial.list)
