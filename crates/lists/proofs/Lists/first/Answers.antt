-- `first`: the tile's second word.
use native.Mathlib.Omega.{arith}
use Rattle.lists.proofs.Reaches.{tile_in}
use Rattle.lists.proofs.Lists.first.Goals as goal

pub tile_word-requires : goal.tile_word-requires
tile_word-requires c = tile_in c.requires (omega arith)
