-- `mark`: the tile's fourth word.
use native.Mathlib.Omega.{arith}
use Rattle.lists.proofs.Reaches.{tile_in}
use Rattle.lists.proofs.Lists.mark.Goals as goal

pub tile_word-requires : goal.tile_word-requires
tile_word-requires c = tile_in c.requires (omega arith)
