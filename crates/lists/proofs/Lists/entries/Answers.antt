-- `entries`: the tile's first word is the length of its list.
use mathlib.Core.Path.{sym, ◌∙◌}
use native.Mathlib.Omega.{arith}
use Rattle.lists.proofs.Reaches.{tile_in, entries_list}
use Rattle.lists.proofs.Lists.entries.Goals as goal

pub tile_word-requires : goal.tile_word-requires
tile_word-requires c = tile_in c.requires (omega arith)

pub returns-clause-list : goal.returns-clause-list
returns-clause-list c = c.tile_word.ensures ∙ sym (entries_list c.requires)
