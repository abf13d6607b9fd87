-- `append_all`: to append to the tiles that are left ends in the words that are promised.
use mathlib.Core.Path.{◌≡◌}
use lib.ListN.{length, drop}
use Rattle.pool.specs.Editions.{layout_for}
use Rattle.lists.specs.Appending.{append_named}
use Rattle.lists.proofs.AppendLoop.{Appending}
use Rattle.lists.proofs.Lists.append_all.Given as goal

abbrev pub invariant-loop-word : goal.invariant-loop-word
invariant-loop-word l =
    (length l.pool ≡ length l.initial.pool) × Appending (layout_for l.self.layout) l.pool l.self.tiles (drop l.word-index l.named) l.id (append_named (layout_for l.self.layout) l.self.tiles l.initial.pool l.named l.id)
