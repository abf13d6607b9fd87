-- `need`: the blocks counted, and those that the tiles which are left need, are all.
use mathlib.Core.Path.{◌≡◌}
use Prim.Native.Nat.{◌+◌, ◌≤◌}
use lib.ListN.{drop}
use Rattle.numbers.specs.Flag.{plains}
use Rattle.pool.specs.Editions.{layout_for}
use Rattle.lists.specs.Appending.{need}
use Rattle.lists.specs.Reach.{AllAmong}
use Rattle.lists.proofs.Lists.need.Given as goal

abbrev pub invariant-loop-word : goal.invariant-loop-word
invariant-loop-word l =
    (l.blocks ≤ l.word-index) × AllAmong (layout_for l.self.layout) l.pool l.self.tiles (plains (drop l.word-index l.named))
    × (l.blocks + need (layout_for l.self.layout) l.pool (plains (drop l.word-index l.named)) ≡ need (layout_for l.self.layout) l.pool (plains l.named))
