-- `free_blocks`: after b blocks, writing the rest from there on gives what is promised; with none left, the words are that.
use Rattle.pool.specs.Editions.{layout_for}
use Rattle.pool.proofs.Written.{Freeing}
use Rattle.pool.proofs.free_blocks.Given as goal

abbrev pub invariant-loop-b : goal.invariant-loop-b
invariant-loop-b l = Freeing (layout_for l.layout) l.initial.pool l.from l.blocks l.pool l.b
