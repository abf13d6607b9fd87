-- `audit::walk` finds a chain right or broken: what is left of the walk is right exactly where the whole is (`Going`).
use Rattle.pool.specs.Editions.{layout_for}
use Rattle.audit.specs.Chain.{Places, next}
use Rattle.audit.specs.Walk.{block_word_from}
use Rattle.audit.proofs.Follow.{Going}
use Rattle.audit.proofs.walk.Given as goal

abbrev pub invariant-loop-left : goal.invariant-loop-left
invariant-loop-left l =
    Going (next (layout_for l.header.layout) (block_word_from (layout_for l.header.layout) l.pool l.header.start)) l.header.blocks (λ b. Places (layout_for l.header.layout) (block_word_from (layout_for l.header.layout) l.pool l.header.start b)) l.header.layout.ids
    l.initial.marks l.initial.link l.initial.q l.initial.left l.marks l.link l.q l.left l.last

abbrev pub decreases-loop-left : goal.decreases-loop-left
decreases-loop-left l = l.left
