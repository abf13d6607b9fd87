-- `audit::tiles_right` says whether all tiles have their chains: those passed so far have, and their blocks are marked.
use Rattle.pool.specs.Editions.{layout_for}
use Rattle.audit.specs.Chain.{times_in_first}
use Rattle.audit.specs.Walk.{Marked, TilesRight, chain_of}
use Rattle.audit.proofs.tiles_right.Given as goal

abbrev pub invariant-loop-t : goal.invariant-loop-t
invariant-loop-t l =
    TilesRight (layout_for l.header.layout) l.pool l.header.start l.header.blocks l.t × Marked l.initial.marks l.marks (λ b. times_in_first b (chain_of (layout_for l.header.layout) l.pool l.header.start) l.t)
