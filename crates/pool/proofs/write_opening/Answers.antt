-- `write_opening`: the header, zeros and free blocks, written one after the other, are the words of the definition.
use mathlib.Core.Path.{ap, ◌∙◌}
use native.Mathlib.Omega.{arith}
use borrow.Author.Rules.{rules}
use Rattle.pool.specs.Words.{start, room}
use Rattle.pool.specs.Editions.{layout_for}
use Rattle.pool.proofs.Editions.{known_sized}
use Rattle.pool.proofs.Opening.{header_fits, opening_steps}
use Rattle.pool.proofs.write_opening.Goals as goal

pub start-from-requires : goal.start-from-requires
start-from-requires c = (known_sized c.requires.0, omega arith)

pub write_header-requires : goal.write_header-requires
unfolding room start
write_header-requires c = (
  known_sized c.requires.0,
  omega (arith, c.requires.2),
  c.start-from.ensures ∙ ap (start (layout_for c.args.layout)) (c.wide-count.ensures ∙ c.tiles.ensures),
)

pub fill-requires : goal.fill-requires
unfolding room start
fill-requires c = search rules

pub write_blocks-requires : goal.write_blocks-requires
unfolding room start
write_blocks-requires c =
    (known_sized c.requires.0, c.requires.1, search rules)

pub returns : goal.returns
returns c =
    let L = layout_for c.args.layout in
    let count = c.wide-count.ensures ∙ c.tiles.ensures in
    opening_steps L _ _ _ (header_fits c.requires.0 _ _) _ _ _ _ _ c.requires.2 count
    (c.start-from.ensures ∙ ap (start L) count) c.write_header.ensures c.fill.ensures
    c.write_blocks.ensures
