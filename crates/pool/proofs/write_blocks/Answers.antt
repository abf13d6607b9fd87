-- `write_blocks`: the ids are 31, or they are 63.
use mathlib.Core.Path.{ap, sym, ◌∙◌}
use mathlib.Core.List.{List}
use Prim.Native.Nat.{ℕ}
use Rattle.pool.specs.declared.edition.Edition.{Edition}
use Rattle.pool.specs.Words.{Layout, edition}
use Rattle.pool.specs.Opening.{free_blocks}
use Rattle.pool.specs.Written.{written}
use Rattle.pool.proofs.Editions.{sixty_three}
use Rattle.pool.proofs.write_blocks.Goals as goal
use Rattle.pool.proofs.write_blocks.Goals.{Start}

-- the layout of an edition, but with n ids in a block
abbrev with_ids : Edition → (n : ℕ) → Layout
with_ids e n = record { header = e.header; tile = edition.tile; ids = n; limit = edition.limit; poison = edition.poison }

-- the words, where a block has n ids
abbrev blocks-of : (s : Start) (n : ℕ) → List ℕ
blocks-of s n =
    written s.args.pool.now s.args.from (free_blocks (with_ids s.args.layout n) 0 s.args.blocks)

pub free_blocks-requires : goal.free_blocks-requires
free_blocks-requires c = (c.requires.1, rw c.if-layout-eq31.true at c.requires.2)

pub free_blocks-requires-else-layout-eq31 : goal.free_blocks-requires-else-layout-eq31
free_blocks-requires-else-layout-eq31 c = (c.requires.1, rw (sixty_three c.requires.0 c.if-layout-eq31.false) at c.requires.2)

pub returns-then-layout-eq31 : goal.returns-then-layout-eq31
returns-then-layout-eq31 c = c.free_blocks.ensures ∙ ap (blocks-of (goal.at.returns-then-layout-eq31 c).Start) (sym c.if-layout-eq31.true)

pub returns-else-layout-eq31 : goal.returns-else-layout-eq31
returns-else-layout-eq31 c =
    c.free_blocks-else-layout-eq31.ensures ∙ ap (blocks-of (goal.at.returns-else-layout-eq31 c).Start) (sym (sixty_three c.requires.0 c.if-layout-eq31.false))
