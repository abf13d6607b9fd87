-- The layout that the code carries, and what it asks of one.
use Rattle.std.specs.Prelude.{◌≡◌, ◌⊎◌, ◌≤◌}
use Rattle.pool.specs.Words.{Layout, edition, Fair}
use Rattle.pool.specs.declared.edition.Edition.{Edition}

-- the layout of an edition
abbrev pub layout_for : Edition → Layout
layout_for e = record { header = e.header; tile = edition.tile; ids = e.ids; limit = edition.limit; poison = edition.poison }

-- a layout with a header and a block size that there are
pub record Sized (L : Layout) : Type 0 where
  pub fair : Fair L
  pub ids_are : (L.ids ≡ 31) ⊎ (L.ids ≡ 63)
  pub header_is : (L.header ≡ 8) ⊎ (L.header ≡ 10)
  pub header≤ : L.header ≤ 10
  pub ids≥ : 31 ≤ L.ids
  pub ids≤ : L.ids ≤ 63
