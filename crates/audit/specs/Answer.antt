-- What the audit's answer means.
use Rattle.std.specs.Prelude.{◌≡◌, Option, Some, None, List, ℕ, suc, ◌<◌}
use Rattle.pool.specs.Words.{Layout, layout_of, start, header_word}
use Rattle.pool.specs.Editions.{layout_for, Sized}
use Rattle.pool.specs.Sound.{Sound as SoundPool, screen_of, tiles_of, blocks_of}
use Rattle.audit.specs.declared.header.Header.{Header}

-- the header is that of the words p: the layout, the screen, how many tiles and blocks there are, and where the blocks start
pub record HeaderOf (L : Layout) (p : List ℕ) (header : Header) : Type 0 where
  pub layout : layout_for header.layout ≡ L
  pub sized : Sized L
  pub screen : header.grid.screen ≡ screen_of p
  pub tiles : header.tiles ≡ tiles_of p
  pub blocks : header.blocks ≡ blocks_of p
  pub start : header.start ≡ start L (tiles_of p)

-- words 8 and 9 of the header, where it has them
pub record RestRight (L : Layout) (p : List ℕ) : Type 0 where
  pub size : 8 < L.header → header_word p 8 ≡ suc L.ids
  pub zero : 9 < L.header → header_word p 9 ≡ 0

-- the words p are a sound pool of that layout with that header; or they are no sound pool of that layout
abbrev pub Finds : Layout → (p : List ℕ) → Option Header → Type 0
Finds L p (Some header) = SoundPool L p × HeaderOf L p header
Finds L p None = SoundPool L p → ⊥

-- of the layout that they say
abbrev pub AuditFinds : (p : List ℕ) → Option Header → Type 0
AuditFinds p r = Finds (layout_of p) p r
