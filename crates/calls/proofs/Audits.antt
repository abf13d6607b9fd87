-- What is known where the audit's answer was taken apart.
use mathlib.Core.Path.{◌≡◌, ap, subst, sym, ◌∙◌}
use mathlib.Core.List.{List}
use Prim.Native.Nat.{ℕ, ◌<◌}
use lib.ListN.{length}
use Rattle.std.specs.Prelude.{Option, Some}
use Rattle.pool.specs.Words.{Layout, layout_of, tile_word}
use Rattle.pool.specs.Editions.{layout_for, Sized}
use Rattle.pool.specs.Sound.{Sound, tiles_of}
use Rattle.pool.proofs.Editions.{layout_known, known_fair}
use Rattle.audit.specs.declared.header.Header.{Header}
use Rattle.audit.specs.Answer.{HeaderOf, AuditFinds}
use Rattle.lists.specs.declared.Lists.{Lists}
use Rattle.lists.proofs.Named.{list_length}
use Rattle.calls.specs.Tables.{list_in}

pub told_sound : {p : List ℕ} {x : Option Header} {h : Header} → x ≡ Some h → AuditFinds p x → Sound (layout_of p) p × HeaderOf (layout_of p) p h
told_sound {p} e h = subst (AuditFinds p) e h

module _ {p : List ℕ} {h : Header} (k : Sound (layout_of p) p × HeaderOf (layout_of p) p h) where
  pub a_tile : {t : ℕ} → t < h.tiles → t < tiles_of p
  a_tile {t} l = subst (λ (n : ℕ). t < n) k.1.tiles l

  -- a tile's first word is the length of its list
  pub entries_are : {t : ℕ} → t < h.tiles → tile_word (layout_of p) p t 0 ≡ length (list_in p t)
  entries_are {t} l = sym (list_length (known_fair (layout_known p)) k.0 t (a_tile l))

  -- the lists of the header are those that the words say
  module _ {l : Lists} (m : (l.layout ≡ h.layout) × (l.tiles ≡ h.tiles)) where
    pub lists_layout : layout_for l.layout ≡ layout_of p
    lists_layout = ap layout_for m.0 ∙ k.1.layout

    pub lists_tiles : l.tiles ≡ tiles_of p
    lists_tiles = m.1 ∙ k.1.tiles

    pub lists_sound : Sound (layout_for l.layout) p
    lists_sound = subst (λ (L : Layout). Sound L p) (sym lists_layout) k.0

    pub lists_sized : Sized (layout_for l.layout)
    lists_sized = subst Sized (sym lists_layout) k.1.sized
