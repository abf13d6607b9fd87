-- What an answer of the audit settles: it is the only one, and the header of a sound pool fits the slice.
use mathlib.Core.Path.{◌≡◌, refl, ap, sym, ◌∙◌}
use mathlib.Core.Bool.{true, Bool-set}
use mathlib.Core.HLevel.{is_prop→PathP}
use mathlib.Core.List.{List}
use Prim.Native.Nat.{ℕ, suc, ◌+◌, ◌*◌, ◌≤◌}
use lib.ListN.{length}
use Rattle.std.specs.Prelude.{Option, Some, None}
use Rattle.std.proofs.Props.{props}
use Rattle.screen.specs.declared.Grid.{Grid}
use Rattle.screen.specs.Screen.{Allowed}
use Rattle.pool.specs.Words.{Layout, is_edition, start, room}
use Rattle.pool.specs.Editions.{layout_for}
use Rattle.pool.specs.declared.edition.Edition.{Edition}
use Rattle.pool.specs.Sound.{Opened}
use Rattle.audit.specs.Answer.{HeaderOf, AuditFinds}
use Rattle.audit.specs.declared.header.Header.{Header}

-- a layout is that of one edition, and a screen that of one grid
same_layout : {e f : Edition} → layout_for e ≡ layout_for f → e ≡ f
same_layout {e} {f} h = λ i. record { header = (h i).header; ids = (h i).ids }

same_grid : {g h : Grid} → g.screen ≡ h.screen → g ≡ h
same_grid {g} {h} e = λ i. record {
  screen = e i;
  allowed = is_prop→PathP (λ j. Allowed (e j)) (λ j. Prim.hlevel props) g.allowed h.allowed i;
}

-- the words have one header
pub header_once : {L : Layout} {p : List ℕ} {g h : Header} → HeaderOf L p g → HeaderOf L p h → g ≡ h
header_once {g = g} {h = h} a b = λ i. let l = same_layout {e = g.layout} {f = h.layout} (a.layout ∙ sym b.layout) in record {
  layout = l i;
  grid = same_grid {g = g.grid} {h = h.grid} (a.screen ∙ sym b.screen) i;
  tiles = (a.tiles ∙ sym b.tiles) i;
  blocks = (a.blocks ∙ sym b.blocks) i;
  start = (a.start ∙ sym b.start) i;
  known = is_prop→PathP (λ j. is_edition (l j).header (l j).ids ≡ true) (λ j. Bool-set _ _) g.known h.known i;
}

-- and one answer
pub answer_once : (p : List ℕ) (x y : Option Header) → AuditFinds p x → AuditFinds p y → x ≡ y
answer_once p (Some g) (Some h) a b = ap Some (header_once a.1 b.1)
answer_once p (Some g) None a b = absurd (b a.0)
answer_once p None (Some h) a b = absurd (a b.0)
answer_once p None None a b = refl

-- the sizes that a right header gives
pub record Fits (L : Layout) (p : List ℕ) (h : Header) : Type 0 where
  pub tiles≤ : h.tiles ≤ 4096
  pub blocks≤ : h.blocks ≤ 2048
  pub starts : h.start ≡ L.header + L.tile * h.tiles
  pub long : h.start + suc L.ids * h.blocks ≤ length p

pub header_fits : {L : Layout} {p : List ℕ} {h : Header} → Opened L p → HeaderOf L p h → Fits L p h
unfolding room start
header_fits {L} {p} {h} o a =
    let t = a.tiles in
    let s = a.start in
    let b = a.blocks in
    record {
      tiles≤ = rw t o.screen.tiles≤;
      blocks≤ = rw b o.blocks≤;
      starts = rw t s;
      long = rw (s, b) o.long;
    }
