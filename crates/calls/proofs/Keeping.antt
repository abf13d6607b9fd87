-- What a bin leaves of a sound pool: a sound pool of the same layout, screen and blocks, so that the header that the audit told is still its header.
use mathlib.Core.Path.{◌≡◌, sym, ap, subst, ◌∙◌}
use mathlib.Core.Bool.{Bool}
use mathlib.Core.List.{List}
use Prim.Native.Nat.{ℕ, ◌≤◌, ◌<◌}
use native.Mathlib.Omega.{arith}
use Rattle.numbers.specs.Flag.{flagged}
use Rattle.numbers.proofs.Flag.{flagged<}
use Rattle.screen.specs.Screen.{tiles}
use Rattle.shape.specs.declared.Shape.{Shape}
use Rattle.walk.specs.Touched.{TouchedTiles}
use Rattle.pool.specs.Words.{Layout, Known, id_limit, layout_of, start}
use Rattle.pool.specs.Editions.{Sized}
use Rattle.pool.specs.State.{State}
use Rattle.pool.specs.Sound.{Sound, screen_of, tiles_of, blocks_of}
use Rattle.pool.proofs.Header.{keeps-screen, keeps_blocks}
use Rattle.pool.proofs.Editions.{layout_known, layout_fair, known_limit, keeps_layout}
use Rattle.audit.specs.declared.header.Header.{Header}
use Rattle.audit.specs.Answer.{HeaderOf}
use Rattle.lists.specs.Appending.{need, append_all}
use Rattle.lists.specs.Promises.{Kept, Appended}
use Rattle.lists.proofs.Several.{kept-keeps, append_all_appends}
use Rattle.calls.specs.Told.{Binned}
use Rattle.calls.specs.Tables.{free_in, PlaceSays, BinSays}
use Rattle.calls.proofs.Placing.{touched_distinct}

-- an id in range gives an entry in range, flagged or not
pub entry_in_range : {L : Layout} → Known L → {id : ℕ} → id < id_limit → (whole : Bool) → flagged id whole < L.limit
entry_in_range known {id} h whole = omega (arith, flagged< id h whole, known_limit known)

pub bin_appends : {p : List ℕ} {shape : Shape} {ts : List ℕ} (S : Sound (layout_of p) p) (id : ℕ) → id < id_limit → TouchedTiles (screen_of p) shape ts
    → need (layout_of p) p ts ≤ free_in p → (flag : ℕ → Bool)
    → Appended (layout_of p) p S (append_all (layout_of p) (tiles_of p) p ts (λ t. flagged id (flag t))) ts (λ t. flagged id (flag t))
bin_appends {p} {ts = ts} S id hid T enough flag =
    append_all_appends (layout_fair p) S ts (λ t. flagged id (flag t)) (touched_distinct T) (λ t. entry_in_range (layout_known p) hid (flag t)) enough

module _ {p q : List ℕ} (S : Sound (layout_of p) p) {s r : State} {ts : List ℕ} (K : Kept (layout_of p) (tiles_of p) (blocks_of p) p q s r ts) where
  pub kept_layout : layout_of q ≡ layout_of p
  kept_layout = keeps_layout (layout_known p) S.opened (kept-keeps K)

  pub kept-screen : screen_of q ≡ screen_of p
  kept-screen = keeps-screen (layout_fair p) (kept-keeps K)

  pub kept_blocks : blocks_of q ≡ blocks_of p
  kept_blocks = keeps_blocks (layout_fair p) (kept-keeps K)

  kept_header : {h : Header} → HeaderOf (layout_of p) p h → HeaderOf (layout_of q) q h
  kept_header H = record {
    layout = H.layout ∙ sym kept_layout;
    sized = subst Sized (sym kept_layout) H.sized;
    screen = H.screen ∙ sym kept-screen;
    tiles = H.tiles ∙ sym (ap tiles kept-screen);
    blocks = H.blocks ∙ sym kept_blocks;
    start = H.start ∙ sym (λ i. start (kept_layout i) (tiles (kept-screen i)));
  }

-- ---- a bin, accepted or not

-- the words p are a sound pool with this header
abbrev pub SoundWith : Header → List ℕ → Type 0
SoundWith h p = Sound (layout_of p) p × HeaderOf (layout_of p) p h

module _ {h : Header} {p : List ℕ} {shape : Shape} {id : ℕ} {a : Binned} {q : List ℕ} (k : SoundWith h p) where
  place_keeps : id < id_limit → PlaceSays p shape id a q → SoundWith h q
  place_keeps i (PlaceSays.no_room ts T l e f) = subst (SoundWith h) (sym f) k
  place_keeps i (PlaceSays.done ts T l flag F tests C e f) =
      let A = bin_appends k.0 id i T l flag in
      subst (SoundWith h) (sym f) (rw (kept_layout k.0 A.kept) A.sound, kept_header k.0 A.kept k.1)

  pub bin_keeps : BinSays p shape id a q → SoundWith h q
  bin_keeps (BinSays.damaged n e f) = subst (SoundWith h) (sym f) k
  bin_keeps (BinSays.bad_id S i e f) = subst (SoundWith h) (sym f) k
  bin_keeps (BinSays.out_of_range S i o e f) = subst (SoundWith h) (sym f) k
  bin_keeps (BinSays.placed S i o w) = place_keeps i w
