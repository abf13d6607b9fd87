-- The list that the walk leaves at the front of its slice is what `lists` asks for: the touched tiles of the pool's screen, none of them twice.
use mathlib.Core.Path.{◌≡◌, sym, ap, subst, ◌∙◌}
use mathlib.Core.Bool.{Bool}
use mathlib.Core.List.{List}
use Prim.Native.Nat.{ℕ, ◌≤◌, ◌<◌}
use native.Mathlib.Omega.{arith}
use lib.ListN.{length, get_or, take}
use lib.Seq.{length-take-le, get_or-take}
use Rattle.numbers.specs.Flag.{flagged, plain, plains}
use Rattle.numbers.proofs.Flag.{length-plains, get_or-plains}
use Rattle.numbers.proofs.Says.{says_once}
use Rattle.screen.specs.declared.Screen.{Screen}
use Rattle.screen.specs.Screen.{tiles}
use Rattle.shape.specs.declared.Shape.{Shape}
use Rattle.walk.specs.Touched.{TouchedTiles, Walked, FlagsOf}
use Rattle.walk.specs.Lists.{Flagged}
use Rattle.pool.specs.Words.{layout_of}
use Rattle.pool.specs.Editions.{layout_for}
use Rattle.pool.specs.Sound.{Sound, screen_of, tiles_of}
use Rattle.audit.specs.declared.header.Header.{Header}
use Rattle.audit.specs.Answer.{HeaderOf}
use Rattle.lists.specs.declared.Lists.{Lists}
use Rattle.lists.specs.Appending.{Gained, Distinct}
use Rattle.lists.specs.Reach.{AllAmong}
use Rattle.lists.proofs.Named.{rising_distinct}
use Rattle.lists.proofs.AppendLoop.{gained}
use Rattle.calls.proofs.Audits.{lists_sound, lists_sized, lists_tiles}

pub touched_distinct : {d : Screen} {shape : Shape} {ts : List ℕ} → TouchedTiles d shape ts → Distinct (tiles d) ts
touched_distinct {ts} w = rising_distinct ts w.rising (λ i h. (w.touched i h).0)

module _ {p : List ℕ} {h : Header} (S : Sound (layout_of p) p) (H : HeaderOf (layout_of p) p h) where
  module _ {shape : Shape} {n : ℕ} {old new : List ℕ} (W : Walked h.grid.screen shape n old new) where
    pub touched_here : TouchedTiles (screen_of p) shape (plains (take n new))
    touched_here = subst (λ (d : Screen). TouchedTiles d shape (plains (take n new))) H.screen W.touched

    module _ (long : 4096 ≤ length old) where
      pub fits : n ≤ length new
      fits = omega (arith, W.few, W.size, h.grid.allowed.tiles≤)

      taken : length (take n new) ≡ n
      taken = length-take-le n new fits

      pub as_many : length (plains (take n new)) ≡ n
      as_many = length-plains (take n new) ∙ taken

      -- what the named tiles gain of an id is told by flags that say which of them are wholly covered
      pub gains_by_flags : (id : ℕ) (flag : ℕ → Bool) → FlagsOf (screen_of p) shape flag → Gained (λ t. flagged id (flag t)) id (take n new)
      gains_by_flags id flag F =
          gained (λ t. flagged id (flag t)) id (take n new)
          (λ i l.
          let l' : i < n = omega (arith, taken) in
          let w = get_or new i 0 in
          let same : get_or (take n new) i 0 ≡ w = get_or-take n new i 0 l' in
          let t< : plain w < tiles_of p
          = subst (λ (t : ℕ). t < tiles_of p) (get_or-plains (take n new) i ∙ ap plain same) (touched_here.touched i (omega (arith, as_many))).0 in
          rw same
          (ap (flagged id)
          (says_once (F (plain w) t<) (subst (λ (d : Screen). Flagged d shape w) H.screen (W.flags i l')))))

      pub all_among : {l : Lists} → (l.layout ≡ h.layout) × (l.tiles ≡ h.tiles) → AllAmong (layout_for l.layout) p l.tiles (plains (take n new))
      all_among {l} m =
          record {
            sound = lists_sound (S, H) m;
            sized = lists_sized (S, H) m;
            tiles = lists_tiles (S, H) m;
            distinct = subst (λ (T : ℕ). Distinct T (plains (take n new))) (sym (lists_tiles (S, H) m)) (touched_distinct touched_here);
          }
