-- Demand 3 holds: of two pools of one layout and screen, the second with more blocks, after any calls on the first and the same less those refused for room on the second.
use mathlib.Core.Path.{◌≡◌, sym, ap, ap₂, subst, ◌∙◌}
use mathlib.Core.List.{List, []}
use Prim.Native.Nat.{ℕ, ◌+◌, ◌≤◌, ◌<◌}
use native.Mathlib.Omega.{arith}
use lib.ListN.{length}
use Rattle.screen.specs.declared.Screen.{Screen}
use Rattle.screen.specs.Screen.{Allowed, tiles}
use Rattle.pool.specs.Words.{Layout, Known, layout_of, room, block_word}
use Rattle.pool.specs.Sound.{Sound, screen_of, tiles_of, blocks_of}
use Rattle.pool.specs.Lists.{list_of}
use Rattle.pool.specs.Opening.{opening, opening_state}
use Rattle.pool.proofs.Editions.{known_fair, known_poison, opened_layout}
use Rattle.pool.proofs.Opening.{header_fits, open_sound, opening-screen, opening-tiles, opening_blocks, opening_tile, opening_lists_empty}
use Rattle.lists.specs.Wider.{Wider}
use Rattle.lists.proofs.Widening.{wider_tiles, wider_free, wider_poison, wider_opening}
use Rattle.pool.specs.Opening.{OpenSays}
use Rattle.calls.specs.Tables.{list_in, mark_in}
use Rattle.demands.specs.History.{less_room}
use Rattle.demands.specs.Demand3.{Demand3Holds, Demand3Runs}
use Rattle.demands.proofs.Runs.{run_stays, runs_one_outcome}
use Rattle.demands.proofs.Listed.{lists_are_listed}
use Rattle.demands.proofs.Alike.{lists_same, marks_same, run_follows}

-- ---- an accepted opening

pub record AcceptedOpening (L : Layout) (old : List ℕ) (d : Screen) (N : ℕ) (p : List ℕ) : Type 0 where
  pub allowed : Allowed d
  pub few : N ≤ 2048
  pub known : Known L
  pub long : room L (tiles d) N ≤ length old
  pub is : p ≡ opening L d N old

pub accepted-opening : {L : Layout} {old : List ℕ} {d : Screen} {N : ℕ} {p : List ℕ} → OpenSays L old d N 0 p → AcceptedOpening L old d N p
accepted-opening (OpenSays.bad_screen n e f) = absurd (omega arith)
accepted-opening (OpenSays.bad_blocks s m e f) = absurd (omega arith)
accepted-opening (OpenSays.too_short s m k l e f) = absurd (omega arith)
accepted-opening (OpenSays.done s m k l e f) = record { allowed = s; few = m; known = k; long = l; is = f }

-- a sound pool of that layout for that screen, with that many blocks, with empty lists and with no marks
pub record Fresh (L : Layout) (d : Screen) (N : ℕ) (p : List ℕ) : Type 0 where
  pub sound : Sound (layout_of p) p
  pub layout : layout_of p ≡ L
  pub screen : screen_of p ≡ d
  pub blocks : blocks_of p ≡ N
  pub none : (t : ℕ) → t < tiles d → list_in p t ≡ []
  pub no_marks : (t : ℕ) → t < tiles d → mark_in p t ≡ 0

pub fresh : {L : Layout} {old : List ℕ} {d : Screen} {N : ℕ} {p : List ℕ} → AcceptedOpening L old d N p → Fresh L d N p
fresh {L} {old} {d} {N} {p} A =
    let fits = header_fits A.known d N in
    let F = known_fair A.known in
    let sound : Sound L (opening L d N old) = open_sound A.known d N old A.allowed A.few A.long in
    let layout : layout_of (opening L d N old) ≡ L = opened_layout A.known sound.opened in
    subst (λ (x : List ℕ). Fresh L d N x) (sym A.is)
    (record {
      sound = rw layout sound;
      layout = layout;
      screen = opening-screen L d N old fits F;
      blocks = opening_blocks L d N old fits F;
      none = λ t ht. ap₂ (λ (M : Layout) (T : ℕ). list_of M T (opening L d N old) t) layout (opening-tiles L d N old fits F)
          ∙ opening_lists_empty L d N old fits F t ht;
      no_marks = λ t ht. rw layout (opening_tile L d N old fits t 3 ht F.tile>);
    })

-- two openings say the same, the second with n blocks more
pub openings_wider : {L : Layout} {d : Screen} {N n : ℕ} {old old' p w : List ℕ} → AcceptedOpening L old d N p → AcceptedOpening L old' d (N + n) w
    → Wider L n p w (opening_state (tiles d) N)
openings_wider {L} {d} {N} {n} {old} {old'} {p} {w} A B =
    rw (A.is, B.is) (wider_opening (known_fair A.known) d N n old old' (header_fits A.known d) A.allowed B.few A.long B.long)

-- ---- the second pool can be given the shared calls

pub demand_3_runs : Demand3Runs
demand_3_runs L d N n p₁ p₂ O h₁ q₁ R₁ =
    let A = accepted-opening O.first in
    let F = run_follows A.known (openings_wider A (accepted-opening O.second)) h₁ q₁ R₁ in
    (F.0, F.2)

pub demand_3 : Demand3Holds
demand_3 L d N n p₁ p₂ O h₁ q₁ R₁ h₂ q₂ same R₂ =
    let A = accepted-opening O.first in
    let P = fresh A in
    let F = run_follows A.known (openings_wider A (accepted-opening O.second)) h₁ q₁ R₁ in
    let one = runs_one_outcome p₂ h₂ (less_room h₁) q₂ F.0 same R₂ F.2 in
    let K = run_stays p₁ h₁ q₁ P.sound R₁ in
    let screen : screen_of q₁ ≡ d = K.screen ∙ P.screen in
    let tiles-are : tiles_of q₁ ≡ tiles d = ap tiles screen in
    let blocks : blocks_of q₁ ≡ N = K.blocks ∙ P.blocks in
    let W : Wider L n q₁ q₂ F.1 = subst (λ (x : List ℕ). Wider L n q₁ x F.1) (sym one.1) F.3 in
    let fair = known_fair A.known in
    record {
      answers = one.0;
      lists = λ t ht. lists_same A.known W t (subst (λ (T : ℕ). t < T) (sym tiles-are) ht);
      marks = λ t ht. marks_same A.known W t (subst (λ (T : ℕ). t < T) (sym tiles-are) ht);
      history = lists_are_listed d p₁ P.sound P.screen P.none h₁ q₁ R₁;
      free = wider_free fair W;
      poisoned = λ b lo hi k hk.
          ap (λ (T : ℕ). block_word L T q₂ b k) (sym (wider_tiles fair W ∙ tiles-are))
          ∙ wider_poison fair W b (omega arith) (omega arith) k hk
          ∙ known_poison A.known;
    }
