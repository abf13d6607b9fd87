-- What an accepted bin and an accepted release leave of a sound pool: words outside the room as they were, and a sound pool of the same layout, screen and blocks.
use mathlib.Core.Path.{◌≡◌, refl, ap, ap₂, subst, sym}
use mathlib.Core.List.{List}
use Prim.Native.Nat.{ℕ}
use Rattle.screen.specs.declared.Screen.{Screen}
use Rattle.screen.specs.Screen.{tiles}
use Rattle.pool.specs.Words.{Layout, layout_of, room, tile_word}
use Rattle.pool.specs.State.{State}
use Rattle.pool.specs.Sound.{Sound, tiles_of, blocks_of}
use Rattle.pool.specs.Lists.{list_of}
use Rattle.lists.specs.Promises.{Kept}
use Rattle.calls.specs.Tables.{list_in, mark_in}
use Rattle.calls.proofs.Keeping.{kept_layout, kept-screen, kept_blocks}
use Rattle.demands.specs.Demand1.{Outside}
use Rattle.demands.specs.Demand2.{StaysSound}

-- nothing changed
pub same_outside : {end : ℕ} {p q : List ℕ} → q ≡ p → Outside end p q
same_outside {end} {p} {q} e = rw e (record { long = refl; tail = λ i h. refl })

pub same_stays : {p q : List ℕ} → Sound (layout_of p) p → q ≡ p → StaysSound p q
same_stays {p} {q} S e = subst (λ (x : List ℕ). StaysSound p x) (sym e) (record { sound = S; layout = refl; screen = refl; blocks = refl })

module _ {p q : List ℕ} (S : Sound (layout_of p) p) {s r : State} {ts : List ℕ} (K : Kept (layout_of p) (tiles_of p) (blocks_of p) p q s r ts) where
  pub kept_outside : Outside (room (layout_of p) (tiles_of p) (blocks_of p)) p q
  kept_outside = record { long = K.long; tail = K.tail }

  pub kept_stays : Sound (layout_of p) q → StaysSound p q
  kept_stays Q = record {
    sound = rw (kept_layout S K) Q;
    layout = kept_layout S K;
    screen = kept-screen S K;
    blocks = kept_blocks S K;
  }

  -- a list is read as in a pool of that layout and as many tiles, and so is a mark
  pub kept_list : (t : ℕ) → list_in q t ≡ list_of (layout_of p) (tiles_of p) q t
  kept_list t = ap₂ (λ (L : Layout) (d : Screen). list_of L (tiles d) q t) (kept_layout S K) (kept-screen S K)

  pub kept_mark : (t : ℕ) → mark_in q t ≡ tile_word (layout_of p) q t 3
  kept_mark t = ap (λ (L : Layout). tile_word L q t 3) (kept_layout S K)
