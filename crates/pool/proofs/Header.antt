-- The fixed words of the header: what leaves them and the length as they are keeps the opening, and with it the screen, the tiles and the blocks.
use mathlib.Core.Path.{◌≡◌, ◌∙◌, subst, sym}
use mathlib.Core.Logic.{◌≢◌}
use mathlib.Core.List.{List}
use Prim.Native.Nat.{ℕ, ◌≤◌, ◌<◌}
use native.Mathlib.Omega.{arith}
use lib.ListN.{length}
use Rattle.screen.specs.Screen.{Allowed, tiles}
use Rattle.pool.specs.Words.{Layout, Fair, start, room, header_word}
use Rattle.pool.specs.State.{State}
use Rattle.pool.specs.Sound.{screen_of, tiles_of, blocks_of, Opened, Shows, Sound}

-- q has p's length, and p's header but for words 4 and 5
pub record Keeps (L : Layout) (p q : List ℕ) : Type 0 where
  pub long : length q ≡ length p
  pub fixed : (k : ℕ) → k < L.header → k ≢ 4 → k ≢ 5 → header_word q k ≡ header_word p k

module _ {L : Layout} {p q : List ℕ} (A : Fair L) (K : Keeps L p q) where
  pub keeps-screen : screen_of q ≡ screen_of p
  keeps-screen =
      let w = K.fixed 0 (omega (arith, A.header>)) (omega arith) (omega arith) in
      let h = K.fixed 1 (omega (arith, A.header>)) (omega arith) (omega arith) in
      let s = K.fixed 2 (omega (arith, A.header>)) (omega arith) (omega arith) in
      λ i. record { width = w i; height = h i; s = s i }

  pub keeps-tiles : tiles_of q ≡ tiles_of p
  keeps-tiles = λ i. tiles (keeps-screen i)

  pub keeps_blocks : blocks_of q ≡ blocks_of p
  keeps_blocks = K.fixed 3 (omega (arith, A.header>)) (omega arith) (omega arith)

  pub keeps_opened : Opened L p → Opened L q
  keeps_opened O = record {
    screen = subst Allowed (sym keeps-screen) O.screen;
    blocks≤ = rw keeps_blocks O.blocks≤;
    table_at = K.fixed 6 (omega (arith, A.header>)) (omega arith) (omega arith) ∙ O.table_at;
    blocks_at = K.fixed 7 A.header> (omega arith) (omega arith) ∙ O.blocks_at ∙ (λ i. start L (sym keeps-tiles i));
    size_at = λ h. K.fixed 8 h (omega arith) (omega arith) ∙ O.size_at h;
    zero_at = λ h. K.fixed 9 h (omega arith) (omega arith) ∙ O.zero_at h;
    long = subst (λ (n : ℕ). n ≤ length q) (λ i. room L (sym keeps-tiles i) (sym keeps_blocks i)) (rw K.long O.long);
  }

  -- what the words show, as T and N of before, makes the pool sound
  pub keeps_sound : {s : State} → Opened L p → Shows L (tiles_of p) (blocks_of p) q s → Sound L q
  keeps_sound {s} O R = record {
    opened = keeps_opened O;
    state = s;
    shows = subst (λ (T : ℕ). Shows L T (blocks_of q) q s) (sym keeps-tiles) (subst (λ (N : ℕ). Shows L (tiles_of p) N q s) (sym keeps_blocks) R);
  }
