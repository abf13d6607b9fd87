-- Two pools of one screen that say the same, the second with n blocks more.
use Rattle.std.specs.Prelude.{◌≡◌, List, ◌++◌, ℕ, ◌+◌}
use Rattle.pool.specs.Words.{Layout}
use Rattle.pool.specs.State.{State}
use Rattle.pool.specs.Sound.{Opened, Shows, screen_of, tiles_of, blocks_of}
use Rattle.pool.specs.Opening.{rising}

-- the same chains, with the n blocks from N on at the end of the free chain
abbrev pub widen : (N n : ℕ) → State → State
widen N n s = record { free = s.free ++ rising N n; tiles = s.tiles }

-- p is a sound pool that says s, and w one that has n blocks more, which are at the end of its free chain
pub record Wider (L : Layout) (n : ℕ) (p w : List ℕ) (s : State) : Type 0 where
  pub opened : Opened L p
  pub opened' : Opened L w
  pub screens : screen_of w ≡ screen_of p
  pub blocks : blocks_of w ≡ blocks_of p + n
  pub shows : Shows L (tiles_of p) (blocks_of p) p s
  pub shows' : Shows L (tiles_of p) (blocks_of p + n) w (widen (blocks_of p) n s)
