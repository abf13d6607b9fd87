-- The rules for a screen, and the numbers of its tiles, row by row from the top left.
use Rattle.std.specs.Prelude.{ℕ, ◌+◌, ◌*◌, ◌/◌, ◌%◌, ◌^◌, ◌≤◌}
use Rattle.numbers.specs.Ceil.{ceil}
use Rattle.screen.specs.declared.Screen.{Screen}

-- how many tiles of 2^s pixels cover an extent of that many pixels: the quotient, rounded up
unfoldable pub across : ℕ → ℕ → ℕ
across extent s = ceil extent (2 ^ s)

abbrev pub columns : Screen → ℕ
columns d = across d.width d.s

abbrev pub rows : Screen → ℕ
rows d = across d.height d.s

abbrev pub tiles : Screen → ℕ
tiles d = columns d * rows d

-- the rule for a screen: number 1 is given exactly where it fails
pub record Allowed (d : Screen) : Type 0 where
  pub width≥ : 1 ≤ d.width
  pub width≤ : d.width ≤ 4096
  pub height≥ : 1 ≤ d.height
  pub height≤ : d.height ≤ 4096
  pub s≥ : 3 ≤ d.s
  pub s≤ : d.s ≤ 6
  pub tiles≤ : tiles d ≤ 4096

abbrev pub column_of : Screen → ℕ → ℕ
column_of d t = t % columns d

abbrev pub row_of : Screen → ℕ → ℕ
row_of d t = t / columns d

abbrev pub tile_at : Screen → ℕ → ℕ → ℕ
tile_at d column row = row * columns d + column
