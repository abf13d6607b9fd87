-- `audit::header_of` reads the header off word 3 and the grid.
use mathlib.Core.Path.{◌≡◌, refl, ap, ◌∙◌}
use native.Mathlib.Omega.{arith}
use Rattle.screen.specs.Screen.{tiles}
use Rattle.pool.specs.Words.{start, header_word}
use Rattle.pool.specs.Editions.{layout_for}
use Rattle.pool.specs.Sound.{tiles_of}
use Rattle.pool.proofs.Editions.{sized}
use Rattle.audit.proofs.header_of.Goals as goal
use Rattle.audit.proofs.header_of.Goals.{After-tiles-tiles}

-- what the tiles are
tiles-are : (c : After-tiles-tiles) → c.tiles-tiles.result ≡ tiles_of c.args.pool.now
tiles-are c = c.tiles-tiles.ensures ∙ ap tiles c.requires.1

pub start-requires : goal.start-requires
start-requires c = (sized c.args.layout c.requires.2, omega (arith, c.args.grid.allowed.tiles≤))

pub returns : goal.returns
unfolding header_word
returns c =
    record {
      layout = refl;
      sized = sized c.args.layout c.requires.2;
      screen = c.requires.1;
      tiles = tiles-are (goal.at.returns c).After-tiles-tiles;
      blocks = refl;
      start = c.start.ensures ∙ ap (start (layout_for c.args.layout)) (c.wide.ensures ∙ tiles-are (goal.at.returns c).After-tiles-tiles);
    }
