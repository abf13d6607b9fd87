-- `screen::Grid::row_of` meets its contract: a screen has a column.
use mathlib.Core.Path.{ap}
use Prim.Native.Nat.{ℕ, ◌/◌}
use Rattle.screen.proofs.Laws.{columns≥}
use Rattle.screen.proofs.Grid.row_of.Goals as goal

pub nonzero_div-result : goal.nonzero_div-result
nonzero_div-result c = rw c.columns.ensures (columns≥ c.args.self.screen c.args.self.allowed)

pub returns : goal.returns
returns c = ap (λ (n : ℕ). c.args.tile.0 / n) c.columns.ensures
