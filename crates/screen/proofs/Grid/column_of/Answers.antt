-- `screen::Grid::column_of` meets its contract: a screen has a column.
use mathlib.Core.Path.{ap}
use Prim.Native.Nat.{ℕ, ◌%◌}
use Rattle.screen.proofs.Laws.{columns≥}
use Rattle.screen.proofs.Grid.column_of.Goals as goal

pub nonzero_rem-result : goal.nonzero_rem-result
nonzero_rem-result c = rw c.columns.ensures (columns≥ c.args.self.screen c.args.self.allowed)

pub returns : goal.returns
returns c = ap (λ (n : ℕ). c.args.tile.0 % n) c.columns.ensures
