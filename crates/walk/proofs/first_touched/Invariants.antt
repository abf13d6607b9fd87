-- `walk::first_touched` meets its contract. The invariant: no column passed is clear.
use Prim.Native.Nat.{ℕ, ◌≤◌, ◌<◌}
use Rattle.walk.specs.Row.{ClearIn}
use Rattle.walk.proofs.first_touched.Given as goal

abbrev pub invariant-loop-column : goal.invariant-loop-column
invariant-loop-column l = (k : ℕ) → l.span.start ≤ k → k < l.column → ClearIn l.grid.screen l.row.edges k → ⊥
