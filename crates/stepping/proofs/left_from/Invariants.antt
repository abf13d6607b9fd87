-- `stepping::left_from` meets its contract. The invariant: the columns passed are hit, and those of them that are enclosed are found.
use Prim.Native.Nat.{ℕ, ◌≤◌, ◌<◌}
use Rattle.walk.specs.Row.{ClearIn, EnclosedIn}
use Rattle.stepping.specs.Row.{Hull}
use Rattle.stepping.proofs.left_from.Given as goal

abbrev pub invariant-loop-before : goal.invariant-loop-before
invariant-loop-before l =
    record {
      low≤ : l.low ≤ l.before;
      hit : (k : ℕ) → l.before ≤ k → k < l.column → ClearIn l.grid.screen l.row.edges k;
      whole : (n to : ℕ) → Hull (EnclosedIn l.grid.screen l.row.edges) n l.column to l.initial.found
          → Hull (EnclosedIn l.grid.screen l.row.edges) n l.before to l.found;
    }
