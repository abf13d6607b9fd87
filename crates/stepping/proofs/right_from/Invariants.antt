-- `stepping::right_from` meets its contract. The invariant: the columns passed are hit, and those of them that are enclosed are found.
use Prim.Native.Nat.{ℕ, ◌≤◌, ◌<◌}
use Rattle.walk.specs.Row.{ClearIn, EnclosedIn}
use Rattle.stepping.specs.Row.{Hull}
use Rattle.stepping.proofs.right_from.Given as goal

abbrev pub invariant-loop-end : goal.invariant-loop-end
invariant-loop-end l =
    record {
      hit : (k : ℕ) → l.column ≤ k → k < l.end → ClearIn l.grid.screen l.row.edges k;
      whole : (n from : ℕ) → Hull (EnclosedIn l.grid.screen l.row.edges) n from l.column l.initial.found
          → Hull (EnclosedIn l.grid.screen l.row.edges) n from l.end l.found;
    }
