-- `audit::all_marked` says whether every block is marked: `all` says so of the blocks passed.
use mathlib.Core.Path.{◌≡◌}
use Prim.Native.Nat.{ℕ, ◌<◌}
use lib.ListN.{get_or}
use Rattle.numbers.specs.Says.{Says}
use Rattle.audit.proofs.all_marked.Given as goal

abbrev pub invariant-loop-mark : goal.invariant-loop-mark
invariant-loop-mark l = Says l.all ((i : ℕ) → i < l.mark-index → get_or l.marks i 0 ≡ 1)
