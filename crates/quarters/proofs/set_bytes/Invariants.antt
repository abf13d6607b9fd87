-- `set_bytes`: the bytes from the start on and before i are set.
use Prim.Native.Nat.{◌≤◌, max}
use Rattle.quarters.specs.Map.{BytesSet}
use Rattle.quarters.proofs.set_bytes.Given as goal

abbrev pub invariant-loop-i : goal.invariant-loop-i
invariant-loop-i l = (l.start ≤ l.i) × (l.i ≤ max l.start l.end) × BytesSet l.value l.start l.i l.initial.map l.map
