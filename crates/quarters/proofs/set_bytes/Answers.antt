-- `set_bytes`: the bytes from the start on and before i are set.
use native.Mathlib.Omega.{arith}
use Rattle.quarters.proofs.Ones.{bytes_none, bytes_more, bytes_end}
use Rattle.quarters.proofs.set_bytes.Goals as goal

pub loop-i-init : goal.loop-i-init
loop-i-init c = (omega arith, omega arith, bytes_none _)

pub bounds-map-i : goal.bounds-map-i
bounds-map-i c = let z = c.loop-i.invariant.2.size in omega arith

pub loop-i-preserved : goal.loop-i-preserved
loop-i-preserved c = let i = c.loop-i.invariant in (omega arith, omega arith, bytes_more i.0 (omega arith) i.2)

pub shape_of-map : goal.shape_of-map
shape_of-map c = c.loop-i.invariant.2.size

pub returns : goal.returns
returns c = let i = c.loop-i.invariant in bytes_end (omega arith) i.1 i.2
