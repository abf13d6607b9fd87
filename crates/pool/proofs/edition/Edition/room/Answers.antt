-- `Edition::room`: the sum is that of the definition, and the product of at most 63 and at most 2,048 fits.
use Prim.Native.Nat.{◌*◌, ◌≤◌}
use native.Mathlib.Nat.{mul-le-mul_left}
use native.Mathlib.Omega.{arith}
use Rattle.pool.specs.Words.{start, room}
use Rattle.pool.proofs.edition.Edition.room.Goals as goal
use Rattle.pool.proofs.edition.Edition.room.Goals.{Start}

product : (s : Start) → s.args.self.ids * s.args.blocks ≤ 129024
product s =
    let w : s.args.self.ids * s.args.blocks ≤ s.args.self.ids * 2048 = mul-le-mul_left s.args.self.ids s.requires.2 in
    omega (arith, w, s.requires.0.ids≤)

pub overflow_mul-result : goal.overflow_mul-result
overflow_mul-result c = omega (arith, product (goal.at.overflow_mul-result c).Start)

pub overflow_add-result : goal.overflow_add-result
unfolding start
overflow_add-result c = omega (arith, product (goal.at.overflow_add-result c).Start, c.requires.0.header≤)

pub overflow_add-result-2 : goal.overflow_add-result-2
unfolding start
overflow_add-result-2 c = omega (arith, product (goal.at.overflow_add-result-2 c).Start, c.requires.0.header≤)

pub returns : goal.returns
unfolding start room
returns c = omega arith
