-- `shapes::right` meets its contract: the kind says from which word on the words are not used, and these are looked at.
use mathlib.Core.Path.{◌≡◌}
use Prim.Native.Nat.{◌<◌}
use native.Mathlib.Omega.{arith}
use lib.IntN.{pos}
use lib.ListN.{get_or}
use lib.Signed.{mag}
use mir.Syntax.{w32}
use mir.Val.{of_z}
use Rattle.shapes.proofs.Words.{read_as, zeros_after}
use Rattle.shapes.proofs.right.Goals as goal

pub returns-in-1 : goal.returns-in-1
returns-in-1 c =
    let word = get_or c.args.words.now 0 (pos 0) in
    let fits : mag word < 2147483648 = omega arith in
    let is : of_z w32 word ≡ 1 = omega arith in
    zeros_after c.args.words.now c.requires 1 4 (omega arith) (omega arith) (omega arith) (read_as fits is) c.all_zero.ensures

pub returns-in-2 : goal.returns-in-2
returns-in-2 c =
    let word = get_or c.args.words.now 0 (pos 0) in
    let fits : mag word < 2147483648 = omega arith in
    let is : of_z w32 word ≡ 2 = omega arith in
    zeros_after c.args.words.now c.requires 2 2 (omega arith) (omega arith) (omega arith) (read_as fits is) c.all_zero-in-2.ensures
