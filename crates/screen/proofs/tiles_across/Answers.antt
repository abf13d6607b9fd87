-- `screen::tiles_across` meets its contract: a shift is a division by 2^s, which is 8 to 64.
use mathlib.Core.Path.{◌≡◌, refl}
use Prim.Native.Nat.{◌*◌, ◌^◌}
use native.Mathlib.Omega.{arith}
use Rattle.screen.specs.Screen.{across}
use Rattle.screen.proofs.Sizes.{pixels≥, pixels≤, across≤, shift_is}
use Rattle.screen.proofs.tiles_across.Goals as goal

pub overflow_sub-result : goal.overflow_sub-result
overflow_sub-result c = let w = pixels≥ c.requires.1 in rw (shift_is 1 c.args.s (omega arith) c.requires.2) (omega arith)

pub overflow_add-result : goal.overflow_add-result
overflow_add-result c = let w = pixels≤ c.requires.2 in rw (shift_is 1 c.args.s (omega arith) c.requires.2) (omega arith)

pub returns : goal.returns
unfolding across
returns c = let s = c.args.s in
    let e : 1 * 2 ^ s ≡ 2 ^ s = omega arith in
    rw (shift_is 1 s (omega arith) c.requires.2, e)
    (refl, across≤ c.args.extent s c.requires.0 c.requires.1)
