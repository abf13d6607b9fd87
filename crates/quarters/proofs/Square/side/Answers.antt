-- `quarters::Square::side` meets its contract: 2^9 is 512, so the shift loses nothing.
use mathlib.Core.Path.{◌≡◌, ◌∙◌}
use Prim.Native.Nat.{◌*◌, ◌^◌, ◌%◌, ◌≤◌}
use native.Mathlib.Nat.{mod-eq_of_lt}
use native.Mathlib.Omega.{arith}
use lib.Pow.{pow_mono}
use Rattle.quarters.proofs.Square.side.Goals as goal

pub returns : goal.returns
returns c =
    let e = c.args.self.exponent in
    let w : 2 ^ e ≤ 512 = pow_mono {i = e} {j = 9} c.requires in
    let m : (1 * 2 ^ e) % 2 ^ 32 ≡ 2 ^ e = mod-eq_of_lt (omega arith) ∙ omega arith in
    (m, omega arith)
