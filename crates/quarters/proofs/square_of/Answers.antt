-- `quarters::square_of` meets its contract: a grid has at most 512 columns and as many rows.
use mathlib.Core.Path.{refl}
use native.Mathlib.Omega.{arith}
use lib.Pow.{pow_mono}
use Rattle.screen.proofs.Sizes.{across≤}
use Rattle.quarters.proofs.square_of.Goals as goal

pub exponent_of-requires : goal.exponent_of-requires
exponent_of-requires c =
    let d = c.args.grid.screen in
    let a = c.args.grid.allowed in
    let e = c.columns.ensures in
    let f = c.rows.ensures in
    (omega (arith, across≤ d.width d.s a.width≤ a.s≥), omega (arith, across≤ d.height d.s a.height≤ a.s≥))

pub returns : goal.returns
returns c =
    let e = c.exponent_of.ensures in
    let w = pow_mono {i = c.exponent_of.result} {j = 9} e.1 in
    record {
      column = refl;
      row = refl;
      smallest = rw (c.columns.ensures, c.rows.ensures) at e.0;
      small = record { exponent = e.1; column = omega arith; row = omega arith };
    }
