-- `quarters::Square::rectangle` meets its contract: a grid has at most 512 columns and as many rows.
use native.Mathlib.Omega.{arith}
use Rattle.screen.proofs.Sizes.{across≤}
use Rattle.quarters.proofs.Square.rectangle.Goals as goal

pub past-columns-requires : goal.past-columns-requires
past-columns-requires c =
    let d = c.args.grid.screen in
    let a = c.args.grid.allowed in
    let g = c.requires.0 in
    (omega (arith, across≤ d.width d.s a.width≤ a.s≥), c.requires.1)

pub past-rows-requires : goal.past-rows-requires
past-rows-requires c =
    let d = c.args.grid.screen in
    let a = c.args.grid.allowed in
    let g = c.requires.0 in
    (omega (arith, across≤ d.height d.s a.height≤ a.s≥), c.requires.1)
