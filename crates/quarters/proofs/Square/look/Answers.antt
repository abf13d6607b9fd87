-- `quarters::Square::look` meets its contract: off the grid there is no tile to touch, and on it the test of the square's rectangle tells of its tiles.
use mathlib.Core.Path.{sym, subst}
use mathlib.Core.Logic.{⊎_elim}
use native.Mathlib.Omega.{arith}
use Rattle.std.proofs.lemmas.Bool.{or_cases, leb-true}
use Rattle.std.proofs.lemmas.Bool.Decides.{nat_tests}
use Rattle.screen.specs.declared.Rectangle.{Rectangle}
use Rattle.screen.specs.Rectangle.{Proper, HasArea}
use Rattle.touch.specs.Cover.{CoverSays}
use Rattle.walk.specs.Row.{outlined}
use Rattle.quarters.specs.Square.{StartsOnGrid}
use Rattle.quarters.proofs.Touched.{square_proper, square_has_area, square_says, right_of_the_grid, below_the_grid}
use Rattle.quarters.proofs.Square.look.Goals as goal
use Rattle.quarters.proofs.Square.look.Goals.{After-rectangle}

-- past the test the square starts on the grid
starts-on-grid : (c : After-rectangle) → StartsOnGrid c.args.grid.screen c.args.self
starts-on-grid c =
    let e = c.columns.ensures in
    let f = c.rows.ensures in
    let l = c.if-columns-self.false in
    record { column = grind (arith, nat_tests); row = grind (arith, nat_tests) }

pub returns-then-columns-self-clause-cover : goal.returns-then-columns-self-clause-cover
returns-then-columns-self-clause-cover c =
    let d = c.args.grid.screen in
    let q = c.args.self in
    let shape = outlined c.args.figure.edges in
    ⊎_elim
    (λ l. right_of_the_grid d c.args.grid.allowed shape q (rw c.columns.ensures at (leb-true c.columns.result q.column l)))
    (λ l. below_the_grid d c.args.grid.allowed shape q (rw c.rows.ensures at (leb-true c.rows.result q.row l)))
    (or_cases _ _ c.if-columns-self.true)

pub look-requires-clause-area : goal.look-requires-clause-area
look-requires-clause-area c =
    let d = c.args.grid.screen in
    let a = c.args.grid.allowed in
    let q = c.args.self in
    let g = starts-on-grid (goal.at.look-requires-clause-area c).After-rectangle in
    let e = sym c.rectangle.ensures in
    (subst Proper e (square_proper d a q g), subst HasArea e (square_has_area d a q g))

pub returns-clause-cover : goal.returns-clause-cover
returns-clause-cover c =
    let shape = outlined c.args.figure.edges in
    let r = c.look.result in
    square_says c.args.grid.screen c.args.grid.allowed c.args.self (starts-on-grid (goal.at.returns-clause-cover c).After-rectangle) shape r.cover
    (subst (λ (q : Rectangle). CoverSays r.cover shape q) c.rectangle.ensures c.look.ensures.cover)
