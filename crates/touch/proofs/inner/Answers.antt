-- `touch::inner` meets its contract: the values are read as they are, and the tests are those of the definition.
use mir.Syntax.{w64}
use mir.Val.{SFits}
use Rattle.std.proofs.Common.{rules}
use Rattle.std.proofs.lemmas.Int.{to_z-of_z}
use Rattle.touch.proofs.Answers.{inner_says}
use Rattle.touch.proofs.inner.Goals as goal

pub returns : goal.returns
returns c =
    let third : SFits w64 c.args.edge.third = search rules in
    let least : SFits w64 c.args.ends.least = search rules in
    let greatest : SFits w64 c.args.ends.greatest = search rules in
    simp to_z-of_z (inner_says c.args.edge.third c.args.ends)
