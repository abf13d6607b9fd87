-- `touch::separates` meets its contract: the values are read as they are, and the signs are compared as in the definition.
use mir.Syntax.{w64}
use mir.Val.{SFits}
use Rattle.std.proofs.Common.{rules}
use Rattle.std.proofs.lemmas.Int.{to_z-of_z}
use Rattle.touch.proofs.Answers.{apart_says}
use Rattle.touch.proofs.separates.Goals as goal

pub returns : goal.returns
returns c =
    let v = c.args.at in
    let third : SFits w64 c.args.edge.third = search rules in
    let p : SFits w64 v.p = search rules in
    let q : SFits w64 v.q = search rules in
    let r : SFits w64 v.r = search rules in
    let s : SFits w64 v.s = search rules in
    simp to_z-of_z (apart_says c.args.edge.third v.p v.q v.r v.s)
