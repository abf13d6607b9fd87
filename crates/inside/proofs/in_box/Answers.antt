-- `inside::in_box` meets its contract: the sides and the vertex are read as they are, and the four tests are the four orders.
use mir.Syntax.{w32}
use mir.Val.{SFits}
use Rattle.std.proofs.Common.{rules}
use Rattle.std.proofs.lemmas.Int.{to_z-of_z}
use Rattle.touch.specs.Cover.{one_point}
use Rattle.touch.proofs.Answers.{overlap_says}
use Rattle.inside.proofs.in_box.Goals as goal

pub returns : goal.returns
returns c =
    let p = c.args.around in
    let v = c.args.vertex in
    let l : SFits w32 p.left = search rules in
    let r : SFits w32 p.right = search rules in
    let t : SFits w32 p.top = search rules in
    let b : SFits w32 p.bottom = search rules in
    let x : SFits w32 v.x = search rules in
    let y : SFits w32 v.y = search rules in
    simp to_z-of_z (overlap_says p (one_point v.x v.y))
