-- `walk::cover_in` meets its contract: the sides of the column are those of its tiles.
use mathlib.Core.Path.{sym, subst}
use mir.Syntax.{w64}
use Rattle.numbers.proofs.Is.{is_call}
use Rattle.touch.specs.Edges.{Within}
use Rattle.touch.specs.Inner.{CoverAt}
use Rattle.walk.proofs.Grid.{near_within, far_within}
use Rattle.walk.proofs.cover_in.Goals as goal

pub cover-requires : goal.cover-requires
cover-requires c =
    let d = c.args.grid.screen in
    let ok = c.args.grid.allowed in
    let left = (is_call w64 c.left.type_inv c.left.ensures).same in
    let right = (is_call w64 c.right.type_inv c.right.ensures).same in (
      subst (Within 524288) (sym left) (near_within d.width d.s ok.width≤ ok.s≥ ok.s≤ c.requires),
      subst (Within 524288) (sym right) (far_within d.width d.s ok.width≤ ok.s≥ ok.s≤ c.requires),
    )

pub returns : goal.returns
returns c =
    let left = (is_call w64 c.left.type_inv c.left.ensures).same in
    let right = (is_call w64 c.right.type_inv c.right.ensures).same in
    subst (λ (P : Type 0). P) (λ i. CoverAt c.cover.result c.args.row.edges (left i) (right i)) c.cover.ensures
