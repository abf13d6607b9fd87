-- `walk::edges_in_row` meets its contract: the sides of the row are of a size that the edges take.
use mathlib.Core.Path.{sym, subst, ◌∙◌}
use mir.Syntax.{w64}
use Rattle.numbers.proofs.Is.{is_call}
use Rattle.touch.specs.Edges.{row_edges, Within}
use Rattle.walk.proofs.Grid.{near_within, far_within}
use Rattle.walk.proofs.edges_in_row.Goals as goal

pub in_row-requires : goal.in_row-requires
in_row-requires c =
    let d = c.args.grid.screen in
    let ok = c.args.grid.allowed in
    let top = (is_call w64 c.top.type_inv c.top.ensures).same in
    let bottom = (is_call w64 c.bottom.type_inv c.bottom.ensures).same in (
      subst (Within 524288) (sym top) (near_within d.height d.s ok.height≤ ok.s≥ ok.s≤ c.requires),
      subst (Within 524288) (sym bottom) (far_within d.height d.s ok.height≤ ok.s≥ ok.s≤ c.requires),
    )

pub returns : goal.returns
returns c =
    let top = (is_call w64 c.top.type_inv c.top.ensures).same in
    let bottom = (is_call w64 c.bottom.type_inv c.bottom.ensures).same in
    record { is = c.in_row.ensures ∙ (λ i. row_edges c.args.figure.edges (top i) (bottom i)); range = c.in_row.result.sized }
