-- `stepping::step_through` meets its contract: the rows and columns are those that meet the bounding box, the start tile is that of the topmost vertex, and the
-- edges are those of the shape.
use borrow.Author.Rules.{rules}
use mathlib.Core.Path.{sym, ap, subst, ◌∙◌}
use mir.Syntax.{w32}
use mir.Val.{SFits}
use Rattle.std.proofs.lemmas.Int.{to_z-of_z}
use Rattle.screen.specs.Held.{rounded_down, rounded_up_less_one}
use Rattle.shape.specs.declared.Vertex.{Vertex}
use Rattle.touch.specs.declared.Edges.{Edges}
use Rattle.touch.specs.Edges.{edges_of, starts}
use Rattle.touch.proofs.Sizes.{three-placed}
use Rattle.walk.specs.Row.{outlined}
use Rattle.stepping.specs.Stepping.{OnScreen, topmost}
use Rattle.stepping.proofs.Points.{on_screen_in_range, triangle_on_screen, topmost_in_range}
use Rattle.stepping.proofs.As.{walked_as}
use Rattle.stepping.proofs.step_through.Goals as goal

pub figure_of-figure-requires : goal.figure_of-figure-requires
figure_of-figure-requires c =
    let s = c.args in
    rw c.three_of-vertices.ensures (three-placed s.shape (on_screen_in_range s.grid.screen s.grid.allowed s.shape c.requires.0))

pub row_above-requires : goal.row_above-requires
row_above-requires c =
    let s = c.args in
    let y : SFits w32 c.topmost_of-x.result.y = search rules in
    let top = c.topmost_of-x.ensures ∙ ap topmost c.three_of-vertices.ensures in
    simp to_z-of_z (rw top (topmost_in_range s.grid.screen s.grid.allowed s.shape c.requires.0))

pub step_rows-requires : goal.step_rows-requires
step_rows-requires c =
    let d = c.args.grid.screen in
    let told = c.figure_of-figure.ensures in
    let edges = told ∙ ap edges_of c.three_of-vertices.ensures in
    let x : SFits w32 c.topmost_of-x.result.x = search rules in
    let y : SFits w32 c.topmost_of-x.result.y = search rules in
    let column = simp to_z-of_z at c.column_at.ensures in
    let row = simp to_z-of_z at c.row_above.ensures in
    let top = c.topmost_of-x.ensures ∙ ap (λ (e : Edges). topmost (starts e)) (sym told) in
    record {
      on_screen = subst (λ (e : Edges). OnScreen d (outlined e)) (sym edges) (triangle_on_screen d c.args.shape c.requires.0);
      meeting = c.box_spans-spans.ensures;
      start = (
        row ∙ ap (λ (v : Vertex). rounded_up_less_one d.height d.s v.y) top,
        column ∙ ap (λ (v : Vertex). rounded_down d.width d.s v.x) top,
      );
      in_bounds = c.requires.1;
    }

pub returns : goal.returns
returns c =
    let edges = c.figure_of-figure.ensures ∙ ap edges_of c.three_of-vertices.ensures in
    walked_as c.args.grid.screen c.args.shape c.requires.0 (rw edges at c.step_rows.ensures)
