-- `walk::box_spans` meets its contract: the spans are asked for with the sides of the figure's bounding box.
use mathlib.Core.Path.{◌≡◌, sym, ap, subst, ◌∙◌}
use native.Mathlib.Omega.{arith}
use mir.Syntax.{w32}
use Rattle.numbers.specs.Is.{kept}
use Rattle.numbers.proofs.Is.{kept_is}
use Rattle.screen.specs.Rectangle.{Meeting}
use Rattle.shape.specs.Shape.{InUnits}
use Rattle.touch.specs.declared.Bounds.{Bounds}
use Rattle.touch.specs.Corner.{bounds}
use Rattle.touch.specs.Edges.{starts}
use Rattle.touch.proofs.Sizes.{right_in_units, bottom_in_units}
use Rattle.walk.proofs.box_spans.Goals as goal

pub columns_meeting-requires : goal.columns_meeting-requires
columns_meeting-requires c =
    let f = c.args.figure in
    let read : kept w32 f.around.right ≡ (bounds (starts f.edges)).right = kept_is w32 _ (omega arith) ∙ ap (λ (a : Bounds). a.right) f.boxed in
    let units = subst InUnits (sym read) (right_in_units f.outline.placed) in
    (units.low, units.high)

pub rows_meeting-requires : goal.rows_meeting-requires
rows_meeting-requires c =
    let f = c.args.figure in
    let read : kept w32 f.around.bottom ≡ (bounds (starts f.edges)).bottom = kept_is w32 _ (omega arith) ∙ ap (λ (a : Bounds). a.bottom) f.boxed in
    let units = subst InUnits (sym read) (bottom_in_units f.outline.placed) in
    (units.low, units.high)

pub returns : goal.returns
returns c =
    let d = c.args.grid.screen in
    let a = c.args.figure.around in
    let b = c.args.figure.boxed in
    let left = kept_is w32 a.left (omega arith) ∙ ap (λ (x : Bounds). x.left) b in
    let right = kept_is w32 a.right (omega arith) ∙ ap (λ (x : Bounds). x.right) b in
    let top = kept_is w32 a.top (omega arith) ∙ ap (λ (x : Bounds). x.top) b in
    let bottom = kept_is w32 a.bottom (omega arith) ∙ ap (λ (x : Bounds). x.bottom) b in
    record {
      columns = subst (λ (P : Type 0). P) (λ i. Meeting d.width d.s (left i) (right i) c.columns_meeting.result) c.columns_meeting.ensures;
      rows = subst (λ (P : Type 0). P) (λ i. Meeting d.height d.s (top i) (bottom i) c.rows_meeting.result) c.rows_meeting.ensures;
    }
