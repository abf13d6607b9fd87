-- `touch::inner_at` meets its contract: an edge that has the rectangle on its inner side does not separate it; of another the least and the greatest value tell.
use mathlib.Core.Path.{◌≡◌, sym, subst, ◌∙◌}
use mathlib.Core.Bool.{Bool}
use mir.Syntax.{w64}
use Rattle.numbers.specs.Is.{kept}
use Rattle.numbers.specs.Says.{Says}
use Rattle.numbers.proofs.Says.{says_yes, says_iff}
use Rattle.screen.specs.declared.Rectangle.{Rectangle}
use Rattle.screen.specs.Rectangle.{Proper}
use Rattle.touch.specs.declared.Edge.{Edge}
use Rattle.touch.specs.declared.RowEdge.{RowEdge}
use Rattle.touch.specs.declared.Ends.{Ends}
use Rattle.touch.specs.Edges.{row_edge, RowEdgeRange}
use Rattle.touch.specs.Inner.{ends_at, Outer, Inner}
use Rattle.touch.specs.Look.{OnSideOf, ApartOf}
use Rattle.touch.proofs.Sizes.{side_read, read_within, row_edge_range, left_within, right_within, top_within, bottom_within}
use Rattle.touch.proofs.Extremes.{outer_is_apart, inner_is_on_side}
use Rattle.touch.proofs.Enclosing.{on_side_not_apart}
use Rattle.touch.proofs.inner_at.Goals as goal

-- what the two tests say, of the edge in the row of the rectangle
module _ (e : Edge) (q : Rectangle) (ok : Proper q) {row : RowEdge} (r : row ≡ row_edge e (kept w64 q.top) (kept w64 q.bottom)) where
  row_is : row ≡ row_edge e q.top q.bottom
  row_is = r ∙ (λ i. row_edge e (side_read (top_within ok) i) (side_read (bottom_within ok) i))

  module _ {v : Ends} (h : v ≡ ends_at row (kept w64 q.left) (kept w64 q.right)) where
    ends_are : v ≡ ends_at (row_edge e q.top q.bottom) q.left q.right
    ends_are = h ∙ (λ i. ends_at (row_is i) (side_read (left_within ok) i) (side_read (right_within ok) i))

    apart : {t : Bool} → Says t (Outer row.third v) → Says t (ApartOf e q)
    apart {t} k =
        let o = outer_is_apart (row_edge e q.top q.bottom) q.left q.right in
        says_iff o.0 o.1 (subst (λ (p : Type 0). p) (λ i. Says t (Outer (row_is i).third (ends_are i))) k)

    on_side : {t : Bool} → Says t (Inner row.third v) → Says t (OnSideOf e q)
    on_side {t} k =
        let o = inner_is_on_side (row_edge e q.top q.bottom) q.left q.right in
        says_iff o.0 o.1 (subst (λ (p : Type 0). p) (λ i. Says t (Inner (row_is i).third (ends_are i))) k)

pub returns-then-known : goal.returns-then-known
returns-then-known c = let h = c.requires.2 c.if-known.true in (on_side_not_apart c.args.edge c.args.rectangle h, says_yes h)

pub ends_at-ends-requires : goal.ends_at-ends-requires
ends_at-ends-requires c =
    let ok = c.requires.1 in (
      subst RowEdgeRange (sym (row_is c.args.edge c.args.rectangle ok c.row_edge-row.ensures)) (row_edge_range c.requires.0 (top_within ok) (bottom_within ok)),
      read_within (left_within ok),
      read_within (right_within ok),
    )

pub returns-then-outer : goal.returns-then-outer
returns-then-outer c = (apart c.args.edge c.args.rectangle c.requires.1 c.row_edge-row.ensures c.ends_at-ends.ensures c.outer.ensures).yes c.if-outer.true

pub returns : goal.returns
returns c = (
  (apart c.args.edge c.args.rectangle c.requires.1 c.row_edge-row.ensures c.ends_at-ends.ensures c.outer.ensures).no c.if-outer.false,
  on_side c.args.edge c.args.rectangle c.requires.1 c.row_edge-row.ensures c.ends_at-ends.ensures c.inner.ensures,
)
