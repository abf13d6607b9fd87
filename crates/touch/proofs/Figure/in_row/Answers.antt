-- `touch::Figure::in_row` meets its contract: three calls, an edge each, and the edges are as small as their vertices are.
use mathlib.Core.Path.{sym, subst}
use Rattle.std.proofs.Common.{rules}
use Rattle.touch.specs.Edges.{RowEdgeRange}
use Rattle.touch.proofs.Sizes.{read_within, row_edge_range, outline_range}
use Rattle.touch.proofs.Figure.in_row.Goals as goal

pub row_edge-requires : goal.row_edge-requires
row_edge-requires c = let r = outline_range c.args.self.outline in (r.ab, search (rules, read_within), search (rules, read_within))

pub row_edge-requires-2 : goal.row_edge-requires-2
row_edge-requires-2 c = let r = outline_range c.args.self.outline in (r.bc, search (rules, read_within), search (rules, read_within))

pub row_edge-requires-3 : goal.row_edge-requires-3
row_edge-requires-3 c = let r = outline_range c.args.self.outline in (r.ca, search (rules, read_within), search (rules, read_within))

pub invariant_of-result : goal.invariant_of-result
invariant_of-result c =
    let r = outline_range c.args.self.outline in
    record {
      sized =
          record {
            ab = subst RowEdgeRange (sym c.row_edge.ensures) (row_edge_range r.ab (search (rules, read_within)) (search (rules, read_within)));
            bc = subst RowEdgeRange (sym c.row_edge-2.ensures) (row_edge_range r.bc (search (rules, read_within)) (search (rules, read_within)));
            ca = subst RowEdgeRange (sym c.row_edge-3.ensures) (row_edge_range r.ca (search (rules, read_within)) (search (rules, read_within)));
          };
    }
