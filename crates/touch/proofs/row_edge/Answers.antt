-- `touch::row_edge` meets its contract: each value is an integer of the edge and the row, of a size that is computed.
use mir.Syntax.{w64}
use mir.Val.{SFits}
use Rattle.std.proofs.Common.{rules}
use Rattle.numbers.proofs.Is.{is_fits, is_kept, is_arg}
use Rattle.touch.proofs.Sizes.{is_within, part}
use Rattle.touch.proofs.row_edge.Goals as goal

pub overflow_mul-result : goal.overflow_mul-result
overflow_mul-result c = let p = c.requires in is_fits tt (part p.1 p.0.y p.0.dx)

pub overflow_mul-result-2 : goal.overflow_mul-result-2
overflow_mul-result-2 c = let p = c.requires in is_fits tt (part p.2 p.0.y p.0.dx)

pub returns : goal.returns
returns c =
    let p = c.requires in
    let third : SFits w64 c.args.edge.third = search rules in
    λ i. record {
      x = (is_kept w64 tt (is_within p.0.x)).same i;
      dy = (is_kept w64 tt (is_within p.0.dy)).same i;
      third = (is_arg w64 third).same i;
      upper = (is_kept w64 tt (part p.1 p.0.y p.0.dx)).same i;
      lower = (is_kept w64 tt (part p.2 p.0.y p.0.dx)).same i;
    }
