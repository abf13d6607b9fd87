-- `capi::flourscoop_map_line` meets its contract: it tells what map answers of that line.
use mathlib.Core.Path.{◌≡◌}
use borrow.Author.Rules.{rules}
use Rattle.shape.specs.declared.Shape.TheVariants.{Line}
use Rattle.capi.specs.Faces.{vertex}
use Rattle.capi.proofs.flourscoop_map_line.Goals as goal

pub returns : goal.returns
returns c =
    let a = c.args in
    let same : c.line.result ≡ Line (vertex a.x1 a.y1) (vertex a.x2 a.y2) = search rules in
    rw c.number_in.ensures (rw same at c.map.ensures)
