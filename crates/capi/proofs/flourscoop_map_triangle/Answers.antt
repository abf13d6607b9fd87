-- `capi::flourscoop_map_triangle` meets its contract: it tells what map answers of that triangle.
use mathlib.Core.Path.{◌≡◌}
use borrow.Author.Rules.{rules}
use Rattle.shape.specs.declared.Shape.TheVariants.{Triangle}
use Rattle.capi.specs.Faces.{vertex}
use Rattle.capi.proofs.flourscoop_map_triangle.Goals as goal

pub returns : goal.returns
returns c =
    let a = c.args in
    let same : c.triangle.result ≡ Triangle (vertex a.x1 a.y1) (vertex a.x2 a.y2) (vertex a.x3 a.y3) = search rules in
    rw c.number_in.ensures (rw same at c.map.ensures)
