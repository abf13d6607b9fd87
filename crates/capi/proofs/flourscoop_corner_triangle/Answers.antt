-- `capi::flourscoop_corner_triangle` meets its contract: it tells what corner_cover answers of that triangle.
use mathlib.Core.Path.{◌≡◌}
use borrow.Author.Rules.{rules}
use Rattle.shape.specs.declared.Shape.TheVariants.{Triangle}
use Rattle.calls.specs.Told.{told_cover}
use Rattle.capi.specs.Faces.{vertex}
use Rattle.capi.proofs.flourscoop_corner_triangle.Goals as goal

pub returns : goal.returns
returns c =
    let a = c.args in
    let same : c.triangle.result ≡ Triangle (vertex a.x1 a.y1) (vertex a.x2 a.y2) (vertex a.x3 a.y3) = search rules in
    record {
      answer = told_cover c.corner_cover.result;
      says = rw same at c.corner_cover.ensures;
      number_is = c.tell_cover.ensures.number;
      cover_is = c.tell_cover.ensures.cover;
    }
