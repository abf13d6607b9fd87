-- `capi::flourscoop_corner_line` meets its contract: it tells what corner_cover answers of that line.
use mathlib.Core.Path.{◌≡◌}
use borrow.Author.Rules.{rules}
use Rattle.shape.specs.declared.Shape.TheVariants.{Line}
use Rattle.calls.specs.Told.{told_cover}
use Rattle.capi.specs.Faces.{vertex}
use Rattle.capi.proofs.flourscoop_corner_line.Goals as goal

pub returns : goal.returns
returns c =
    let a = c.args in
    let same : c.line.result ≡ Line (vertex a.x1 a.y1) (vertex a.x2 a.y2) = search rules in
    record {
      answer = told_cover c.corner_cover.result;
      says = rw same at c.corner_cover.ensures;
      number_is = c.tell_cover.ensures.number;
      cover_is = c.tell_cover.ensures.cover;
    }
