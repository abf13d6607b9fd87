-- `capi::flourscoop_bin_triangle` meets its contract: it tells what bin answers of that triangle.
use mathlib.Core.Path.{◌≡◌, sym, subst}
use borrow.Author.Rules.{rules}
use Rattle.shape.specs.declared.Shape.TheVariants.{Triangle}
use Rattle.calls.specs.Told.{Binned}
use Rattle.calls.specs.Tables.{BinSays}
use Rattle.capi.specs.Faces.{vertex}
use Rattle.capi.proofs.flourscoop_bin_triangle.Goals as goal

pub returns : goal.returns
returns c =
    let a = c.args in
    let same : c.triangle.result ≡ Triangle (vertex a.x1 a.y1) (vertex a.x2 a.y2) (vertex a.x3 a.y3) = search rules in
    subst (λ (b : Binned). BinSays a.pool.now (Triangle (vertex a.x1 a.y1) (vertex a.x2 a.y2) (vertex a.x3 a.y3)) a.id b c.bin.new.pool) (sym c.tell_bin.ensures) (rw same at c.bin.ensures)
