-- `capi::flourscoop_bin_point` meets its contract: it tells what bin answers of that point.
use mathlib.Core.Path.{◌≡◌, sym, subst}
use borrow.Author.Rules.{rules}
use Rattle.shape.specs.declared.Shape.TheVariants.{Point}
use Rattle.calls.specs.Told.{Binned}
use Rattle.calls.specs.Tables.{BinSays}
use Rattle.capi.specs.Faces.{vertex}
use Rattle.capi.proofs.flourscoop_bin_point.Goals as goal

pub returns : goal.returns
returns c =
    let a = c.args in
    let same : c.point.result ≡ Point (vertex a.x1 a.y1) = search rules in
    subst (λ (b : Binned). BinSays a.pool.now (Point (vertex a.x1 a.y1)) a.id b c.bin.new.pool) (sym c.tell_bin.ensures) (rw same at c.bin.ensures)
