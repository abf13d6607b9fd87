-- `capi::flourscoop_bin_line` meets its contract: it tells what bin answers of that line.
use mathlib.Core.Path.{◌≡◌, sym, subst}
use borrow.Author.Rules.{rules}
use Rattle.shape.specs.declared.Shape.TheVariants.{Line}
use Rattle.calls.specs.Told.{Binned}
use Rattle.calls.specs.Tables.{BinSays}
use Rattle.capi.specs.Faces.{vertex}
use Rattle.capi.proofs.flourscoop_bin_line.Goals as goal

pub returns : goal.returns
returns c =
    let a = c.args in
    let same : c.line.result ≡ Line (vertex a.x1 a.y1) (vertex a.x2 a.y2) = search rules in
    subst (λ (b : Binned). BinSays a.pool.now (Line (vertex a.x1 a.y1) (vertex a.x2 a.y2)) a.id b c.bin.new.pool) (sym c.tell_bin.ensures) (rw same at c.bin.ensures)
