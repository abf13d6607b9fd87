-- `capi::flourscoop_overlaps` meets its contract: it tells what overlaps answers.
use mathlib.Core.Path.{sym, subst, ◌∙◌}
use Rattle.calls.specs.Told.{Counted}
use Rattle.calls.specs.Overlaps.{OverlapsSays}
use Rattle.capi.specs.Faces.{screen, counted}
use Rattle.capi.proofs.flourscoop_overlaps.Goals as goal

pub returns : goal.returns
returns c =
    let a = c.args in
    subst (λ (n : Counted). OverlapsSays a.list.now (screen a.width a.height a.s) n)
    (sym c.totals_in-told.ensures ∙ (λ i. counted (sym c.number_in.ensures i) c.totals_in-told.result)) c.overlaps-answer.ensures
