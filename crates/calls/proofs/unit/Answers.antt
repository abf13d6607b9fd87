-- `calls::unit` meets its contract: the two cases of the snap's answer.
use mathlib.Core.Path.{◌≡◌, sym, ◌∙◌}
use mir.Syntax.{w32}
use Rattle.std.specs.Prelude.{Err}
use Rattle.numbers.specs.Is.{kept}
use borrow.Author.Rules.{rules}
use Rattle.calls.proofs.Units.{unit_told}
use Rattle.calls.proofs.unit.Goals as goal

pub returns-in_default : goal.returns-in_default
returns-in_default c = unit_told {r = Err c.unwrap_err.result} (sym (sym c.snap-snapped.ensures ∙ search rules))

pub returns : goal.returns
returns c =
    let z : kept w32 c.in-Ok.unit ≡ c.in-Ok.unit = search rules in
    rw z (unit_told (sym c.in-Ok.is ∙ c.snap-snapped.ensures))
