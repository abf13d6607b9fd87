-- `capi::flourscoop_unit` meets its contract: it tells what unit answers.
use mathlib.Core.Path.{◌≡◌, refl, sym, subst, ◌∙◌}
use lib.IntN.{ℤ, pos}
use mir.Syntax.{w32}
use mir.Val.{to_z, of_z}
use borrow.Author.Rules.{rules}
use Rattle.std.specs.Prelude.{Result, Ok, Err}
use Rattle.std.specs.Result.{result_unwrap_or}
use Rattle.numbers.specs.declared.Refusal.{Refusal}
use Rattle.numbers.specs.Refusal.{number_in}
use Rattle.calls.specs.Told.{Rounded, told_unit}
use Rattle.calls.specs.Units.{UnitSays}
use Rattle.capi.specs.Faces.{rounded}
use Rattle.capi.proofs.flourscoop_unit.Goals as goal

-- the number and the unit of an answer
told : (r : Result ℤ Refusal) → told_unit r ≡ rounded (number_in r) (result_unwrap_or r (pos 0))
told (Ok z) = refl
told (Err n) = refl

pub returns : goal.returns
returns c =
    let value : to_z w32 (of_z w32 c.unwrap_or.result) ≡ result_unwrap_or c.unit-answer.result (pos 0) = search rules in
    subst (λ (a : Rounded). UnitSays c.args.v a) (told c.unit-answer.result ∙ (λ i. rounded (sym c.number_in.ensures i) (sym value i))) c.unit-answer.ensures
