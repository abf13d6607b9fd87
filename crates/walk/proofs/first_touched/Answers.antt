-- `walk::first_touched` meets its contract. The invariant: no column passed is clear.
use mathlib.Core.Path.{sym, subst, ◌∙◌}
use mathlib.Core.Bool.{Bool}
use native.Mathlib.Omega.{arith}
use Rattle.numbers.specs.Says.{Says}
use Rattle.touch.proofs.Covering.{cover_says_clear, cover_says_enclosed}
use Rattle.walk.specs.Row.{EnclosedIn}
use Rattle.walk.proofs.Lists.{up_to}
use Rattle.walk.proofs.first_touched.Goals as goal

pub loop-column-init : goal.loop-column-init
loop-column-init c = λ k l h. absurd (omega arith)

pub returns-then-is_touched : goal.returns-then-is_touched
returns-then-is_touched c =
    let l = c.loop-column in
    let cover = c.cover_in-cover in
    let s = c.args in record {
      column = record {
        from = omega arith;
        none = l.invariant;
        first = λ h. (cover_says_clear cover.result cover.ensures).yes (sym c.is_touched.ensures ∙ c.if-is_touched.true);
      };
      whole = λ h.
          subst (λ (r : Bool). Says r (EnclosedIn s.grid.screen s.row.edges l.column)) (sym c.is_whole.ensures)
          (cover_says_enclosed cover.result cover.ensures);
    }

pub loop-column-preserved : goal.loop-column-preserved
loop-column-preserved c =
    let cover = c.cover_in-cover in
    up_to c.loop-column.invariant ((cover_says_clear cover.result cover.ensures).no (sym c.is_touched.ensures ∙ c.if-is_touched.false))

pub returns : goal.returns
returns c =
    record { column = record { from = omega arith; none = λ k l h. c.loop-column.invariant k l (omega arith); first = λ h. absurd (omega arith) }; whole = λ h. absurd (omega arith) }
