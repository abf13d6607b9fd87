-- `audit::all_marked` says whether every block is marked: `all` says so of the blocks passed.
use native.Mathlib.Omega.{arith}
use Rattle.numbers.proofs.Says.{says_iff}
use Rattle.numbers.proofs.Deciding.{says_none, says_more, says_eq}
use Rattle.audit.proofs.all_marked.Goals as goal

pub loop-mark-init : goal.loop-mark-init
loop-mark-init c = says_none _

pub loop-mark-preserved : goal.loop-mark-preserved
loop-mark-preserved c = says_more _ _ c.loop-mark.invariant (says_eq _ _)

pub returns : goal.returns
returns c = says_iff (λ h i lt. h i (omega arith)) (λ h i lt. h i (omega arith)) c.loop-mark.invariant
