-- `audit::all_entries` says whether words are entries: `all` says so of the words passed.
use native.Mathlib.Omega.{arith}
use Rattle.numbers.proofs.Says.{says_iff}
use Rattle.numbers.proofs.Deciding.{says_none, says_more, says_lt}
use Rattle.audit.proofs.all_entries.Goals as goal

pub loop-word-init : goal.loop-word-init
loop-word-init c = says_none _

pub loop-word-preserved : goal.loop-word-preserved
loop-word-preserved c = says_more _ _ c.loop-word.invariant (says_lt _ _)

pub returns : goal.returns
returns c = says_iff (λ h i lt. h i (omega arith)) (λ h i lt. h i (omega arith)) c.loop-word.invariant
