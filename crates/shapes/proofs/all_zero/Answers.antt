-- `shapes::all_zero` meets its contract: `all` says it of each word.
use mathlib.Core.Path.{◌≡◌}
use mathlib.Core.Bool.{Bool, true, false}
use mathlib.Core.List.{List}
use Prim.Native.Nat.{ℕ, ◌<◌}
use native.Mathlib.Omega.{arith}
use lib.IntN.{ℤ, pos}
use lib.ListN.{length, get_or}
use borrow.Author.Rules.{rules}
use borrow.Author.Tests.{tests}
use Rattle.std.specs.Bool.{MatchBool}
use Rattle.std.specs.List.{AllWithin, HoldsAt}
use Rattle.std.proofs.lemmas.Iterator.{cases_from_all, YieldsList-from_slice}
use Rattle.numbers.specs.Says.{Says}
use Rattle.numbers.proofs.Says.{says_yes, says_no}
use Rattle.shapes.proofs.all_zero.Goals as goal

zeros : (r : Bool) (ws : List ℤ)
    → MatchBool r (AllWithin (λ (x : ℤ). x ≡ pos 0) ws 0 (length ws)) ((k : ℕ) × (k < length ws) × HoldsAt (λ (x : ℤ). x ≡ pos 0 → ⊥) ws k)
    → Says r ((k : ℕ) → k < length ws → get_or ws k (pos 0) ≡ pos 0)
zeros true ws h = says_yes (λ k l. h k (pos 0) (omega arith) l)
zeros false ws h = says_no (λ f. h.2 (pos 0) (f h.0 h.1))

pub returns : goal.returns
returns c =
    zeros c.all.result c.args.words.now
    (cases_from_all _ _ _ (λ x. x ≡ pos 0) (λ x. x ≡ pos 0 → ⊥) c.all.ensures.ran (YieldsList-from_slice c.args.words.now cc) (λ x q k. search (rules, tests)) (λ x q k. search (rules, tests)))
