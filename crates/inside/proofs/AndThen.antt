-- A test that is made only where the one before it passed: the answer of the two says whether both hold.
use mathlib.Core.Path.{◌≡◌}
use mathlib.Core.Bool.{Bool, true, false}
use Rattle.numbers.specs.Says.{Says}
use Rattle.numbers.proofs.Says.{says_no, says_iff}

module _ {P Q : Type 0} {before both : Bool} (s : Says before P) where
  pub made : {now : Bool} → before ≡ true → Says now Q → both ≡ now → Says both (P × Q)
  made e k d = rw d (says_iff (λ q. (s.yes e, q)) (λ h. h.1) k)

  pub not_made : before ≡ false → both ≡ before → Says both (P × Q)
  not_made e d = rw (d, e) (says_no (λ h. s.no e h.0))
