-- How answers are given, and how one follows from others.
use mathlib.Core.Path.{◌≡◌, refl, subst, sym}
use mathlib.Core.Bool.{Bool, true, false, not, ◌&&◌}
use lib.Dec.{T}
use Rattle.numbers.specs.Says.{Says}

pub true≢false : true ≡ false → ⊥
true≢false e = subst T e tt

module _ {P : Type 0} where
  pub says_yes : P → Says true P
  says_yes p = record { yes = λ e. p; no = λ e. absurd (true≢false e) }

  pub says_no : (P → ⊥) → Says false P
  says_no f = record { yes = λ e. absurd (true≢false (sym e)); no = λ e. f }

-- the answer to P is the answer to what is P by another name
pub says_iff : {P Q : Type 0} {r : Bool} → (P → Q) → (Q → P) → Says r P → Says r Q
says_iff f g h = record { yes = λ e. f (h.yes e); no = λ e q. h.no e (g q) }

-- two answers joined say whether both hold
pub says_and : {P Q : Type 0} {r s : Bool} → Says r P → Says s Q → Says (r && s) (P × Q)
says_and {r = true} {s = true} h k = says_yes (h.yes refl, k.yes refl)
says_and {r = true} {s = false} h k = says_no (λ x. k.no refl x.1)
says_and {r = false} {s} h k = says_no (λ x. h.no refl x.0)

pub says_not : {P : Type 0} {r : Bool} → Says r P → Says (not r) (P → ⊥)
says_not {r = true} h = says_no (λ n. n (h.yes refl))
says_not {r = false} h = says_yes (h.no refl)

-- an answer is yes where P holds, no where it does not, and one alone
pub says_true : {P : Type 0} {r : Bool} → Says r P → P → r ≡ true
says_true {r = true} h p = refl
says_true {r = false} h p = absurd (h.no refl p)

pub says_false : {P : Type 0} {r : Bool} → Says r P → (P → ⊥) → r ≡ false
says_false {r = true} h f = absurd (f (h.yes refl))
says_false {r = false} h f = refl

pub says_once : {P : Type 0} {r s : Bool} → Says r P → Says s P → r ≡ s
says_once {r = true} h k = sym (says_true k (h.yes refl))
says_once {r = false} h k = sym (says_false k (h.no refl))
