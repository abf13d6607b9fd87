-- A word gives back the number and the flag that it was made of, and the words below twice the flag are just those.
use mathlib.Core.Path.{◌≡◌, refl, ap}
use mathlib.Core.Bool.{Bool, true, false}
use mathlib.Core.List.{List, [], ◌∷◌}
use Prim.Native.Nat.{ℕ, zero, suc, ◌+◌, ◌<◌}
use native.Mathlib.Omega.{arith}
use borrow.Author.Tests.{leb-true, leb-false}
use lib.ListN.{length, get_or, set, take, length-map, get_or-map}
use Rattle.numbers.specs.Flag.{flag, flagged, plain, is_flagged, plains}
use Rattle.numbers.proofs.Says.{says_true, says_false}
use Rattle.numbers.proofs.Deciding.{says_le}

-- ---- one word

module _ (n : ℕ) (h : n < flag) where
  pub plain-flagged : (b : Bool) → plain (flagged n b) ≡ n
  plain-flagged true = omega arith
  plain-flagged false = omega arith

  pub is_flagged_lem : (b : Bool) → is_flagged (flagged n b) ≡ b
  is_flagged_lem true = says_true (says_le flag (n + flag)) (omega arith)
  is_flagged_lem false = says_false (says_le flag n) (λ k. omega arith)

  pub flagged< : (b : Bool) → flagged n b < 33554432
  flagged< true = omega arith
  flagged< false = omega arith

pub word_is : (w : ℕ) → w < 33554432 → flagged (plain w) (is_flagged w) ≡ w
word_is w h = go (is_flagged w) refl
  where
    go : (b : Bool) → is_flagged w ≡ b → flagged (plain w) b ≡ w
    go true e = let k = leb-true flag w e in omega arith
    go false e = let k = leb-false flag w e in omega arith

-- ---- words one after the other

pub length-plains : (ws : List ℕ) → length (plains ws) ≡ length ws
length-plains ws = length-map ws plain

pub get_or-plains : (ws : List ℕ) (i : ℕ) → get_or (plains ws) i 0 ≡ plain (get_or ws i 0)
get_or-plains ws i = get_or-map plain ws i 0

pub set-plains : (ws : List ℕ) (i w : ℕ) → plains (set ws i w) ≡ set (plains ws) i (plain w)
set-plains [] i w = refl
set-plains (v ∷ ws) zero w = refl
set-plains (v ∷ ws) (suc i) w = ap (λ (vs : List ℕ). plain v ∷ vs) (set-plains ws i w)

pub take-plains : (n : ℕ) (ws : List ℕ) → plains (take n ws) ≡ take n (plains ws)
take-plains zero ws = refl
take-plains (suc n) [] = refl
take-plains (suc n) (w ∷ ws) = ap (λ (vs : List ℕ). plain w ∷ vs) (take-plains n ws)
