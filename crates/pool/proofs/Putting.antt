-- A list that is written into another from a place on, one number after the other; and one list put behind another.
use mathlib.Core.Path.{◌≡◌, refl, sym, ap, ◌∙◌}
use mathlib.Core.List.{List, [], ◌∷◌, ◌++◌}
use Prim.Native.Nat.{ℕ, suc, ◌+◌, ◌≤◌, ◌<◌}
use native.Mathlib.Numerals.{add-one}
use native.Mathlib.Omega.{arith}
use lib.ListN.{length, get_or, set, take, drop, length-append, length-set, drop_of_length-le}
use lib.Seq.{drop-cons, take_at, get_or-take, get_or-set_other}
use Rattle.pool.specs.Written.{written, Puts}
use Rattle.pool.proofs.Written.{length-written, written_none, written_next, written-append, written_is}

-- ---- one number after the other

-- p is p₀ with k numbers of the list written: writing the rest from there on gives what all of them give
pub record Writing (p₀ : List ℕ) (at : ℕ) (list p : List ℕ) (k : ℕ) : Type 0 where
  pub upto : k ≤ length list
  pub long : length p ≡ length p₀
  pub rest : written p (at + k) (drop k list) ≡ written p₀ at list

pub write_start : (p : List ℕ) (at : ℕ) (list : List ℕ) → Writing p at list p 0
write_start p at list =
    let e : at + 0 ≡ at = omega arith in
    record { upto = omega arith; long = refl; rest = rw e }

pub write_step : {p₀ : List ℕ} {at : ℕ} {list p : List ℕ} {k : ℕ} (v : ℕ) → Writing p₀ at list p k → k < length list → v ≡ get_or list k 0
    → Writing p₀ at list (set p (at + k) v) (k + 1)
write_step {p₀} {at} {list} {p} {k} v W h e =
    let a : at + (k + 1) ≡ suc (at + k) = omega arith in
    record {
      upto = omega arith;
      long = length-set p (at + k) v ∙ W.long;
      rest = rw (a, add-one k, e)
          (sym (written_next p (at + k) (get_or list k 0) (drop (suc k) list)) ∙ ap (written p (at + k)) (sym (drop-cons list k 0 h)) ∙ W.rest);
    }

pub write_end : {p₀ : List ℕ} {at : ℕ} {list p : List ℕ} {k : ℕ} → Writing p₀ at list p k → length list ≤ k → p ≡ written p₀ at list
write_end {p₀} {at} {list} {p} {k} W h =
    sym (written_none p (at + k)) ∙ ap (written p (at + k)) (sym (drop_of_length-le list h)) ∙ W.rest

-- what was written at the start is there
pub take-written : (p list : List ℕ) → length list ≤ length p → take (length list) (written p 0 list) ≡ list
take-written p list h = ap (take (length list)) (written_is p 0 list (omega arith)) ∙ take_at list (drop (0 + length list) p) (length list) refl

-- each number of it, too, and behind it everything is as it was
pub written_at : (p list : List ℕ) → length list ≤ length p → (i : ℕ) → i < length list → get_or (written p 0 list) i 0 ≡ get_or list i 0
written_at p list h i l =
    sym (get_or-take (length list) (written p 0 list) i 0 l) ∙ ap (λ (q : List ℕ). get_or q i 0) (take-written p list h)

pub written-past : (p : List ℕ) (from : ℕ) (list : List ℕ) (i : ℕ) → from + length list ≤ i → get_or (written p from list) i 0 ≡ get_or p i 0
written-past p from [] i h = ap (λ (q : List ℕ). get_or q i 0) (written_none p from)
written-past p from (x ∷ list) i h =
    ap (λ (q : List ℕ). get_or q i 0) (written_next p from x list)
    ∙ written-past (set p from x) (suc from) list i (omega arith)
    ∙ get_or-set_other p from i x 0 (omega arith)

-- ---- one list behind another

pub puts_none : (p : List ℕ) (at : ℕ) → Puts p at [] p at
puts_none p at = record { next_is = omega arith; after_is = sym (written_none p at) }

pub puts_then : {p q r : List ℕ} {i j k : ℕ} {s t : List ℕ} → Puts p i s q j → Puts q j t r k → Puts p i (s ++ t) r k
puts_then {p} {q} {r} {i} {j} {k} {s} {t} A B = record {
  next_is = omega (arith, A.next_is, B.next_is, length-append s t);
  after_is = B.after_is ∙ (λ x. written (A.after_is x) (A.next_is x) t) ∙ sym (written-append p i s t);
}

pub puts_long : {p q s : List ℕ} {i j : ℕ} → Puts p i s q j → length q ≡ length p
puts_long {p} {q} {s} {i} {j} A = ap length A.after_is ∙ length-written p i s
