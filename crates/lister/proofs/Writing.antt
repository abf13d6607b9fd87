-- Text that is put into a buffer: what it counts, and one text after another as the rest of a whole.
use mathlib.Core.Path.{◌≡◌, refl, sym, ◌∙◌}
use mathlib.Core.List.{List, [], ◌++◌}
use Prim.Native.Nat.{ℕ, ◌+◌, ◌≤◌}
use native.Mathlib.Omega.{arith}
use lib.ListN.{length, take, length-append}
use lib.Seq.{length-take-le}
use Rattle.io.specs.Counts.{IsPrefixLen}
use Rattle.pool.specs.Written.{written, Puts}
use Rattle.pool.proofs.Written.{written_none, written-append}
use Rattle.pool.proofs.Putting.{take-written, puts_long}

-- a number up to the length counts elements
pub counts : (n : ℕ) (l : List ℕ) → n ≤ length l → IsPrefixLen n l
counts n l h = (h, sym (length-take-le n l h))

-- text that was put at the start is what stands before the place after it
pub puts_all : {p q s : List ℕ} {j : ℕ} → Puts p 0 s q j → length s ≤ length p → take j q ≡ s
puts_all {p} {q} {s} {j} A h =
    let e : j ≡ length s = omega (arith, A.next_is) in
    (λ x. take (e x) (A.after_is x)) ∙ take-written p s h

-- and that place counts what was put
pub puts_counts : {p q s : List ℕ} {j : ℕ} → Puts p 0 s q j → length s ≤ length p → IsPrefixLen j q
puts_counts {p} {q} {s} {j} A h = counts j q (omega (arith, A.next_is, puts_long A))

-- ---- one text after another, as the rest of a whole

-- p is p₀ with a part of the whole put into it, up to `next`: the rest, put there, gives what the whole gives
pub record Remains (p₀ : List ℕ) (at : ℕ) (whole p : List ℕ) (next : ℕ) (rest : List ℕ) : Type 0 where
  pub ends : next + length rest ≡ at + length whole
  pub long : length p ≡ length p₀
  pub same : written p next rest ≡ written p₀ at whole

pub remains_all : (p : List ℕ) (at : ℕ) (whole : List ℕ) → Remains p at whole p at whole
remains_all p at whole = record { ends = refl; long = refl; same = refl }

-- there is room for what is next
pub remains_room : {p₀ : List ℕ} {at : ℕ} {whole p : List ℕ} {i : ℕ} (s t : List ℕ) → Remains p₀ at whole p i (s ++ t) → at + length whole ≤ length p₀
    → i + length s ≤ length p
remains_room s t R h = omega (arith, R.ends, R.long, length-append s t)

pub remains_then : {p₀ : List ℕ} {at : ℕ} {whole p q : List ℕ} {i j : ℕ} {s t : List ℕ} → Remains p₀ at whole p i (s ++ t) → Puts p i s q j
    → Remains p₀ at whole q j t
remains_then {p₀} {at} {whole} {p} {q} {i} {j} {s} {t} R A = record {
  ends = omega (arith, R.ends, A.next_is, length-append s t);
  long = puts_long A ∙ R.long;
  same = (λ x. written (A.after_is x) (A.next_is x) t) ∙ sym (written-append p i s t) ∙ R.same;
}

pub remains_none : {p₀ : List ℕ} {at : ℕ} {whole p : List ℕ} {next : ℕ} → Remains p₀ at whole p next [] → Puts p₀ at whole p next
remains_none {p = p} {next = next} R = record { next_is = omega (arith, R.ends); after_is = sym (written_none p next) ∙ R.same }
