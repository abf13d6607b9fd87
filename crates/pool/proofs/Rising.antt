-- Numbers in rising order: each stands in them once; and blocks in that order are a chain.
use mathlib.Core.Path.{◌≡◌, refl, sym, ap}
use mathlib.Core.Logic.{◌≢◌, ⊎_elim}
use mathlib.Core.List.{[]}
use Prim.Native.Nat.{ℕ, zero, suc, ◌+◌, ◌-◌, ◌≤◌, ◌<◌}
use native.Mathlib.Omega.{arith}
use lib.Dec.{eqb}
use lib.ListN.{length}
use lib.Seq.{drop-nil}
use Rattle.numbers.specs.Sum.{one}
use Rattle.numbers.proofs.Ceil.{eq_or_ne}
use Rattle.pool.specs.State.{link_to, times, Holds}
use Rattle.pool.specs.Opening.{rising}
use Rattle.pool.proofs.Times.{one_same, one_other}

pub length-rising : (c n : ℕ) → length (rising c n) ≡ n
length-rising c zero = refl
length-rising c (suc n) = ap suc (length-rising (suc c) n)

pub times_rising_below : (b c n : ℕ) → b < c → times b (rising c n) ≡ 0
times_rising_below b c zero h = refl
times_rising_below b c (suc n) h = omega (arith, one_other b c (omega arith), times_rising_below b (suc c) n (omega arith))

pub times_rising_above : (b c n : ℕ) → c + n ≤ b → times b (rising c n) ≡ 0
times_rising_above b c zero h = refl
times_rising_above b c (suc n) h = omega (arith, one_other b c (omega arith), times_rising_above b (suc c) n (omega arith))

pub times-rising : (b c n : ℕ) → c ≤ b → b < c + n → times b (rising c n) ≡ 1
times-rising b c zero h k = absurd (omega arith)
times-rising b c (suc n) h k =
    ⊎_elim (λ (e : b ≡ c). omega (arith, ap (λ (x : ℕ). one (eqb b x)) (sym e), one_same b, times_rising_below b (suc c) n (omega arith)))
    (λ (ne : b ≢ c). omega (arith, one_other b c ne, times-rising b (suc c) n (omega arith) (omega arith)))
    (eq_or_ne b c)

-- the link to the first of them
pub link_rising : (b n : ℕ) → n ≢ 0 → link_to (rising b n) ≡ suc b
link_rising b zero h = absurd (h refl)
link_rising b (suc n) h = refl

-- blocks in rising order, each linked to the next and full of poison, are a chain that holds nothing
pub holds_rising : (ids poison : ℕ) (g : ℕ → ℕ → ℕ) (stop n c : ℕ) → c + n ≡ stop
    → ((b : ℕ) → c ≤ b → b < stop → g b ids ≡ link_to (rising (suc b) (stop - suc b)))
    → ((b : ℕ) → c ≤ b → b < stop → (k : ℕ) → k < ids → g b k ≡ poison)
    → Holds ids poison g (rising c n) []
holds_rising ids poison g stop zero c e lk pl = tt
holds_rising ids poison g stop (suc n) c e lk pl = (
  (let w : stop - suc c ≡ n = omega arith in rw w at (lk c (omega arith) (omega arith))),
  pl c (omega arith) (omega arith),
  rw (drop-nil ids) (holds_rising ids poison g stop n (suc c) (omega arith) (λ b hb. lk b (omega arith)) (λ b hb. pl b (omega arith))),
)
