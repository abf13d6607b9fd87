-- `quarters::exponent_of` meets its contract: the exponent of the next power of two is the one below which half of that power lies.
use mathlib.Core.Path.{◌≡◌, ap, sym, ◌∙◌}
use mathlib.Core.Logic.{⊎_elim}
use Prim.Native.Nat.{ℕ, ◌+◌, ◌*◌, ◌^◌, ◌≤◌, ◌<◌}
use native.Mathlib.Omega.{arith}
use lib.Pow.{pow_mono, pow-add, pow_pos}
use Rattle.numbers.proofs.Ceil.{lt_or_ge}
use Rattle.quarters.proofs.exponent_of.Goals as goal

-- a smaller power has a smaller exponent
less : {a b : ℕ} → 2 ^ a < 2 ^ b → a < b
less {a} {b} h = ⊎_elim (λ (l : a < b). l) (λ (l : b ≤ a). absurd (omega (arith, pow_mono {i = b} {j = a} l))) (lt_or_ge a b)

-- the exponent of a power, by what `ilog2` says of it
exponent_is : {k e : ℕ} → 2 ^ e ≤ 2 ^ k → 2 ^ k < 2 * 2 ^ e → e ≡ k
exponent_is {k} {e} l h =
    let s : 2 ^ (e + 1) ≡ 2 * 2 ^ e = pow-add 2 e 1 ∙ omega arith in
    let a = less {a = k} {b = e + 1} (omega arith) in
    let b : e < k + 1 = less {a = e} {b = k + 1} (let t : 2 ^ (k + 1) ≡ 2 * 2 ^ k = pow-add 2 k 1 ∙ omega arith in omega arith) in
    omega arith

pub returns : goal.returns
returns c =
    let m = c.max-most.ensures in
    let p = c.next_power_of_two.ensures in
    let w = p.power.1 in
    let low = p.lower_bound in
    let half = p.upper_bound in
    let is : c.ilog2.result ≡ p.power.0 = exponent_is (let l = c.ilog2.ensures.power_le in omega arith) (let l = c.ilog2.ensures.next_power_gt in omega arith) in
    let power : c.next_power_of_two.result ≡ 2 ^ c.ilog2.result = w ∙ ap (λ (k : ℕ). 2 ^ k) (sym is) in
    let e : c.ilog2.result < 10 = less {a = c.ilog2.result} {b = 10} (omega arith) in (
      record {
        first = omega arith;
        second = omega arith;
        least = λ k x y. ⊎_elim
            (λ (l : k < c.ilog2.result). absurd (omega (arith, pow_mono {i = k + 1} {j = c.ilog2.result} (omega arith), pow-add 2 k 1, pow_pos k)))
            (λ (l : c.ilog2.result ≤ k). l)
            (lt_or_ge k c.ilog2.result);
      },
      omega arith,
    )
