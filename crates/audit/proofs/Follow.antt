-- A walk along links: of the walk from the start and of what is left of it, the one is right where the other is.
use mathlib.Core.Path.{◌≡◌, refl, ap, sym, ◌∙◌}
use mathlib.Core.Bool.{Bool, true, false}
use mathlib.Core.List.{List, [], ◌∷◌}
use Prim.Native.Nat.{ℕ, zero, suc, ◌+◌, ◌-◌, ◌<◌, ◌≤◌, min}
use native.Mathlib.Nat.{not-suc-le-zero}
use native.Mathlib.Omega.{arith}
use borrow.Author.Tests.{eqb-true, eqb-false, eq-eqb}
use lib.Dec.{eqb}
use lib.ListN.{length, get_or, set, length-set}
use lib.Seq.{get_or-set_same, get_or-set_other}
use Rattle.numbers.specs.Sum.{one}
use Rattle.pool.specs.State.{last_link, times}
use Rattle.audit.specs.Chain.{Chain, Filled, follow}

-- one more mark
pub mark : (v : List ℕ) (i b : ℕ) → i < length v → get_or v i 0 ≡ 0 → get_or (set v i 1) b 0 ≡ get_or v b 0 + one (eqb b i)
mark v i b lt z = go (eqb b i) refl
  where
    go : (t : Bool) → eqb b i ≡ t → get_or (set v i 1) b 0 ≡ get_or v b 0 + one t
    go true e = rw (eqb-true b i e) (omega (arith, get_or-set_same v i 1 0 lt))
    go false e = omega (arith, get_or-set_other v i b 1 0 (eqb-false b i e))

module _ (next : ℕ → ℕ) where
  pub follow_more : (s link : ℕ) → 0 < s → follow next s link ≡ (link - 1) ∷ follow next (s - 1) (next (link - 1))
  follow_more zero link h = absurd (not-suc-le-zero h)
  follow_more (suc s) link h = let e : suc s - 1 ≡ s = omega arith in rw e refl

  pub length-follow : (s link : ℕ) → length (follow next s link) ≡ s
  length-follow zero link = refl
  length-follow (suc s) link = ap suc (length-follow s (next (link - 1)))

  -- a chain is what its links lead to
  pub follow_chain : (n link : ℕ) (bs : List ℕ) → Chain next n link bs → bs ≡ follow next (length bs) link
  follow_chain n link [] h = refl
  follow_chain n link (b ∷ bs) h =
      let e : link - 1 ≡ b = omega (arith, h.0) in
      rw e (ap (λ (l : List ℕ). b ∷ l) (follow_chain n (next b) bs h.2))

module _ (next : ℕ → ℕ) (n : ℕ) (holds : ℕ → ℕ → Type 0) (ids : ℕ) where
  -- what a walk keeps: the blocks that are left, from `link` on, are a chain with q entries exactly where all are, from link₀ on with q₀
  pub record Going (v₀ : List ℕ) (link₀ q₀ s₀ : ℕ) (v : List ℕ) (link q s last : ℕ) : Type 0 where
    pub chain_to : Chain next n link₀ (follow next s₀ link₀) → Chain next n link (follow next s link)
    pub chain_of_lem : Chain next n link (follow next s link) → Chain next n link₀ (follow next s₀ link₀)
    pub filled_to : Filled holds ids q₀ (follow next s₀ link₀) → Filled holds ids q (follow next s link)
    pub filled_of : Filled holds ids q (follow next s link) → Filled holds ids q₀ (follow next s₀ link₀)
    pub last_is : last_link last (follow next s link) ≡ last_link 0 (follow next s₀ link₀)
    pub marks : (b : ℕ) → get_or v b 0 + times b (follow next s link) ≡ get_or v₀ b 0 + times b (follow next s₀ link₀)
    pub same_length : length v ≡ length v₀

  pub going_start : (v : List ℕ) (link q s : ℕ) → Going v link q s v link q s 0
  going_start v link q s =
      record {
        chain_to = λ h. h;
        chain_of_lem = λ h. h;
        filled_to = λ h. h;
        filled_of = λ h. h;
        last_is = refl;
        marks = λ b. refl;
        same_length = refl;
      }

  module _ {v₀ : List ℕ} {link₀ q₀ s₀ : ℕ} {v : List ℕ} {link q s last : ℕ} (g : Going v₀ link₀ q₀ s₀ v link q s last) where
    -- a block that is right and not marked is passed, and marked
    pub going_step : (k : ℕ) → 0 < s → 0 < link → link ≤ n → n ≤ length v → get_or v (link - 1) 0 ≡ 0 → k ≡ min ids q
        → holds (link - 1) k → Going v₀ link₀ q₀ s₀ (set v (link - 1) 1) (next (link - 1)) (q - k) (s - 1) link
    going_step k ps pl ln nv z ke hk =
        let f = follow_more next s link ps in
        let e : q - k ≡ q - ids = omega arith in
        let l : suc (link - 1) ≡ link = omega arith in
        record {
          chain_to = λ h. (rw f at (g.chain_to h)).2;
          chain_of_lem = λ h. g.chain_of_lem (rw f (sym l, omega arith, h));
          filled_to = λ h. rw e (rw f at (g.filled_to h)).1;
          filled_of = λ h. g.filled_of (rw f (rw (← ke) hk, rw e at h));
          last_is = ap (λ (x : ℕ). last_link x (follow next (s - 1) (next (link - 1)))) (sym l) ∙ (rw f at g.last_is);
          marks = λ b. omega (arith, mark v (link - 1) b (omega arith) z, rw f at (g.marks b));
          same_length = length-set v (link - 1) 1 ∙ g.same_length;
        }

    -- where the whole walk is right, so is its next step
    pub going_next : 0 < s → Chain next n link₀ (follow next s₀ link₀) → Filled holds ids q₀ (follow next s₀ link₀)
        → ((b : ℕ) → b < n → get_or v₀ b 0 + times b (follow next s₀ link₀) ≤ 1)
        → (0 < link) × (link ≤ n) × (get_or v (link - 1) 0 ≡ 0) × holds (link - 1) (min ids q)
    going_next ps chain filled apart =
        let f = follow_more next s link ps in
        let c = rw f at (g.chain_to chain) in
        let i = eq-eqb (link - 1) (link - 1) refl in (
          omega (arith, c.0, c.1),
          omega (arith, c.0, c.1),
          omega (arith, rw i at (rw f at (g.marks (link - 1))), apart (link - 1) c.1),
          (rw f at (g.filled_to filled)).0,
        )

    -- at the end of the steps a right walk is at the end of its chain
    pub going_stops : s ≡ 0 → Chain next n link₀ (follow next s₀ link₀) → link ≡ 0
    going_stops e chain = rw e at (g.chain_to chain)

    -- and where it is there, it was right
    pub going_ends : s ≡ 0 → link ≡ 0
        → Chain next n link₀ (follow next s₀ link₀) × Filled holds ids q₀ (follow next s₀ link₀)
        × (last ≡ last_link 0 (follow next s₀ link₀)) × ((b : ℕ) → get_or v b 0 ≡ get_or v₀ b 0 + times b (follow next s₀ link₀))
    going_ends e z = (
      g.chain_of_lem (rw e z),
      g.filled_of (rw e tt),
      rw e at g.last_is,
      λ b. omega (arith, rw e at (g.marks b)),
    )
