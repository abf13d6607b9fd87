-- The words of each shape stand within the list, and are right exactly if their kind is and the words that it does not use are 0.
use mathlib.Core.Path.{◌≡◌, refl, sym, ap, ◌∙◌}
use mathlib.Core.Bool.{Bool, true, false}
use mathlib.Core.List.{List, []}
use Prim.Native.Nat.{ℕ, ◌+◌, ◌-◌, ◌*◌, ◌≤◌, ◌<◌}
use native.Mathlib.Omega.{arith}
use mathlib.Core.Logic.{⊎_elim}
use native.Mathlib.Nat.{mul-le-mul_right, div-add-mod', mod-lt}
use lib.ListN.{length, get_or, take, drop, length-drop}
use lib.Seq.{length-take-le, get_or-take, get_or-drop}
use lib.IntN.{ℤ, pos, nat_abs}
use lib.Signed.{mag}
use mir.Syntax.{w32}
use mir.Val.{to_z, of_z}
use denote.Ref.{Bor}
use Rattle.std.specs.Option.{IfSome, IsSomeAnd, option_map}
use Rattle.std.specs.Iterator.Runs.{Run, IsChunksExactRun, AllItemsGive, AnyItemGives, CallKeepsClosure}
use Rattle.std.specs.Bool.{IsTrue, MatchBool}
use denote.Param.Members.{Mut, Called}
use Rattle.std.specs.List.{IsSubsliceAt}
use Rattle.std.specs.Prelude.{Option, Some, None}
use Rattle.numbers.specs.Says.{Says}
use Rattle.numbers.proofs.Ceil.{lt_or_ge}
use Rattle.numbers.proofs.Is.{kept_is}
use Rattle.numbers.proofs.Says.{says_yes, says_no, says_iff}
use Rattle.shapes.specs.Shapes.{words_from, words_at, RightWords, count_of}

pub place_room : (size : ℕ) (ws : List ℤ) (place : ℕ) → place < count_of size ws → place * size + size ≤ length ws
place_room size ws place h = omega (arith, mul-le-mul_right size h, div-add-mod' (length ws) size)

place_in : (size : ℕ) (ws : List ℤ) (place : ℕ) → 0 < size → place * size + size ≤ length ws → place < count_of size ws
place_in size ws place p h =
    ⊎_elim (λ (u : place < count_of size ws). u)
    (λ (u : count_of size ws ≤ place). absurd (omega (arith, mul-le-mul_right size u, div-add-mod' (length ws) size, mod-lt (length ws) p)))
    (lt_or_ge place (count_of size ws))

-- a word of these bits is this number
pub read_as : {z : ℤ} {n : ℕ} → mag z < 2147483648 → of_z w32 z ≡ n → z ≡ to_z w32 n
read_as {z} {n} h e = sym (kept_is w32 z h) ∙ ap (to_z w32) e

-- ---- the words of one shape

module _ (ws : List ℤ) (long : 7 ≤ length ws) (kind rest : ℕ) where
  abbrev unused : List ℤ
  unused = take rest (drop (2 * kind + 1) ws)

  -- the words of a kind are right exactly if the last of the seven, which it does not use, are 0
  pub zeros_after : 1 ≤ kind → kind ≤ 3 → 2 * kind + 1 + rest ≡ 7 → get_or ws 0 (pos 0) ≡ pos kind → {b : Bool}
      → Says b ((k : ℕ) → k < length unused → get_or unused k (pos 0) ≡ pos 0) → Says b (RightWords (words_from ws 0))
  zeros_after least most all is =
      says_iff
      (λ h. record { kind = kind; kind_is = is; least = least; most = most; unused = λ k from to. let e : 2 * kind + 1 + (k - (2 * kind + 1)) ≡ 0 + k = omega arith in ap (λ (j : ℕ). get_or ws j (pos 0)) (sym e) ∙ sym (at (k - (2 * kind + 1)) (omega arith)) ∙ h (k - (2 * kind + 1)) (omega (arith, size)) })
      (λ r k l. let same : kind ≡ r.kind = ap nat_abs (sym is ∙ r.kind_is) in at k (omega (arith, size)) ∙ (let e : 0 + (2 * kind + 1 + k) ≡ 2 * kind + 1 + k = omega arith in ap (λ (j : ℕ). get_or ws j (pos 0)) (sym e)) ∙ r.unused (2 * kind + 1 + k) (omega arith) (omega (arith, size)))
    where
      size : length unused ≡ rest
      size = length-take-le rest (drop (2 * kind + 1) ws) (omega (arith, length-drop (2 * kind + 1) ws))

      at : (k : ℕ) → k < rest → get_or unused k (pos 0) ≡ get_or ws (2 * kind + 1 + k) (pos 0)
      at k l = get_or-take rest (drop (2 * kind + 1) ws) k (pos 0) l ∙ get_or-drop (2 * kind + 1) ws k (pos 0)

-- ---- the words of all shapes

-- as a subslice of the list
from_chunk : (size : ℕ) (ws : List ℤ) (place : ℕ) (x : List ℤ) → 7 ≤ size → IsSubsliceAt size ws (place * size) x
    → RightWords (words_from x 0) → RightWords (words_at size ws place)
from_chunk size ws place x long s r = record {
  kind = r.kind;
  kind_is = sym (at 0 (omega arith)) ∙ r.kind_is;
  least = r.least;
  most = r.most;
  unused = λ k from to. sym (at k (omega arith)) ∙ r.unused k from to;
}
  where
    at : (k : ℕ) → k < size → get_or x (0 + k) (pos 0) ≡ get_or ws (place * size + k) (pos 0)
    at k l = let e : 0 + k ≡ k = omega arith in ap (λ (j : ℕ). get_or x j (pos 0)) e ∙ s.2 k (pos 0) l

to_chunk : (size : ℕ) (ws : List ℤ) (place : ℕ) (x : List ℤ) → 7 ≤ size → IsSubsliceAt size ws (place * size) x
    → RightWords (words_at size ws place) → RightWords (words_from x 0)
to_chunk size ws place x long s r = record {
  kind = r.kind;
  kind_is = at 0 (omega arith) ∙ r.kind_is;
  least = r.least;
  most = r.most;
  unused = λ k from to. at k (omega arith) ∙ r.unused k from to;
}
  where
    at : (k : ℕ) → k < size → get_or x (0 + k) (pos 0) ≡ get_or ws (place * size + k) (pos 0)
    at k l = let e : 0 + k ≡ k = omega arith in ap (λ (j : ℕ). get_or x j (pos 0)) e ∙ s.2 k (pos 0) l

abbrev Chunk : (size : ℕ) → List ℤ → (place : ℕ) → Bor (List ℤ) → Type 0
Chunk size ws place x = (length x.now ≡ size) × (place * size + size ≤ length ws) × IsSubsliceAt size ws (place * size) x.now

abbrev pub AllRight : (size : ℕ) → List ℤ → Type 0
AllRight size ws = (place : ℕ) → place < count_of size ws → RightWords (words_at size ws place)

module _ {S F : Type 0} {steps : S → Option (Bor (List ℤ)) → S → Type 0} {g : Mut F (Bor (List ℤ) × Unit {0}) Bool} {f : F} (p : Run steps)
    (size : ℕ) (ws : List ℤ) (long : 7 ≤ size) (run : IsChunksExactRun p size ws)
    (says : (x : Bor (List ℤ)) (r : Bool) → Called g f (x, tt) r f → Says r (RightWords (words_from x.now 0))) where
  -- a whole run, with the answer yes at each chunk
  all_right : p.whole ≡ true → ((k : ℕ) → IfSome (p.at k) (λ x. Called g f (x, tt) true f)) → AllRight size ws
  all_right w at-each place l =
      let n = run.1 w in
      go (p.at place) (p.reads place (record { ref_ptr = (0, 0); now = [] }) (omega arith)) (run.2 place) (at-each place)
    where
      go : {y : Bor (List ℤ)} (o : Option (Bor (List ℤ))) → option_map (λ (x : Bor (List ℤ)). x) o ≡ Some y → IfSome o (Chunk size ws place)
          → IfSome o (λ x. Called g f (x, tt) true f) → RightWords (words_at size ws place)
      go None e c q = cc
      go (Some x) e c q = from_chunk size ws place x.now long c.2 ((says x true q).yes refl)

  -- a chunk at which the answer is no
  one_wrong : (k : ℕ) → IsSomeAnd (p.at k) (λ x. Called g f (x, tt) false f) → AllRight size ws → ⊥
  one_wrong k at-one all = go (p.at k) (run.2 k) at-one
    where
      go : (o : Option (Bor (List ℤ))) → IfSome o (Chunk size ws k) → IsSomeAnd o (λ x. Called g f (x, tt) false f) → ⊥
      go None c q = q
      go (Some x) c q = (says x false q).no refl (to_chunk size ws k x.now long c.2 (all k (place_in size ws k (omega arith) c.1)))

  pub chunks_say : CallKeepsClosure g f → (r : Bool) → MatchBool r (IsTrue p.whole × AllItemsGive p g f true) (AnyItemGives p g f false) → Says r (AllRight size ws)
  chunks_say keeps true h = says_yes (all_right h.0 (h.1 keeps))
  chunks_say keeps false h = let w = h keeps in says_no (one_wrong w.0 w.2)
