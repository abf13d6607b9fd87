-- Shapes binned one by one: one more, with its byte.
use mathlib.Core.Path.{◌≡◌, refl, subst, ◌∙◌}
use mathlib.Core.List.{List}
use Prim.Native.Nat.{ℕ, zero, suc, ◌+◌, ◌≤◌, ◌<◌}
use native.Mathlib.Omega.{arith}
use lib.IntN.{ℤ}
use lib.ListN.{length, get_or, set, length-set}
use lib.Seq.{get_or-set_same, get_or-set_other}
use Rattle.std.specs.Prelude.{Result, Ok, Err}
use Rattle.numbers.specs.declared.Refusal.{Refusal}
use Rattle.numbers.specs.Refusal.{number_in}
use Rattle.shape.specs.declared.Shape.{Shape}
use Rattle.shapes.specs.Shapes.{shape_at}
use Rattle.audit.specs.declared.header.Header.{Header}
use Rattle.calls.specs.declared.Binned as bin
use Rattle.calls.specs.Told.{told_bin}
use Rattle.calls.specs.Tables.{BinSays}
use Rattle.calls.specs.BinList.{id_at, BinNumber, OneByOne}
use Rattle.calls.proofs.Keeping.{SoundWith, bin_keeps}

-- a bin's answer has its number
pub numbered : {p : List ℕ} {shape : Shape} {id : ℕ} (r : Result bin.Binned Refusal) {q : List ℕ} → BinSays p shape id (told_bin r) q → BinNumber p shape id (number_in r) q
numbered (Ok b) s = record { answer = told_bin (Ok b); says = s; is = refl }
numbered (Err n) s = record { answer = told_bin (Err n); says = s; is = refl }

-- only the bytes of the shapes themselves matter
same_bytes : (ws : List ℤ) (bytes others p : List ℕ) (n : ℕ) (q : List ℕ) → ((k : ℕ) → k < n → get_or others k 0 ≡ get_or bytes k 0)
    → OneByOne ws bytes n p q → OneByOne ws others n p q
same_bytes ws bytes others p zero q e o = o
same_bytes ws bytes others p (suc n) q e o = (
  o.0,
  same_bytes ws bytes others p n o.0 (λ k h. e k (omega arith)) o.1,
  record { answer = o.2.answer; says = o.2.says; is = e n (omega arith) ∙ o.2.is },
)

module _ (h : Header) (ws : List ℤ) (old p : List ℕ) where
  -- the first n shapes are binned and their bytes written, and the words q are still a sound pool of that header
  pub record Along (n : ℕ) (bytes q : List ℕ) : Type 0 where
    pub told : SoundWith h q
    pub each : OneByOne ws bytes n p q
    pub long : length bytes ≡ length old
    pub past : (i : ℕ) → n ≤ i → get_or bytes i 0 ≡ get_or old i 0

  pub along_more : {n : ℕ} {bytes m q : List ℕ} {number : ℕ} → Along n bytes m → n < length bytes → BinNumber m (shape_at 8 ws n) (id_at ws n) number q
      → Along (n + 1) (set bytes n number) q
  along_more {n} {bytes} {m} {q} {number} A l B =
      let e : suc n ≡ n + 1 = omega arith in
      record {
        told = bin_keeps A.told B.says;
        each = subst (λ (k : ℕ). OneByOne ws (set bytes n number) k p q) e (
          m,
          same_bytes ws bytes (set bytes n number) p n m (λ k b. get_or-set_other bytes n k number 0 (λ d. omega arith)) A.each,
          record { answer = B.answer; says = B.says; is = get_or-set_same bytes n number 0 l ∙ B.is },
        );
        long = length-set bytes n number ∙ A.long;
        past = λ i b. get_or-set_other bytes n i number 0 (λ d. omega arith) ∙ A.past i (omega arith);
      }
