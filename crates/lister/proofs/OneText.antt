-- The lister has one text for any bytes: what `BytesSay` allows is settled, sound pool or not.
use mathlib.Core.Path.{◌≡◌, refl, sym, ap₂, ◌∙◌}
use mathlib.Core.Logic.{◌≢◌, ◌⊎◌, inl, inr, ⊎_elim}
use mathlib.Core.List.{List, [], ◌∷◌}
use Prim.Native.Nat.{ℕ, ◌%◌, ◌≤◌, ◌<◌}
use native.Mathlib.Omega.{arith}
use lib.ListN.{length, take}
use Rattle.numbers.proofs.Ceil.{lt_or_ge, eq_or_ne}
use Rattle.pool.specs.Words.{layout_of}
use Rattle.pool.specs.Sound.{Sound}
use Rattle.lister.specs.Bytes.{words_of}
use Rattle.std.proofs.Common.{Result, Ok, Err}
use Rattle.lister.specs.Answer.{WordsSay, BytesSay, InputSays}

-- two lists are equal or not
same_list : (s t : List ℕ) → (s ≡ t) ⊎ (s ≢ t)
same_list [] [] = inl refl
same_list [] (b ∷ t) = inr (λ e. let z : ◌≡◌ {A = ℕ} 0 1 = cc in omega arith)
same_list (a ∷ s) [] = inr (λ e. let z : ◌≡◌ {A = ℕ} 0 1 = cc in omega arith)
same_list (a ∷ s) (b ∷ t) =
    ⊎_elim
    (λ (x : a ≡ b). ⊎_elim (λ (y : s ≡ t). inl (ap₂ (λ (c : ℕ) (u : List ℕ). c ∷ u) x y)) (λ (n : s ≢ t). inr (λ e. n (cc))) (same_list s t))
    (λ (n : a ≢ b). inr (λ e. n (cc)))
    (eq_or_ne a b)

one_text_words : (p s t : List ℕ) → WordsSay p s → WordsSay p t → s ≡ t
one_text_words p s t A B =
    ⊎_elim (λ (e : s ≡ t). e)
    (λ (n : s ≢ t).
    let unsound : Sound (layout_of p) p → ⊥ = (λ S. n (A.sound S ∙ sym (B.sound S))) in
    A.unsound unsound ∙ sym (B.unsound unsound))
    (same_list s t)

pub one_text : (bytes s t : List ℕ) → BytesSay bytes s → BytesSay bytes t → s ≡ t
one_text bytes s t A B =
    ⊎_elim (λ (l : 65536 < length bytes). A.long l ∙ sym (B.long l))
    (λ (l : length bytes ≤ 65536).
    ⊎_elim (λ (w : length bytes % 4 ≡ 0). one_text_words (words_of bytes) s t (A.whole l w) (B.whole l w))
    (λ (o : length bytes % 4 ≢ 0). A.odd l o ∙ sym (B.odd l o))
    (eq_or_ne (length bytes % 4) 0))
    (lt_or_ge 65536 (length bytes))

pub one_text_input : {E : Type 0} (buffer : List ℕ) (input : Result ℕ E) (s t : List ℕ) → InputSays buffer input s → InputSays buffer input t → s ≡ t
one_text_input buffer (Ok n) s t A B = one_text (take n buffer) s t A B
one_text_input buffer (Err _) s t A B = A ∙ sym B
