-- The words that bytes say, one by one.
use mathlib.Core.Path.{◌≡◌, refl}
use mathlib.Core.List.{List, [], ◌∷◌}
use Prim.Native.Nat.{ℕ, zero, suc, ◌+◌, ◌*◌, ◌/◌, ◌<◌}
use native.Mathlib.Nat.{le_of_suc-le-suc, not-suc-le-zero}
use native.Mathlib.Omega.{arith}
use lib.ListN.{length, get_or}
use Rattle.lister.specs.Bytes.{word_at, words_of}

pub length_words_of : (bytes : List ℕ) → length (words_of bytes) ≡ length bytes / 4
length_words_of [] = omega arith
length_words_of (a ∷ []) = omega arith
length_words_of (a ∷ b ∷ []) = omega arith
length_words_of (a ∷ b ∷ c ∷ []) = omega arith
length_words_of (a ∷ b ∷ c ∷ d ∷ bytes) = omega (arith, length_words_of bytes)

-- past the first word
word_at_next : (a b c d : ℕ) (bytes : List ℕ) (k : ℕ) → word_at (a ∷ b ∷ c ∷ d ∷ bytes) (4 * suc k) ≡ word_at bytes (4 * k)
word_at_next a b c d bytes k =
    let e : 4 * suc k ≡ suc (suc (suc (suc (4 * k)))) = omega arith in
    let e₁ : suc (suc (suc (suc (4 * k)))) + 1 ≡ suc (suc (suc (suc (4 * k + 1)))) = omega arith in
    let e₂ : suc (suc (suc (suc (4 * k)))) + 2 ≡ suc (suc (suc (suc (4 * k + 2)))) = omega arith in
    let e₃ : suc (suc (suc (suc (4 * k)))) + 3 ≡ suc (suc (suc (suc (4 * k + 3)))) = omega arith in
    simp (e, e₁, e₂, e₃)

pub get_or_words_of : (bytes : List ℕ) (k : ℕ) → k < length (words_of bytes) → get_or (words_of bytes) k 0 ≡ word_at bytes (4 * k)
get_or_words_of [] k h = absurd (not-suc-le-zero h)
get_or_words_of (a ∷ []) k h = absurd (not-suc-le-zero h)
get_or_words_of (a ∷ b ∷ []) k h = absurd (not-suc-le-zero h)
get_or_words_of (a ∷ b ∷ c ∷ []) k h = absurd (not-suc-le-zero h)
get_or_words_of (a ∷ b ∷ c ∷ d ∷ bytes) zero h = refl
get_or_words_of (a ∷ b ∷ c ∷ d ∷ bytes) (suc k) h = rw (word_at_next a b c d bytes k) (get_or_words_of bytes k (le_of_suc-le-suc h))
