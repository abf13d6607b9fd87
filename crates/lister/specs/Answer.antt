-- What the lister writes for the bytes that it reads.
use Rattle.std.specs.Prelude.{◌≡◌, List, [], ◌∷◌, ℕ, ◌%◌, ◌≤◌, ◌<◌, length, take, Result, Ok, Err}
use Rattle.io.specs.Counts.{IsPrefixLen}
use Rattle.pool.specs.Words.{layout_of}
use Rattle.pool.specs.Sound.{Sound}
use Rattle.lister.specs.Bytes.{words_of}
use Rattle.lister.specs.Listing.{listing}

-- "too long\n" and "damaged\n"
abbrev pub too_long : List ℕ
too_long = 116 ∷ 111 ∷ 111 ∷ 32 ∷ 108 ∷ 111 ∷ 110 ∷ 103 ∷ 10 ∷ []

abbrev pub damaged : List ℕ
damaged = 100 ∷ 97 ∷ 109 ∷ 97 ∷ 103 ∷ 101 ∷ 100 ∷ 10 ∷ []

-- the text for the words p
pub record WordsSay (p text : List ℕ) : Type 0 where
  pub unsound : (Sound (layout_of p) p → ⊥) → text ≡ damaged
  pub sound : Sound (layout_of p) p → text ≡ listing p

-- the text for bytes: the length is tested first, then whether they are whole words
pub record BytesSay (bytes text : List ℕ) : Type 0 where
  pub long : 65536 < length bytes → text ≡ too_long
  pub odd : length bytes ≤ 65536 → (length bytes % 4 ≡ 0 → ⊥) → text ≡ damaged
  pub whole : length bytes ≤ 65536 → length bytes % 4 ≡ 0 → WordsSay (words_of bytes) text

-- what was read stands at the start of a buffer
abbrev pub Within : {E : Type 0} → Result ℕ E → (buffer : List ℕ) → Type 0
Within (Ok n) buffer = IsPrefixLen n buffer
Within (Err _) buffer = Unit {0}

-- the text for what was read into a buffer; an input that could not be read to its end is damaged
abbrev pub InputSays : {E : Type 0} → (buffer : List ℕ) → Result ℕ E → (text : List ℕ) → Type 0
InputSays buffer (Ok n) text = BytesSay (take n buffer) text
InputSays buffer (Err _) text = text ≡ damaged
