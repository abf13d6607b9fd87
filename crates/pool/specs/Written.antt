-- Words that are written one after the other: what the inner functions of the opening promise, and those that put a list into a buffer.
use Rattle.std.specs.Prelude.{◌≡◌, List, ℕ, ◌+◌, length}
use Rattle.std.proofs.lemmas.List.Edits.{sets}

-- p with these words from a place on
unfoldable pub written : List ℕ → (from : ℕ) → List ℕ → List ℕ
written p from words = sets p from words

-- the buffer with a list from `at` on, and the place after it
pub record Puts (before : List ℕ) (at : ℕ) (list : List ℕ) (after : List ℕ) (next : ℕ) : Type 0 where
  pub next_is : next ≡ at + length list
  pub after_is : after ≡ written before at list
