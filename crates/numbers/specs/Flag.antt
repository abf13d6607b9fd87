-- A number below 16,777,216 and a flag, in one word.
use Rattle.std.specs.Prelude.{Bool, true, false, List, map, ℕ, ◌+◌, ◌%◌, leb}

-- what a set flag adds
abbrev pub flag : ℕ
flag = 16777216

-- the word of a number and its flag
abbrev pub flagged : ℕ → Bool → ℕ
flagged n true = n + flag
flagged n false = n

-- the number of a word, and its flag
abbrev pub plain : ℕ → ℕ
plain w = w % flag

abbrev pub is_flagged : ℕ → Bool
is_flagged w = leb flag w

-- the numbers of words
abbrev pub plains : List ℕ → List ℕ
plains ws = map plain ws
