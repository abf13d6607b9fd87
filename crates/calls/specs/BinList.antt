-- The decision table of the bin of a list of shapes, a row for each number in the order in which it is given: 4, 15, 11. A row has its cause, with no
-- earlier one applying, and then the whole outcome: the number a, the words q that are left of the words p, and the bytes new that are left of the bytes old.
use Rattle.std.specs.Prelude.{◌≡◌, List, ℕ, zero, suc, ◌≤◌, ◌<◌, ℤ, pos, negsuc, length, get_or}
use Rattle.shape.specs.declared.Shape.{Shape}
use Rattle.shapes.specs.Shapes.{RightList, count_of, words_at, shape_at}
use Rattle.pool.specs.Words.{id_limit, layout_of}
use Rattle.pool.specs.Sound.{Sound}
use Rattle.calls.specs.Told.{Binned}
use Rattle.calls.specs.Tables.{BinSays}

-- ---- the list, eight words to a shape: the last of them is its id

-- the id that a word says; one below 0 says none, and counts as the first number past the ids, with which a bin is refused with 5
abbrev pub id_from : ℤ → ℕ
id_from (pos n) = n
id_from (negsuc n) = id_limit

abbrev pub id_at : List ℤ → (place : ℕ) → ℕ
id_at ws place = id_from (words_at 8 ws place 7)

-- ---- one by one

-- a shape is binned on the words p, as the table of the single bin says, which leaves the words q; the answer has that number
pub record BinNumber (p : List ℕ) (shape : Shape) (id number : ℕ) (q : List ℕ) : Type 0 where
  pub answer : Binned
  pub says : BinSays p shape id answer q
  pub is : number ≡ answer.number

-- the first n shapes of the list ws, each binned with its id on what the one before it left, lead from the words p to the words q; and the byte at the
-- place of each is the number of its answer
abbrev pub OneByOne : List ℤ → (bytes : List ℕ) (n : ℕ) (p q : List ℕ) → Type 0
OneByOne ws bytes zero p q = q ≡ p
OneByOne ws bytes (suc n) p q = (m : List ℕ) × OneByOne ws bytes n p m × BinNumber m (shape_at 8 ws n) (id_at ws n) (get_or bytes n 0) q

-- so all shapes of the list; and the bytes past them are as they were
pub record AllBinned (ws : List ℤ) (old new p q : List ℕ) : Type 0 where
  pub each : OneByOne ws new (count_of 8 ws) p q
  pub long : length new ≡ length old
  pub past : (i : ℕ) → count_of 8 ws ≤ i → get_or new i 0 ≡ get_or old i 0

-- ---- the table

pub data BinListSays (p : List ℕ) (ws : List ℤ) (old : List ℕ) (a : ℕ) (q new : List ℕ) : Type 0 where
  damaged : (Sound (layout_of p) p → ⊥) → a ≡ 4 → q ≡ p → new ≡ old → BinListSays p ws old a q new
  bad_list : Sound (layout_of p) p → (RightList 8 ws → ⊥) → a ≡ 15 → q ≡ p → new ≡ old → BinListSays p ws old a q new
  too_few : Sound (layout_of p) p → RightList 8 ws → length old < count_of 8 ws → a ≡ 11 → q ≡ p → new ≡ old → BinListSays p ws old a q new
  done : Sound (layout_of p) p → RightList 8 ws → count_of 8 ws ≤ length old → a ≡ 0 → AllBinned ws old new p q → BinListSays p ws old a q new
