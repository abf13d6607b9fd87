-- Why a call is refused, and the number of an answer.
use Rattle.std.specs.Prelude.{Result, Ok, Err, ℕ}
use Rattle.numbers.specs.declared.Refusal.{Refusal}
use Rattle.numbers.specs.declared.Refusal.TheVariants as why

-- the number of each refusal
abbrev pub number_of : Refusal → ℕ
number_of why.Screen = 1
number_of why.Blocks = 2
number_of why.ShortPool = 3
number_of why.Unsound = 4
number_of why.Id = 5
number_of why.NotFinite = 6
number_of why.OutOfRange = 7
number_of why.NoRoom = 8
number_of why.NoTile = 9
number_of why.NoPlace = 10
number_of why.ShortSlice = 11
number_of why.BadList = 15

-- the number of an answer: 0 where nothing is refused
abbrev pub number_in : {A : Type 0} → Result A Refusal → ℕ
number_in (Ok _) = 0
number_in (Err r) = number_of r
