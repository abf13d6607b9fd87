-- The two editions: which layouts there are, which words are read in which, and that no words of the second are taken for a pool of the first.
use Rattle.std.specs.Prelude.{◌≡◌, ◌⊎◌, ◌↔◌, List, ℕ}
use Rattle.screen.specs.declared.Screen.{Screen}
use Rattle.pool.specs.Words.{Layout, edition, second, Known, layout_of}
use Rattle.pool.specs.Sound.{Opened, Sound}
use Rattle.pool.specs.Opening.{OpenSays}

-- blocks of the second edition have 32 words or 64
abbrev pub SizesOfTheSecond : Type 0
SizesOfTheSecond = (words : ℕ) → Known (second words) ↔ ((words ≡ 32) ⊎ (words ≡ 64))

-- words are a sound pool of the layout that they say exactly if they are one of any layout that there is
abbrev pub SoundAsTheySay : Type 0
SoundAsTheySay = (p : List ℕ) → Sound (layout_of p) p ↔ ((L : Layout) × Known L × Sound L p)

-- the words that an accepted opening leaves say its layout, and are a sound pool of it
abbrev pub OpenedAsAsked : Type 0
OpenedAsAsked = (L : Layout) (d : Screen) (N : ℕ) (old p : List ℕ) → OpenSays L old d N 0 p → (layout_of p ≡ L) × Sound (layout_of p) p

-- words with the header of the second edition are no pool of the first, which is the only one that a reader of before knows: it answers 4
abbrev pub NoPoolOfTheFirst : Type 0
NoPoolOfTheFirst = (p : List ℕ) (words : ℕ) → Opened (second words) p → Sound edition p → ⊥
