-- Histories that hold bins of lists: such a call counts as its single calls, or as none where it is refused as a whole. A history is spelled out into single
-- calls, and the demands are those of what it spells.
use Rattle.std.specs.Prelude.{◌≡◌, ◌≢◌, ◌⊎◌, List, [], ◌∷◌, ◌++◌, ℕ, zero, suc, ◌<◌, ℤ, get_or}
use Rattle.screen.specs.declared.Screen.{Screen}
use Rattle.shapes.specs.Shapes.{count_of, shape_at}
use Rattle.pool.specs.Words.{Layout, layout_of}
use Rattle.pool.specs.Sound.{Sound}
use Rattle.calls.specs.BinList.{id_at, OneByOne, BinListSays, damaged, bad_list, too_few, done}
use Rattle.demands.specs.History.{Entry, binned, binned_pixels, found, released, Step, Run, calls_of, less_room}
use Rattle.demands.specs.Room.{room_of, SameRoom}
use Rattle.demands.specs.Demand1.{Among, Outside}
use Rattle.demands.specs.Demand2.{StaysSound, Demand2Bin, Demand2Pixels, Demand2Release}
use Rattle.demands.specs.Demand3.{Openings, Demand3}

-- ---- histories with bins of lists

-- a call and its answer: a single call; or the bin of the list ws with the bytes old for the answers, which answers a number and leaves the bytes new
pub data Item : Type 0 where
  single : Entry → Item
  list : (ws : List ℤ) (old : List ℕ) (number : ℕ) (new : List ℕ) → Item

-- on the words p the call is answered so, and leaves the words q
abbrev pub ItemStep : (p : List ℕ) → Item → (q : List ℕ) → Type 0
ItemStep p (single e) q = Step p e q
ItemStep p (list ws old number new) q = BinListSays p ws old number q new

-- a history, the latest call first: it led from the words p to the words q
abbrev pub ItemRun : (p : List ℕ) → List Item → (q : List ℕ) → Type 0
ItemRun p [] q = q ≡ p
ItemRun p (i ∷ h) q = (m : List ℕ) × ItemRun p h m × ItemStep m i q

-- ---- spelled out

-- the single bins of the first n shapes of a list, the latest first
abbrev pub singles : (ws : List ℤ) (bytes : List ℕ) (n : ℕ) (p q : List ℕ) → OneByOne ws bytes n p q → List Entry
singles ws bytes zero p q o = []
singles ws bytes (suc n) p q o = binned (shape_at 8 ws n) (id_at ws n) o.2.answer ∷ singles ws bytes n p o.0 o.1

-- what the bin of a list counts as: the bins of its shapes, or no call where it is refused as a whole
abbrev pub list_counts : {p : List ℕ} {ws : List ℤ} {old : List ℕ} {number : ℕ} {q new : List ℕ} → BinListSays p ws old number q new → List Entry
list_counts (damaged n e f g) = []
list_counts (bad_list S n e f g) = []
list_counts (too_few S r l e f g) = []
list_counts {p} {ws} {old} {number} {q} {new} (done S r l e b) = singles ws new (count_of 8 ws) p q b.each

-- what a call counts as
abbrev pub counts : (p : List ℕ) (i : Item) (q : List ℕ) → ItemStep p i q → List Entry
counts p (single e) q s = e ∷ []
counts p (list ws old number new) q s = list_counts s

-- a history, spelled out into single calls
abbrev pub spelled : (p : List ℕ) (h : List Item) (q : List ℕ) → ItemRun p h q → List Entry
spelled p [] q r = []
spelled p (i ∷ h) q r = counts r.0 i q r.2 ++ spelled p h r.0 r.1

-- what a history spells is a run of single calls from the same words to the same words
abbrev pub SpelledIsARun : Type 0
SpelledIsARun = (p : List ℕ) (h : List Item) (q : List ℕ) (r : ItemRun p h q) → Run p (spelled p h q r) q

-- ---- demand 1

pub record Demand1List (p : List ℕ) (ws : List ℤ) (old : List ℕ) (number : ℕ) (q new : List ℕ) : Type 0 where
  pub number_is : (number ≡ 0) ⊎ Among number (4 ∷ 15 ∷ 11 ∷ [])
  pub refused : number ≢ 0 → (q ≡ p) × (new ≡ old)
  -- no word past the room is written, and no byte past those of the shapes, each of which is the number of an answer
  pub words : number ≡ 0 → Outside (room_of p) p q
  pub bytes : number ≡ 0 → Outside (count_of 8 ws) old new
  pub answers : number ≡ 0 → (k : ℕ) → k < count_of 8 ws → Among (get_or new k 0) (0 ∷ 5 ∷ 7 ∷ 8 ∷ [])

-- ---- demand 2, of each single call of a run

abbrev pub Demand2Step : (p : List ℕ) → Sound (layout_of p) p → Entry → (q : List ℕ) → Type 0
Demand2Step p S (binned shape id a) q = Demand2Bin p shape id a q
Demand2Step p S (binned_pixels shape id a) q = Demand2Pixels p shape id a q
Demand2Step p S (found tile place a) q = q ≡ p
Demand2Step p S (released tile a) q = Demand2Release p S tile a q

-- each call found a sound pool, and demand 2 holds of it
abbrev pub Demand2Run : (p : List ℕ) (h : List Entry) (q : List ℕ) → Run p h q → Type 0
Demand2Run p [] q r = Unit {0}
Demand2Run p (e ∷ h) q r = Demand2Run p h r.0 r.1 × (S : Sound (layout_of r.0) r.0) × Demand2Step r.0 S e q

-- of every history on a sound pool, by what it spells; and the pool is sound after it
abbrev pub Demand2Items : SpelledIsARun → Type 0
Demand2Items run =
    (p : List ℕ) → Sound (layout_of p) p → (h : List Item) (q : List ℕ) (r : ItemRun p h q)
    → Demand2Run p (spelled p h q r) q (run p h q r) × StaysSound p q

-- ---- demand 3

-- The second pool is given calls that spell the same as those of the first less what it refused for room; in lists as its caller pleases.
abbrev pub Demand3Items : Type 0
Demand3Items =
    (L : Layout) (d : Screen) (N n : ℕ) (p₁ p₂ : List ℕ) → Openings L d N n p₁ p₂
    → (h₁ : List Item) (q₁ : List ℕ) (r₁ : ItemRun p₁ h₁ q₁)
    → (h₂ : List Item) (q₂ : List ℕ) (r₂ : ItemRun p₂ h₂ q₂) → calls_of (spelled p₂ h₂ q₂ r₂) ≡ calls_of (less_room (spelled p₁ h₁ q₁ r₁))
    → Demand3 L d N n (spelled p₁ h₁ q₁ r₁) q₁ (spelled p₂ h₂ q₂ r₂) q₂

-- and such calls on the second pool there are
abbrev pub Demand3ItemsRun : Type 0
Demand3ItemsRun =
    (L : Layout) (d : Screen) (N n : ℕ) (p₁ p₂ : List ℕ) → Openings L d N n p₁ p₂
    → (h₁ : List Item) (q₁ : List ℕ) (r₁ : ItemRun p₁ h₁ q₁)
    → (h₂ : List Item) × (q₂ : List ℕ) × (r₂ : ItemRun p₂ h₂ q₂) × (spelled p₂ h₂ q₂ r₂ ≡ less_room (spelled p₁ h₁ q₁ r₁))

-- ---- the words past the room do not matter to the bin of a list either

abbrev pub PastTheRoomList : Type 0
PastTheRoomList =
    (p₁ p₂ : List ℕ) → SameRoom p₁ p₂ → (ws : List ℤ) (old : List ℕ) (a₁ a₂ : ℕ) (q₁ q₂ new₁ new₂ : List ℕ)
    → BinListSays p₁ ws old a₁ q₁ new₁ → BinListSays p₂ ws old a₂ q₂ new₂ → (a₁ ≡ a₂) × (new₁ ≡ new₂) × SameRoom q₁ q₂
