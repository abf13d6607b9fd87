-- Calls with their answers, and runs of them.
use Rattle.std.specs.Prelude.{◌≡◌, cond, List, [], ◌∷◌, ℕ, eqb}
use Rattle.shape.specs.declared.Shape.{Shape}
use Rattle.snap.specs.declared.PixelShape.{PixelShape}
use Rattle.calls.specs.Told.{Binned}
use Rattle.calls.specs.Told.{Released}
use Rattle.calls.specs.Told.{Found}
use Rattle.calls.specs.Tables.{BinSays, BinPixelsSays, ReadSays, ReleaseSays}

pub data Call : Type 0 where
  bin : Shape → (id : ℕ) → Call
  bin_pixels : PixelShape → (id : ℕ) → Call
  read : (tile place : ℕ) → Call
  release : (tile : ℕ) → Call

-- a call and its answer
pub data Entry : Type 0 where
  binned : Shape → (id : ℕ) → Binned → Entry
  binned_pixels : PixelShape → (id : ℕ) → Binned → Entry
  found : (tile place : ℕ) → Found → Entry
  released : (tile : ℕ) → Released → Entry

abbrev pub call_of : Entry → Call
call_of (binned shape id a) = bin shape id
call_of (binned_pixels shape id a) = bin_pixels shape id
call_of (found tile place a) = read tile place
call_of (released tile a) = release tile

-- the number of the answer
abbrev pub number_of : Entry → ℕ
number_of (binned shape id a) = a.number
number_of (binned_pixels shape id a) = a.number
number_of (found tile place a) = a.number
number_of (released tile a) = a.number

-- on the words p the call is answered so, and leaves the words q
abbrev pub Step : (p : List ℕ) → Entry → (q : List ℕ) → Type 0
Step p (binned shape id a) q = BinSays p shape id a q
Step p (binned_pixels shape id a) q = BinPixelsSays p shape id a q
Step p (found tile place a) q = ReadSays p tile place a × (q ≡ p)
Step p (released tile a) q = ReleaseSays p tile a q

-- a history, the latest call first: it led from the words p to the words q
abbrev pub Run : (p : List ℕ) → List Entry → (q : List ℕ) → Type 0
Run p [] q = q ≡ p
Run p (e ∷ h) q = (m : List ℕ) × Run p h m × Step m e q

abbrev pub calls_of : List Entry → List Call
calls_of [] = []
calls_of (e ∷ h) = call_of e ∷ calls_of h

-- a history less the calls that were refused for room
abbrev pub less_room : List Entry → List Entry
less_room [] = []
less_room (e ∷ h) = cond (eqb (number_of e) 8) (less_room h) (e ∷ less_room h)
