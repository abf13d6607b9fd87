-- High water: the mark of a tile is the greatest length that its list had after any of the calls so far.
use Rattle.std.specs.Prelude.{◌≡◌, List, [], ◌∷◌, ℕ, ◌<◌, max, length}
use Rattle.screen.specs.declared.Screen.{Screen}
use Rattle.screen.specs.Screen.{tiles}
use Rattle.pool.specs.Words.{Layout}
use Rattle.pool.specs.Opening.{OpenSays}
use Rattle.calls.specs.Tables.{list_in, mark_in}
use Rattle.demands.specs.History.{Entry, Run}

-- the greatest length that tile t's list had after a call of a run; 0 before the first
abbrev pub greatest_length : (t : ℕ) (p : List ℕ) (h : List Entry) (q : List ℕ) → Run p h q → ℕ
greatest_length t p [] q r = 0
greatest_length t p (e ∷ h) q r = max (greatest_length t p h r.0 r.1) (length (list_in q t))

-- for any layout, screen, blocks and slice that are opened, and any calls after that
abbrev pub MarksAreGreatest : Type 0
MarksAreGreatest =
    (L : Layout) (d : Screen) (N : ℕ) (old p : List ℕ) → OpenSays L old d N 0 p
    → (h : List Entry) (q : List ℕ) (r : Run p h q) (t : ℕ) → t < tiles d → mark_in q t ≡ greatest_length t p h q r
