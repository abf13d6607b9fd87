-- The mark of a tile is the greatest length that its list had after any of the calls since the opening: after each call the mark of a sound pool's tile is
-- the greater of what it was and the length of the list.
use mathlib.Core.Path.{◌≡◌, sym, ap, subst, ◌∙◌}
use mathlib.Core.Logic.{◌≢◌, ⊎_elim}
use mathlib.Core.List.{List, [], ◌∷◌}
use Prim.Native.Nat.{ℕ, ◌≤◌, ◌<◌, max}
use native.Mathlib.Omega.{arith}
use lib.ListN.{length}
use Rattle.numbers.proofs.Ceil.{eq_or_ne}
use Rattle.screen.specs.declared.Screen.{Screen}
use Rattle.screen.specs.Screen.{tiles}
use Rattle.pool.specs.Words.{layout_of}
use Rattle.pool.specs.Sound.{Sound, screen_of, tiles_of}
use Rattle.pool.proofs.Editions.{layout_fair}
use Rattle.pool.proofs.Lists.{list_of_shows}
use Rattle.calls.specs.Tables.{list_in, mark_in}
use Rattle.demands.specs.History.{Entry, binned, binned_pixels, found, released, number_of, Step, Run}
use Rattle.demands.specs.HighWater.{greatest_length, MarksAreGreatest}
use Rattle.demands.proofs.Demand1.{demand_1}
use Rattle.demands.proofs.Demand2.{demand_2_bin, demand_2_pixels, demand_2_release}
use Rattle.demands.proofs.Runs.{step_stays, run_stays}
use Rattle.demands.proofs.Demand3.{accepted-opening, fresh}

-- the mark of tile t follows its list
abbrev MarkFollows : (p q : List ℕ) (t : ℕ) → Type 0
MarkFollows p q t = mark_in q t ≡ max (mark_in p t) (length (list_in q t))

-- no mark is below the length of its list
length≤mark : {p : List ℕ} → Sound (layout_of p) p → (t : ℕ) → t < tiles_of p → length (list_in p t) ≤ mark_in p t
length≤mark {p} S t ht = let k = S.shows.tile t ht in omega (arith, k.mark, k.mark≥, ap length (list_of_shows (layout_fair p) S.shows t ht))

-- an accepted call, where a mark that stays follows: only a bin changes marks
accepted_marks : (p : List ℕ) (e : Entry) (q : List ℕ) (t : ℕ) → Sound (layout_of p) p → Step p e q → number_of e ≡ 0 → t < tiles_of p
    → (mark_in q t ≡ mark_in p t → MarkFollows p q t) → MarkFollows p q t
accepted_marks p (binned shape id a) q t S s z ht stayed = ((demand_2_bin S s).listed z).marks t ht
accepted_marks p (binned_pixels shape id a) q t S s z ht stayed = ((demand_2_pixels S s).listed z).2.marks t ht
accepted_marks p (found tile place a) q t S s z ht stayed = stayed (ap (λ (x : List ℕ). mark_in x t) s.1)
accepted_marks p (released tile a) q t S s z ht stayed = stayed (((demand_2_release S s).emptied z).marks t ht)

pub step_marks : (p : List ℕ) (e : Entry) (q : List ℕ) → Sound (layout_of p) p → Step p e q → (t : ℕ) → t < tiles_of p → MarkFollows p q t
step_marks p e q S s t ht =
    let K = step_stays p e q S s in
    let stayed : mark_in q t ≡ mark_in p t → MarkFollows p q t
    = (λ same. omega (arith, length≤mark K.sound t (subst (λ (d : Screen). t < tiles d) (sym K.screen) ht))) in
    ⊎_elim
    (λ (z : number_of e ≡ 0). accepted_marks p e q t S s z ht stayed)
    (λ (ne : number_of e ≢ 0). stayed (ap (λ (x : List ℕ). mark_in x t) ((demand_1 p e q s).refused ne).0))
    (eq_or_ne (number_of e) 0)

run_marks : (d : Screen) (p : List ℕ) → Sound (layout_of p) p → screen_of p ≡ d → ((t : ℕ) → t < tiles d → mark_in p t ≡ 0)
    → (h : List Entry) (q : List ℕ) (r : Run p h q) (t : ℕ) → t < tiles d → mark_in q t ≡ greatest_length t p h q r
run_marks d p S screen none [] q r t ht = ap (λ (x : List ℕ). mark_in x t) r ∙ none t ht
run_marks d p S screen none (e ∷ h) q r t ht =
    let m = r.0 in
    let M = run_stays p h m S r.1 in
    let ht' : t < tiles_of m = subst (λ (x : Screen). t < tiles x) (sym (M.screen ∙ screen)) ht in
    step_marks m e q M.sound r.2 t ht' ∙ ap (λ (k : ℕ). max k (length (list_in q t))) (run_marks d p S screen none h m r.1 t ht)

pub marks_are_greatest : MarksAreGreatest
marks_are_greatest L d N old p O = let P = fresh (accepted-opening O) in run_marks d p P.sound P.screen P.no_marks
