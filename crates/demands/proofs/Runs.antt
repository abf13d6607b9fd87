-- A history on a sound pool keeps it sound, with its layout, its screen and its blocks; and calls on given words have one history only, and leave the same words.
use mathlib.Core.Path.{◌≡◌, refl, sym, subst, ◌∙◌}
use mathlib.Core.List.{List, [], ◌∷◌}
use Prim.Native.Nat.{ℕ}
use Rattle.pool.specs.Words.{layout_of}
use Rattle.pool.specs.Sound.{Sound}
use Rattle.calls.specs.Tables.{BinSays, BinPixelsSays, ReadSays, ReleaseSays}
use Rattle.demands.specs.History.{Entry, binned, binned_pixels, found, released, call_of, calls_of, Step, Run}
use Rattle.demands.specs.Demand2.{StaysSound}
use Rattle.demands.proofs.OneOutcome.{bin_one_outcome, bin_pixels_one_outcome, read_one_outcome, release_one_outcome}
use Rattle.demands.proofs.Accepted.{same_stays}
use Rattle.demands.proofs.Demand2.{demand_2_bin, demand_2_pixels, demand_2_release}

-- ---- a sound pool stays sound

pub step_stays : (p : List ℕ) (e : Entry) (q : List ℕ) → Sound (layout_of p) p → Step p e q → StaysSound p q
step_stays p (binned shape id a) q S s = (demand_2_bin S s).stays
step_stays p (binned_pixels shape id a) q S s = (demand_2_pixels S s).stays
step_stays p (found tile place a) q S s = same_stays S s.1
step_stays p (released tile a) q S s = (demand_2_release S s).stays

pub run_stays : (p : List ℕ) (h : List Entry) (q : List ℕ) → Sound (layout_of p) p → Run p h q → StaysSound p q
run_stays p [] q S r = same_stays S r
run_stays p (e ∷ h) q S r =
    let M = run_stays p h r.0 S r.1 in
    let Q = step_stays r.0 e q M.sound r.2 in
    record { sound = Q.sound; layout = Q.layout ∙ M.layout; screen = Q.screen ∙ M.screen; blocks = Q.blocks ∙ M.blocks }

-- ---- one history only

pub step_one_outcome : (p : List ℕ) (e f : Entry) (q r : List ℕ) → call_of e ≡ call_of f → Step p e q → Step p f r → (e ≡ f) × (q ≡ r)
step_one_outcome p (binned shape id a) (binned shape' id' b) q r c s t =
    let es : shape ≡ shape' = cc in
    let ei : id ≡ id' = cc in
    let t' : BinSays p shape id b r = rw (es, ei) t in
    let o = bin_one_outcome s t' in
    (cc, o.1)
step_one_outcome p (binned shape id a) (binned_pixels shape' id' b) q r c s t = (cc, cc)
step_one_outcome p (binned shape id a) (found tile' place' b) q r c s t = (cc, cc)
step_one_outcome p (binned shape id a) (released tile' b) q r c s t = (cc, cc)
step_one_outcome p (binned_pixels shape id a) (binned shape' id' b) q r c s t = (cc, cc)
step_one_outcome p (binned_pixels shape id a) (binned_pixels shape' id' b) q r c s t =
    let es : shape ≡ shape' = cc in
    let ei : id ≡ id' = cc in
    let t' : BinPixelsSays p shape id b r = rw (es, ei) t in
    let o = bin_pixels_one_outcome s t' in
    (cc, o.1)
step_one_outcome p (binned_pixels shape id a) (found tile' place' b) q r c s t = (cc, cc)
step_one_outcome p (binned_pixels shape id a) (released tile' b) q r c s t = (cc, cc)
step_one_outcome p (found tile place a) (binned shape' id' b) q r c s t = (cc, cc)
step_one_outcome p (found tile place a) (binned_pixels shape' id' b) q r c s t = (cc, cc)
step_one_outcome p (found tile place a) (found tile' place' b) q r c s t =
    let et : tile ≡ tile' = cc in
    let ep : place ≡ place' = cc in
    let t' : ReadSays p tile place b = rw (et, ep) t.0 in
    let o = read_one_outcome s.0 t' in
    (cc, s.1 ∙ sym t.1)
step_one_outcome p (found tile place a) (released tile' b) q r c s t = (cc, cc)
step_one_outcome p (released tile a) (binned shape' id' b) q r c s t = (cc, cc)
step_one_outcome p (released tile a) (binned_pixels shape' id' b) q r c s t = (cc, cc)
step_one_outcome p (released tile a) (found tile' place' b) q r c s t = (cc, cc)
step_one_outcome p (released tile a) (released tile' b) q r c s t =
    let et : tile ≡ tile' = cc in
    let t' : ReleaseSays p tile b r = rw et t in
    let o = release_one_outcome s t' in
    (cc, o.1)

pub runs_one_outcome : (p : List ℕ) (h k : List Entry) (q r : List ℕ) → calls_of h ≡ calls_of k → Run p h q → Run p k r → (h ≡ k) × (q ≡ r)
runs_one_outcome p [] [] q r c s t = (refl, s ∙ sym t)
runs_one_outcome p [] (f ∷ k) q r c s t = (cc, cc)
runs_one_outcome p (e ∷ h) [] q r c s t = (cc, cc)
runs_one_outcome p (e ∷ h) (f ∷ k) q r c s t =
    let before = runs_one_outcome p h k s.0 t.0 (cc) s.1 t.1 in
    let o = step_one_outcome s.0 e f q r (cc) s.2 (subst (λ (m : List ℕ). Step m f r) (sym before.1) t.2) in
    let eh : h ≡ k = before.0 in
    let ee : e ≡ f = o.0 in
    (cc, o.1)
