-- A read tells the id and the flag that a bin appended: the entry stands behind the list of before, and gives both back.
use mathlib.Core.Path.{◌≡◌, refl, sym, ap, subst, ◌∙◌}
use mathlib.Core.Logic.{◌≢◌}
use mathlib.Core.Bool.{Bool}
use mathlib.Core.List.{List, [], ◌∷◌, ◌++◌}
use Prim.Native.Nat.{ℕ, ◌<◌}
use native.Mathlib.Omega.{arith}
use lib.ListN.{length, get_or, length-append}
use lib.Seq.{get_or-append_seam}
use Rattle.numbers.specs.Flag.{flagged}
use Rattle.numbers.proofs.Flag.{plain-flagged, is_flagged_lem}
use Rattle.screen.specs.declared.Screen.{Screen}
use Rattle.screen.specs.Screen.{tiles}
use Rattle.touch.specs.declared.Cover.{Cover}
use Rattle.touch.specs.declared.Cover.TheVariants.{Apart, Partly, Wholly}
use Rattle.touch.specs.Cover.{is_whole}
use Rattle.pool.specs.Words.{id_limit, layout_of}
use Rattle.pool.specs.Sound.{Sound, tiles_of}
use Rattle.calls.specs.Told.{Found}
use Rattle.calls.specs.Tables.{list_in, found_in, ReadSays}
use Rattle.demands.specs.Demand2.{gained}
use Rattle.demands.specs.Flags.{ReadsBack}
use Rattle.demands.proofs.Demand2.{demand_2_bin}

-- a tile that is touched gains one entry
pub one_entry : (r : Cover) (id : ℕ) → r ≢ Apart → gained r id ≡ flagged id (is_whole r) ∷ []
one_entry Apart id ne = absurd (ne refl)
one_entry Partly id ne = refl
one_entry Wholly id ne = refl

told : {q : List ℕ} {t place : ℕ} {b : Found} → Sound (layout_of q) q → t < tiles_of q → place < length (list_in q t) → ReadSays q t place b
    → b ≡ found_in (get_or (list_in q t) place 0)
told S h l (ReadSays.damaged n e) = absurd (n S)
told S h l (ReadSays.no_tile S' n e) = absurd (omega arith)
told S h l (ReadSays.past S' h' n e) = absurd (omega arith)
told S h l (ReadSays.done S' h' l' e) = e

-- a read at the place where a list ends tells the id and the flag of the entry behind it
pub told_behind : {q : List ℕ} → Sound (layout_of q) q → (t : ℕ) → t < tiles_of q → (xs : List ℕ) (id : ℕ) (whole : Bool) (ys : List ℕ)
    → id < id_limit → list_in q t ≡ xs ++ (flagged id whole ∷ ys) → (b : Found) → ReadSays q t (length xs) b → b ≡ record { number = 0; id = id; whole = whole }
told_behind {q} S t h xs id whole ys id< list b R =
    let x : ℕ = flagged id whole in
    let long : length xs < length (list_in q t) = omega (arith, ap length list, length-append xs (x ∷ ys)) in
    let entry : get_or (list_in q t) (length xs) 0 ≡ x = ap (λ (zs : List ℕ). get_or zs (length xs) 0) list ∙ get_or-append_seam xs x ys 0 in
    told S h long R ∙ ap found_in entry ∙ (λ i. record { number = 0; id = plain-flagged id id< whole i; whole = is_flagged_lem id id< whole i })

pub reads_back : ReadsBack
reads_back p S shape id a q B z t h r c ne b R =
    let D = demand_2_bin S B in
    let after : list_in q t ≡ list_in p t ++ (flagged id (is_whole r) ∷ [])
    = (D.listed z).lists t h r c ∙ ap (λ (xs : List ℕ). list_in p t ++ xs) (one_entry r id ne) in
    let t< : t < tiles_of q = subst (λ (d : Screen). t < tiles d) (sym D.stays.screen) h in
    told_behind D.stays.sound t t< (list_in p t) id (is_whole r) [] (D.done.0 z).0.id< after b R
