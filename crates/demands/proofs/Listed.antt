-- The lists of a pool that was opened are what its history says, and a history says one list only for each tile.
use mathlib.Core.Path.{◌≡◌, sym, ap, subst, ◌∙◌}
use mathlib.Core.Logic.{◌≢◌, inl, inr, ⊎_elim}
use mathlib.Core.Bool.{Bool, cond}
use mathlib.Core.List.{List, [], ◌∷◌, ◌++◌}
use Prim.Native.Nat.{ℕ, ◌<◌}
use borrow.Author.Tests.{eq-eqb, ne_eqb}
use Rattle.numbers.proofs.Ceil.{eq_or_ne}
use Rattle.screen.specs.declared.Screen.{Screen}
use Rattle.screen.specs.Screen.{Allowed, tiles}
use Rattle.shape.specs.declared.Shape.{Shape}
use Rattle.touch.specs.declared.Cover.{Cover}
use Rattle.touch.proofs.Covering.{one_cover}
use Rattle.std.specs.Prelude.{Result}
use Rattle.numbers.specs.declared.Refusal.{Refusal}
use Rattle.snap.specs.Shapes.{shape_of}
use Rattle.pool.specs.Words.{layout_of}
use Rattle.pool.specs.Sound.{Sound, screen_of, tiles_of}
use Rattle.calls.specs.Told.{Binned}
use Rattle.calls.specs.Told.{Released}
use Rattle.calls.specs.Tables.{list_in}
use Rattle.demands.specs.History.{Entry, binned, binned_pixels, found, released, number_of, Step, Run}
use Rattle.demands.specs.Demand2.{gained, Listed, Emptied}
use Rattle.demands.specs.Demand3.{Effect, appends, empties, nothing, appends_snapped, accepted, effect_of, Becomes, ListedBy}
use Rattle.walk.proofs.Exists.{cover_exists}
use Rattle.demands.proofs.Touched.{tile_proper}
use Rattle.demands.proofs.Demand1.{demand_1}
use Rattle.demands.proofs.Demand2.{demand_2_bin, demand_2_pixels, demand_2_release}
use Rattle.demands.proofs.Runs.{run_stays}

-- ---- one call

pub accepted_zero : (n : ℕ) (e : Effect) → n ≡ 0 → accepted n e ≡ e
accepted_zero n e z = ap (λ (b : Bool). cond b e nothing) (eq-eqb n 0 z)

pub accepted_other : (n : ℕ) (e : Effect) → n ≢ 0 → accepted n e ≡ nothing
accepted_other n e ne = ap (λ (b : Bool). cond b e nothing) (ne_eqb n 0 ne)

-- an accepted call has its effect, and another has none
by_number : (d : Screen) (t : ℕ) (xs ys : List ℕ) (n : ℕ) (e : Effect) → (n ≡ 0 → Becomes d t e xs ys) → (n ≢ 0 → ys ≡ xs) → Becomes d t (accepted n e) xs ys
by_number d t xs ys n e done refused =
    ⊎_elim (λ (z : n ≡ 0). subst (λ (x : Effect). Becomes d t x xs ys) (sym (accepted_zero n e z)) (done z))
    (λ (ne : n ≢ 0). subst (λ (x : Effect). Becomes d t x xs ys) (sym (accepted_other n e ne)) (refused ne))
    (eq_or_ne n 0)

module _ {p : List ℕ} (S : Sound (layout_of p) p) {t : ℕ} (ht : t < tiles_of p) {q : List ℕ} where
  listed_becomes : {shape : Shape} {id : ℕ} {a : Binned} → Listed p shape id a q → Becomes (screen_of p) t (appends shape id) (list_in p t) (list_in q t)
  listed_becomes {shape} {id} {a} L = let k = cover_exists (screen_of p) S.opened.screen shape t ht in (k.0, k.1, L.lists t ht k.0 k.1)

  emptied_becomes : {u : ℕ} {a : Released} → Emptied p S u a q → Becomes (screen_of p) t (empties u) (list_in p t) (list_in q t)
  emptied_becomes {u} {a} E =
      ⊎_elim (λ (e : u ≡ t). inl (e, subst (λ (v : ℕ). list_in q v ≡ []) e E.emptied))
      (λ (ne : u ≢ t). inr (ne, E.others t ht (λ z. ne (sym z))))
      (eq_or_ne u t)

pub step_becomes : (p : List ℕ) (e : Entry) (q : List ℕ) → Sound (layout_of p) p → Step p e q → (t : ℕ) → t < tiles_of p
    → Becomes (screen_of p) t (effect_of e) (list_in p t) (list_in q t)
step_becomes p e q S s t ht = go e s (λ ne. ap (λ (x : List ℕ). list_in x t) ((demand_1 p e q s).refused ne).0)
  where
    go : (f : Entry) → Step p f q → (number_of f ≢ 0 → list_in q t ≡ list_in p t) → Becomes (screen_of p) t (effect_of f) (list_in p t) (list_in q t)
    go (binned shape id a) s same = by_number (screen_of p) t (list_in p t) (list_in q t) a.number (appends shape id) (λ z. listed_becomes S ht ((demand_2_bin S s).listed z)) same
    go (binned_pixels shape id a) s same =
        by_number (screen_of p) t (list_in p t) (list_in q t) a.number (appends_snapped (shape_of shape) id)
        (λ z.
        let L = (demand_2_pixels S s).listed z in
        subst (λ (w : Result Shape Refusal). Becomes (screen_of p) t (appends_snapped w id) (list_in p t) (list_in q t)) (sym L.1) (listed_becomes S ht L.2))
        same
    go (found tile place a) s same = ap (λ (x : List ℕ). list_in x t) s.1
    go (released tile a) s same = by_number (screen_of p) t (list_in p t) (list_in q t) a.number (empties tile) (λ z. emptied_becomes S ht ((demand_2_release S s).emptied z)) same

-- ---- a history

module _ (d : Screen) (allowed : Allowed d) (t : ℕ) (ht : t < tiles d) where
  becomes_one : (e : Effect) (xs ys zs : List ℕ) → Becomes d t e xs ys → Becomes d t e xs zs → ys ≡ zs
  becomes_one (appends shape id) xs ys zs a b =
      let same = one_cover shape (tile_proper d allowed t ht) a.0 b.0 a.1 b.1 in
      a.2 ∙ ap (λ (r : Cover). xs ++ gained r id) same ∙ sym b.2
  becomes_one (empties u) xs ys zs (inl a) (inl b) = a.1 ∙ sym b.1
  becomes_one (empties u) xs ys zs (inl a) (inr b) = absurd (b.0 a.0)
  becomes_one (empties u) xs ys zs (inr a) (inl b) = absurd (a.0 b.0)
  becomes_one (empties u) xs ys zs (inr a) (inr b) = a.1 ∙ sym b.1
  becomes_one nothing xs ys zs a b = a ∙ sym b

  pub history_says_one_list : (h : List Entry) (xs ys : List ℕ) → ListedBy d t h xs → ListedBy d t h ys → xs ≡ ys
  history_says_one_list [] xs ys a b = a ∙ sym b
  history_says_one_list (e ∷ h) xs ys a b =
      let before = history_says_one_list h a.0 b.0 a.1 b.1 in
      becomes_one (effect_of e) a.0 xs ys a.2 (subst (λ (l : List ℕ). Becomes d t (effect_of e) l ys) (sym before) b.2)

pub lists_are_listed : (d : Screen) (p : List ℕ) → Sound (layout_of p) p → screen_of p ≡ d → ((t : ℕ) → t < tiles d → list_in p t ≡ [])
    → (h : List Entry) (q : List ℕ) → Run p h q → (t : ℕ) → t < tiles d → ListedBy d t h (list_in q t)
lists_are_listed d p S screen none [] q r t ht = ap (λ (x : List ℕ). list_in x t) r ∙ none t ht
lists_are_listed d p S screen none (e ∷ h) q r t ht =
    let m = r.0 in
    let M = run_stays p h m S r.1 in
    let is : screen_of m ≡ d = M.screen ∙ screen in
    let ht' : t < tiles_of m = subst (λ (x : Screen). t < tiles x) (sym is) ht in (
      list_in m t,
      lists_are_listed d p S screen none h m r.1 t ht,
      subst (λ (x : Screen). Becomes x t (effect_of e) (list_in m t) (list_in q t)) is (step_becomes m e q M.sound r.2 t ht'),
    )
