-- A shape inside a shape: an accepted bin's entry stays where it was put until its tile is released, so that what the definitions say of two shapes holds of
-- the entries of their bins. And of the question: demand 1, and that its contract admits one outcome only.
use mathlib.Core.Path.{◌≡◌, refl, sym, ap, subst, ◌∙◌}
use mathlib.Core.Logic.{◌≢◌, inl, inr, ⊎_elim}
use mathlib.Core.Bool.{Bool, true, false, cond}
use mathlib.Core.List.{List, [], ◌∷◌, ◌++◌, append-nil, append_assoc}
use Prim.Native.Nat.{ℕ, ◌≤◌, ◌<◌}
use native.Mathlib.Omega.{arith}
use lib.Dec.{leb}
use lib.IntN.{ℤ}
use lib.ListN.{length, get_or}
use Rattle.numbers.specs.Flag.{flagged}
use Rattle.numbers.specs.Says.{Says}
use Rattle.numbers.proofs.Ceil.{eq_or_ne}
use Rattle.numbers.proofs.Says.{true≢false, says_once}
use Rattle.numbers.proofs.Deciding.{says_le}
use Rattle.screen.specs.declared.Screen.{Screen}
use Rattle.screen.specs.declared.Rectangle.{Rectangle}
use Rattle.screen.specs.Screen.{Allowed, tiles}
use Rattle.screen.specs.Rectangle.{Proper, rectangle}
use Rattle.shape.specs.declared.Shape.{Shape}
use Rattle.touch.specs.declared.Cover.{Cover}
use Rattle.touch.specs.declared.Cover.TheVariants.{Apart, Partly, Wholly}
use Rattle.touch.specs.Cover.{CoverSays, is_touched, is_whole}
use Rattle.touch.proofs.Points.{wholly_touches}
use Rattle.touch.proofs.Covering.{one_cover}
use Rattle.inside.specs.Inside.{Nested}
use Rattle.inside.specs.Inside.{Inside, InsideSays, bad_list, out_of_range, done}
use Rattle.inside.proofs.Means.{inside-touches, inside_wholly}
use Rattle.std.specs.Prelude.{Result}
use Rattle.numbers.specs.declared.Refusal.{Refusal}
use Rattle.snap.specs.Shapes.{shape_of}
use Rattle.pool.specs.Words.{Layout, id_limit, layout_of}
use Rattle.pool.specs.Opening.{OpenSays}
use Rattle.pool.specs.Sound.{Sound, screen_of, tiles_of}
use Rattle.calls.specs.Tables.{list_in}
use Rattle.demands.specs.History.{Entry, binned, binned_pixels, found, released, Step, Run}
use Rattle.demands.specs.Demand2.{StaysSound, gained}
use Rattle.demands.specs.Demand3.{Effect, appends, empties, nothing, appends_snapped, accepted, effect_of, Becomes}
use Rattle.demands.specs.BinList.{spelled}
use Rattle.demands.specs.Inside.{InsideTouches, InsideCovers, BinIn, EntryStands, NotReleased, EachBinIsIn, EntriesStay, EntriesTell, EntriesAreRead}
use Rattle.demands.specs.Inside.{since_earlier, InnerWithOuter, Demand1Inside}
use Rattle.demands.proofs.Touched.{tile_proper}
use Rattle.demands.proofs.Runs.{run_stays}
use Rattle.demands.proofs.Demand2.{demand_2_bin, demand_2_pixels}
use Rattle.demands.proofs.Listed.{accepted_zero, accepted_other, step_becomes}
use Rattle.demands.proofs.Demand3.{Fresh, accepted-opening, fresh}
use Rattle.demands.proofs.BinList.{spelled_is_a_run}
use Rattle.demands.proofs.Flags.{one_entry, told_behind}

-- ---- the definitions

pub inside_touches_too : InsideTouches
inside_touches_too first second i q t = inside-touches {first = first} {second = second} i t

pub inside_covers_too : InsideCovers
inside_covers_too first second i q w = inside_wholly {first = first} {second = second} i w

-- what the inner one touches the outer one touches, and what it covers wholly the outer one covers wholly
covers_more : (first second : Shape) {q : Rectangle} → Inside first second → Proper q → (r s : Cover) → CoverSays r first q → CoverSays s second q → r ≢ Apart
    → (s ≢ Apart) × (is_whole r ≡ true → is_whole s ≡ true)
covers_more first second i ok Apart s c e ne = absurd (ne refl)
covers_more first second i ok Partly Apart c e ne = absurd (e (inside_touches_too first second i _ c.0))
covers_more first second i ok Partly Partly c e ne = (ne, λ z. z)
covers_more first second i ok Partly Wholly c e ne = ((λ z. true≢false (ap is_whole z)), λ z. refl)
covers_more first second i ok Wholly Apart c e ne = absurd (e (wholly_touches ok (inside_covers_too first second i _ c)))
covers_more first second i ok Wholly Partly c e ne = absurd (e.1 (inside_covers_too first second i _ c))
covers_more first second i ok Wholly Wholly c e ne = (ne, λ z. z)

-- ---- a list only grows until it is released

becomes_grows : (d : Screen) (t : ℕ) (e : Effect) (xs ys : List ℕ) → Becomes d t e xs ys → e ≢ empties t → (more : List ℕ) × (ys ≡ xs ++ more)
becomes_grows d t (appends shape id) xs ys b ne = (gained b.0 id, b.2)
becomes_grows d t (empties u) xs ys (inl b) ne = absurd (ne (ap empties b.0))
becomes_grows d t (empties u) xs ys (inr b) ne = ([], b.1 ∙ sym (append-nil xs))
becomes_grows d t nothing xs ys b ne = ([], b ∙ sym (append-nil xs))

run_grows : (p : List ℕ) → Sound (layout_of p) p → (t : ℕ) → t < tiles_of p → (h : List Entry) (q : List ℕ) → Run p h q → NotReleased t h
    → (more : List ℕ) × (list_in q t ≡ list_in p t ++ more)
run_grows p S t ht [] q r n = ([], ap (λ (x : List ℕ). list_in x t) r ∙ sym (append-nil (list_in p t)))
run_grows p S t ht (e ∷ h) q r n =
    let m = r.0 in
    let M = run_stays p h m S r.1 in
    let k = run_grows p S t ht h m r.1 n.1 in
    let l = becomes_grows (screen_of m) t (effect_of e) (list_in m t) (list_in q t)
    (step_becomes m e q M.sound r.2 t (subst (λ (d : Screen). t < tiles d) (sym M.screen) ht)) n.0 in
    (k.0 ++ l.0, l.1 ∙ ap (λ (xs : List ℕ). xs ++ l.0) k.1 ∙ append_assoc (list_in p t) k.0 l.0)

-- ---- the entry of a bin

-- a call of a history, with the words that it found and left
split : (p : List ℕ) (after : List Entry) (e : Entry) (earlier : List Entry) (q : List ℕ) → Run p (after ++ (e ∷ earlier)) q
    → (found left : List ℕ) × Run p earlier found × Step found e left × Run left after q
split p [] e earlier q r = (r.0, q, r.1, r.2, refl)
split p (f ∷ after) e earlier q r = let k = split p after e earlier r.0 r.1 in (k.0, k.1, k.2, k.3, (r.0, k.4, r.2))

pub each_bin_is_in : EachBinIsIn
each_bin_is_in p h q r after e earlier is shape id accepted =
    let k = split p after e earlier q (rw is at r) in (
      record {
        after = after;
        bin = e;
        earlier = earlier;
        history = is;
        found = k.0;
        left = k.1;
        ran_earlier = k.2;
        step = k.3;
        ran_after = k.4;
        shape = shape;
        id = id;
        accepted = accepted;
      },
      refl,
      refl,
      refl,
    )

-- an entry that a bin put says how its shape covers the tile
front_cancels : (xs ys zs : List ℕ) → xs ++ ys ≡ xs ++ zs → ys ≡ zs
front_cancels [] ys zs e = e
front_cancels (x ∷ xs) ys zs e = front_cancels xs ys zs cc

flag_of : (r : Cover) (id : ℕ) (flag : Bool) → gained r id ≡ flagged id flag ∷ [] → (r ≢ Apart) × (flag ≡ is_whole r)
flag_of Apart id flag e = absurd (omega (arith, ap length e))
flag_of Partly id true e = absurd (omega (arith, ap (λ (xs : List ℕ). get_or xs 0 0) e))
flag_of Partly id false e = ((λ z. true≢false (ap is_touched z)), refl)
flag_of Wholly id true e = ((λ z. true≢false (ap is_touched z)), refl)
flag_of Wholly id false e = absurd (omega (arith, ap (λ (xs : List ℕ). get_or xs 0 0) e))

module _ {L : Layout} {d : Screen} {N : ℕ} {old p : List ℕ} (O : OpenSays L old d N 0 p) where
  opened : Fresh L d N p
  opened = fresh (accepted-opening O)

  of_the_screen : Allowed d
  of_the_screen = (accepted-opening O).allowed

  module _ {h : List Entry} {q : List ℕ} (b : BinIn p h q) (t : ℕ) (ht : t < tiles d) where
    -- a bin found a sound pool, and left one
    found_sound : StaysSound p b.found
    found_sound = run_stays p b.earlier b.found opened.sound b.ran_earlier

    left_sound : StaysSound p b.left
    left_sound = run_stays p (b.bin ∷ b.earlier) b.left opened.sound (b.found, b.ran_earlier, b.step)

    -- what an accepted bin appended is told by its shape's cover of the tile
    gains : (r : Cover) × CoverSays r b.shape (rectangle d t) × (list_in b.left t ≡ list_in b.found t ++ gained r b.id)
    gains =
        let is : screen_of b.found ≡ d = found_sound.screen ∙ opened.screen in
        let k : Becomes (screen_of b.found) t (effect_of b.bin) (list_in b.found t) (list_in b.left t)
        = step_becomes b.found b.bin b.left found_sound.sound b.step t (subst (λ (x : Screen). t < tiles x) (sym is) ht) in
        rw (is, b.accepted) at k

    stands : NotReleased t b.after → (r : Cover) → CoverSays r b.shape (rectangle d t) → r ≢ Apart → EntryStands b t (is_whole r)
    stands n r c ne =
        let same : gains.0 ≡ r = one_cover b.shape (tile_proper d of_the_screen t ht) gains.0 r gains.1 c in
        let ht' : t < tiles_of b.left = subst (λ (x : Screen). t < tiles x) (sym (left_sound.screen ∙ opened.screen)) ht in
        let entry : gained gains.0 b.id ≡ flagged b.id (is_whole r) ∷ [] = ap (λ (s : Cover). gained s b.id) same ∙ one_entry r b.id ne in
        record {
          put = gains.2 ∙ ap (λ (xs : List ℕ). list_in b.found t ++ xs) entry;
          unreleased = n;
          grown = run_grows b.left left_sound.sound t ht' b.after q b.ran_after n;
        }

    tells : (flag : Bool) → EntryStands b t flag → (r : Cover) → CoverSays r b.shape (rectangle d t) → (r ≢ Apart) × (flag ≡ is_whole r)
    tells flag st r c =
        let same : gains.0 ≡ r = one_cover b.shape (tile_proper d of_the_screen t ht) gains.0 r gains.1 c in
        rw same at (flag_of gains.0 b.id flag (front_cancels (list_in b.found t) _ _ (sym gains.2 ∙ st.put)))

pub entries_stay : EntriesStay
entries_stay L d N old p O h q r b t ht n s c ne = stands O b t ht n s c ne

pub entries_tell : EntriesTell
entries_tell L d N old p O h q r b t ht flag st s c = tells O b t ht flag st s c

-- an accepted bin has an id in range
accepted_call : (n : ℕ) (e : Effect) (shape : Shape) (id : ℕ) → accepted n e ≡ appends shape id → (n ≡ 0) × (e ≡ appends shape id)
accepted_call n e shape id h =
    ⊎_elim (λ (z : n ≡ 0). (z, sym (accepted_zero n e z) ∙ h))
    (λ (ne : n ≢ 0). let other : nothing ≡ appends shape id = sym (accepted_other n e ne) ∙ h in absurd (true≢false cc))
    (eq_or_ne n 0)

same_id : {s t : Shape} {i j : ℕ} → appends s i ≡ appends t j → i ≡ j
same_id e = cc

id_in_range : (p : List ℕ) (e : Entry) (q : List ℕ) → Sound (layout_of p) p → Step p e q → (shape : Shape) (id : ℕ) → effect_of e ≡ appends shape id
    → id < id_limit
id_in_range p (binned s i a) q S k shape id e =
    let n = accepted_call a.number (appends s i) shape id e in
    subst (λ (x : ℕ). x < id_limit) (same_id n.1) ((demand_2_bin S k).done.0 n.0).0.id<
id_in_range p (binned_pixels s i a) q S k shape id e =
    let n = accepted_call a.number (appends_snapped (shape_of s) i) shape id e in
    let d = (demand_2_pixels S k).done.0 n.0 in
    subst (λ (x : ℕ). x < id_limit) (same_id (ap (λ (w : Result Shape Refusal). appends_snapped w i) (sym d.1) ∙ n.1)) d.2.0.id<
id_in_range p (found tile place a) q S k shape id e = absurd (true≢false cc)
id_in_range p (released tile a) q S k shape id e = let n = (accepted_call a.number (empties tile) shape id e).1 in absurd (true≢false cc)

pub entries_are_read : EntriesAreRead
entries_are_read L d N old p O h q r b t ht flag st a R =
    let K = run_stays p (spelled p h q r) q (opened O).sound (spelled_is_a_run p h q r) in
    let xs : List ℕ = list_in b.found t in
    let x : ℕ = flagged b.id flag in
    let ys : List ℕ = st.grown.0 in
    let list : list_in q t ≡ xs ++ (x ∷ ys) = st.grown.1 ∙ ap (λ (zs : List ℕ). zs ++ ys) st.put ∙ append_assoc xs (x ∷ []) ys in
    told_behind K.sound t (subst (λ (e : Screen). t < tiles e) (sym (K.screen ∙ (opened O).screen)) ht) xs b.id flag ys
    (id_in_range b.found b.bin b.left (found_sound O b t ht).sound b.step b.shape b.id b.accepted) list a R

-- ---- the entries of two bins

-- of two bins of a history, the calls after the later one are the first of those after the earlier one, the latest call first
part-kept : (t : ℕ) (xs ys us vs : List Entry) → xs ++ us ≡ ys ++ vs → length ys ≤ length xs → NotReleased t xs → NotReleased t ys
part-kept t xs [] us vs e l n = tt
part-kept t [] (y ∷ ys) us vs e l n = absurd (omega arith)
part-kept t (x ∷ xs) (y ∷ ys) us vs e l n =
    let head : x ≡ y = cc in
    let rest : xs ++ us ≡ ys ++ vs = cc in
    let short : length ys ≤ length xs = omega arith in
    (subst (λ (z : Entry). effect_of z ≢ empties t) head n.0, part-kept t xs ys us vs rest short n.1)

-- the longer one of two is the second, or the first is longer
by_length : {A : Type 0} (P : List Entry → Type 0) (xs ys zs us : List Entry) → P (cond (leb (length xs) (length ys)) zs us)
    → (P zs → A) → (length ys ≤ length xs → P us → A) → A
by_length {A} P xs ys zs us h second first = go (leb (length xs) (length ys)) (says_le (length xs) (length ys)) h
  where
    go : (c : Bool) → Says c (length xs ≤ length ys) → P (cond c zs us) → A
    go true s k = second k
    go false s k = first (omega (arith, s.no refl)) k

since_second : {p : List ℕ} {h : List Entry} {q : List ℕ} (a b : BinIn p h q) (t : ℕ) → NotReleased t (since_earlier a b) → NotReleased t b.after
since_second a b t n =
    by_length (NotReleased t) a.after b.after _ _ n (λ k. k) (λ l k. part-kept t a.after b.after _ _ (sym a.history ∙ b.history) l k)

pub inner_with_outer : InnerWithOuter
inner_with_outer L d N old p O h q r inner outer i t ht n flag st =
    let a = gains O inner t ht in
    let b = gains O outer t ht in
    let f = tells O inner t ht flag st a.0 a.1 in
    let m = covers_more inner.shape outer.shape i (tile_proper d (of_the_screen O) t ht) a.0 b.0 a.1 b.1 f.0 in
    (is_whole b.0, stands O outer t ht (since_second inner outer t n) b.0 b.1 m.0, λ z. m.1 (sym f.1 ∙ z))

-- ---- the question

abbrev number : Nested → ℕ
number a = a.number

abbrev yes_or_no : Nested → Bool
yes_or_no a = a.inside

module _ {first second : List ℤ} where
  pub demand_1_inside : {a : Nested} → InsideSays first second a → Demand1Inside a
  demand_1_inside (bad_list n e) = record { number_is = inr (inl (ap number e)); refused = λ _. ap yes_or_no e }
  demand_1_inside (out_of_range o p n e) = record { number_is = inr (inr (inl (ap number e))); refused = λ _. ap yes_or_no e }
  demand_1_inside (done o p r s t h e) = record { number_is = inl (ap number e); refused = λ ne. absurd (ne (ap number e)) }

  pub inside_one_outcome : {a b : Nested} → InsideSays first second a → InsideSays first second b → a ≡ b
  inside_one_outcome (bad_list n e) (bad_list n' e') = cc
  inside_one_outcome (bad_list n e) (out_of_range o' p' n' e') = absurd (n (o', p'))
  inside_one_outcome (bad_list n e) (done o' p' r' s' t' h' e') = absurd (n (o', p'))
  inside_one_outcome (out_of_range o p n e) (bad_list n' e') = absurd (n' (o, p))
  inside_one_outcome (out_of_range o p n e) (out_of_range o' p' n' e') = cc
  inside_one_outcome (out_of_range o p n e) (done o' p' r' s' t' h' e') = absurd (n (r', s'))
  inside_one_outcome (done o p r s t h e) (bad_list n' e') = absurd (n' (o, p))
  inside_one_outcome (done o p r s t h e) (out_of_range o' p' n' e') = absurd (n' (r, s))
  inside_one_outcome (done o p r s t h e) (done o' p' r' s' t' h' e') = let same = says_once h h' in cc
