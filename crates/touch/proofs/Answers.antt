-- Answers that are put together from others, and the corner test as a function to Bool, which answers as `Touches` does.
use mathlib.Core.Path.{◌≡◌, refl, sym, subst}
use mathlib.Core.Bool.{Bool, true, false, not, ◌&&◌, ◌||◌}
use mathlib.Core.Logic.{◌⊎◌, inl, inr, ⊎_elim}
use lib.IntN.{ℤ, pos}
use lib.Signed.{◌≤ℤ◌, ◌<ℤ◌, le_z, lt_z}
use Rattle.numbers.specs.Says.{Says}
use Rattle.numbers.proofs.Says.{says_yes, says_no, says_iff, says_and, says_not}
use Rattle.numbers.proofs.Deciding.{says_leℤ, says_ltℤ}
use Rattle.screen.specs.declared.Rectangle.{Rectangle}
use Rattle.screen.specs.Rectangle.{Proper, HasArea}
use Rattle.shape.specs.declared.Vertex.{Vertex}
use Rattle.shape.specs.declared.Shape.{Shape}
use Rattle.touch.specs.declared.Bounds.{Bounds}
use Rattle.touch.specs.declared.Corners.{Corners}
use Rattle.touch.specs.declared.Ends.{Ends}
use Rattle.touch.specs.declared.RowEdges.{RowEdges}
use Rattle.touch.specs.Touches.{Touches}
use Rattle.touch.specs.Corner.{three, bounds, Overlap, edge_value, Apart, Separates}
use Rattle.touch.specs.Corner.Apart.{above, below}
use Rattle.touch.specs.Edges.{Clear}
use Rattle.touch.specs.Cover.{Wholly}
use Rattle.touch.specs.Inner.{OnSide, AllOnSide, corners_of, Keeps, corners_at, EnclosedAt, CoverAt, Outer, Inner}
use Rattle.touch.specs.Look.{whole_or_part}
use Rattle.touch.specs.Inner.OnSide.{over, under}
use Rattle.touch.proofs.Theorem.{corner_is_touching}
use Rattle.touch.proofs.Covering.{enclosed_is_wholly}
use Rattle.touch.proofs.Extremes.{over_side, under_side}

pub says_same : {P : Type 0} {r s : Bool} → r ≡ s → Says s P → Says r P
says_same {P} e h = subst (λ (t : Bool). Says t P) (sym e) h

-- one of two answers says whether either holds
pub says_or : {P Q : Type 0} {r s : Bool} → Says r P → Says s Q → Says (r || s) (P ⊎ Q)
says_or {r = true} {s} h k = says_yes (inl (h.yes refl))
says_or {r = false} {s = true} h k = says_yes (inr (k.yes refl))
says_or {r = false} {s = false} h k = says_no (⊎_elim (h.no refl) (k.no refl))

-- ---- the box

abbrev pub overlap : Bounds → Rectangle → Bool
overlap p q = (le_z q.left p.right && le_z p.left q.right) && (le_z q.top p.bottom && le_z p.top q.bottom)

pub overlap_says : (p : Bounds) (q : Rectangle) → Says (overlap p q) (Overlap p q)
overlap_says p q =
    says_iff
    (λ h. record { left = h.0.0; right = h.0.1; top = h.1.0; bottom = h.1.1 })
    (λ h. ((h.left, h.right), (h.top, h.bottom)))
    (says_and
    (says_and (says_leℤ q.left p.right) (says_leℤ p.left q.right))
    (says_and (says_leℤ q.top p.bottom) (says_leℤ p.top q.bottom)))

-- ---- one edge

abbrev pub apart : (third p q r s : ℤ) → Bool
apart third p q r s =
    (le_z third (pos 0) && ((lt_z (pos 0) p && lt_z (pos 0) q) && (lt_z (pos 0) r && lt_z (pos 0) s)))
    || (le_z (pos 0) third && ((lt_z p (pos 0) && lt_z q (pos 0)) && (lt_z r (pos 0) && lt_z s (pos 0))))

module _ (third p q r s : ℤ) where
  abbrev Above : Type 0
  Above = (third ≤ℤ pos 0) × (((pos 0 <ℤ p) × (pos 0 <ℤ q)) × ((pos 0 <ℤ r) × (pos 0 <ℤ s)))

  abbrev Below : Type 0
  Below = (pos 0 ≤ℤ third) × (((p <ℤ pos 0) × (q <ℤ pos 0)) × ((r <ℤ pos 0) × (s <ℤ pos 0)))

  made : Above ⊎ Below → Apart third p q r s
  made =
      ⊎_elim
      (λ h. above h.0 h.1.0.0 h.1.0.1 h.1.1.0 h.1.1.1)
      (λ h. below h.0 h.1.0.0 h.1.0.1 h.1.1.0 h.1.1.1)

  parted : Apart third p q r s → Above ⊎ Below
  parted (above z a b c d) = inl (z, ((a, b), (c, d)))
  parted (below z a b c d) = inr (z, ((a, b), (c, d)))

  pub apart_says : Says (apart third p q r s) (Apart third p q r s)
  apart_says =
      says_iff made parted
      (says_or
      (says_and (says_leℤ third (pos 0))
      (says_and (says_and (says_ltℤ (pos 0) p) (says_ltℤ (pos 0) q)) (says_and (says_ltℤ (pos 0) r) (says_ltℤ (pos 0) s))))
      (says_and (says_leℤ (pos 0) third)
      (says_and (says_and (says_ltℤ p (pos 0)) (says_ltℤ q (pos 0))) (says_and (says_ltℤ r (pos 0)) (says_ltℤ s (pos 0))))))

-- ---- one edge, for covering

abbrev pub on_side : ℤ → Corners → Bool
on_side third v =
    (lt_z (pos 0) third && ((le_z (pos 0) v.p && le_z (pos 0) v.q) && (le_z (pos 0) v.r && le_z (pos 0) v.s)))
    || (lt_z third (pos 0) && ((le_z v.p (pos 0) && le_z v.q (pos 0)) && (le_z v.r (pos 0) && le_z v.s (pos 0))))

module _ (third : ℤ) (v : Corners) where
  abbrev Over : Type 0
  Over = (pos 0 <ℤ third) × (((pos 0 ≤ℤ v.p) × (pos 0 ≤ℤ v.q)) × ((pos 0 ≤ℤ v.r) × (pos 0 ≤ℤ v.s)))

  abbrev Under : Type 0
  Under = (third <ℤ pos 0) × (((v.p ≤ℤ pos 0) × (v.q ≤ℤ pos 0)) × ((v.r ≤ℤ pos 0) × (v.s ≤ℤ pos 0)))

  all_on_side : Over ⊎ Under → AllOnSide third v
  all_on_side =
      ⊎_elim
      (λ h. record { p = over h.0 h.1.0.0; q = over h.0 h.1.0.1; r = over h.0 h.1.1.0; s = over h.0 h.1.1.1 })
      (λ h. record { p = under h.0 h.1.0.0; q = under h.0 h.1.0.1; r = under h.0 h.1.1.0; s = under h.0 h.1.1.1 })

  one_side : AllOnSide third v → OnSide third v.p → Over ⊎ Under
  one_side h (over z p) = inl (z, ((p, over_side z h.q), (over_side z h.r, over_side z h.s)))
  one_side h (under z p) = inr (z, ((p, under_side z h.q), (under_side z h.r, under_side z h.s)))

  pub on_side_says : Says (on_side third v) (AllOnSide third v)
  on_side_says =
      says_iff all_on_side (λ h. one_side h h.p)
      (says_or
      (says_and (says_ltℤ (pos 0) third)
      (says_and (says_and (says_leℤ (pos 0) v.p) (says_leℤ (pos 0) v.q)) (says_and (says_leℤ (pos 0) v.r) (says_leℤ (pos 0) v.s))))
      (says_and (says_ltℤ third (pos 0))
      (says_and (says_and (says_leℤ v.p (pos 0)) (says_leℤ v.q (pos 0))) (says_and (says_leℤ v.r (pos 0)) (says_leℤ v.s (pos 0))))))

-- ---- the tests of the code, by the least and the greatest value

module _ (third : ℤ) (v : Ends) where
  abbrev pub outer : Bool
  outer = (le_z third (pos 0) && lt_z (pos 0) v.least) || (le_z (pos 0) third && lt_z v.greatest (pos 0))

  outer_of : ((third ≤ℤ pos 0) × (pos 0 <ℤ v.least)) ⊎ ((pos 0 ≤ℤ third) × (v.greatest <ℤ pos 0)) → Outer third v
  outer_of (inl h) = Outer.all_above h.0 h.1
  outer_of (inr h) = Outer.all_below h.0 h.1

  of_outer : Outer third v → ((third ≤ℤ pos 0) × (pos 0 <ℤ v.least)) ⊎ ((pos 0 ≤ℤ third) × (v.greatest <ℤ pos 0))
  of_outer (Outer.all_above t h) = inl (t, h)
  of_outer (Outer.all_below t h) = inr (t, h)

  pub outer_says : Says outer (Outer third v)
  outer_says =
      says_iff outer_of of_outer
      (says_or (says_and (says_leℤ third (pos 0)) (says_ltℤ (pos 0) v.least)) (says_and (says_leℤ (pos 0) third) (says_ltℤ v.greatest (pos 0))))

  abbrev pub inner : Bool
  inner = (lt_z (pos 0) third && le_z (pos 0) v.least) || (lt_z third (pos 0) && le_z v.greatest (pos 0))

  inner_of : ((pos 0 <ℤ third) × (pos 0 ≤ℤ v.least)) ⊎ ((third <ℤ pos 0) × (v.greatest ≤ℤ pos 0)) → Inner third v
  inner_of (inl h) = Inner.none_below h.0 h.1
  inner_of (inr h) = Inner.none_above h.0 h.1

  of_inner : Inner third v → ((pos 0 <ℤ third) × (pos 0 ≤ℤ v.least)) ⊎ ((third <ℤ pos 0) × (v.greatest ≤ℤ pos 0))
  of_inner (Inner.none_below t h) = inl (t, h)
  of_inner (Inner.none_above t h) = inr (t, h)

  pub inner_says : Says inner (Inner third v)
  inner_says =
      says_iff inner_of of_inner
      (says_or (says_and (says_ltℤ (pos 0) third) (says_leℤ (pos 0) v.least)) (says_and (says_ltℤ third (pos 0)) (says_leℤ v.greatest (pos 0))))

-- ---- the corner test

abbrev separates : (a b c : Vertex) → Rectangle → Bool
separates a b c q =
    apart (edge_value a b c.x c.y)
    (edge_value a b q.left q.top)
    (edge_value a b q.right q.top)
    (edge_value a b q.left q.bottom)
    (edge_value a b q.right q.bottom)

separates_says : (a b c : Vertex) (q : Rectangle) → Says (separates a b c q) (Separates a b c q)
separates_says a b c q =
    apart_says (edge_value a b c.x c.y)
    (edge_value a b q.left q.top)
    (edge_value a b q.right q.top)
    (edge_value a b q.left q.bottom)
    (edge_value a b q.right q.bottom)

abbrev pub corner : Shape → Rectangle → Bool
corner shape q =
    overlap (bounds (three shape)) q
    && (not (separates (three shape).a (three shape).b (three shape).c q)
    && (not (separates (three shape).b (three shape).c (three shape).a q)
    && not (separates (three shape).c (three shape).a (three shape).b q)))

pub corner_says_touching : (shape : Shape) (q : Rectangle) → Proper q → Says (corner shape q) (Touches shape q)
corner_says_touching shape q ok =
    let a = (three shape).a in
    let b = (three shape).b in
    let c = (three shape).c in
    let e = corner_is_touching {shape = shape} ok in
    says_iff
    (λ h. e.0 (record { box = h.0; ab = h.1.0; bc = h.1.1.0; ca = h.1.1.1 }))
    (λ t. let h = e.1 t in (h.box, (h.ab, (h.bc, h.ca))))
    (says_and (overlap_says (bounds (three shape)) q)
    (says_and (says_not (separates_says a b c q)) (says_and (says_not (separates_says b c a q)) (says_not (separates_says c a b q)))))

-- ---- the test for covering

abbrev keeps : (a b c : Vertex) → Rectangle → Bool
keeps a b c q = on_side (edge_value a b c.x c.y) (corners_of a b q)

keeps_says : (a b c : Vertex) (q : Rectangle) → Says (keeps a b c q) (Keeps a b c q)
keeps_says a b c q = on_side_says (edge_value a b c.x c.y) (corners_of a b q)

abbrev pub enclosed : Shape → Rectangle → Bool
enclosed shape q =
    keeps (three shape).a (three shape).b (three shape).c q
    && (keeps (three shape).b (three shape).c (three shape).a q && keeps (three shape).c (three shape).a (three shape).b q)

pub enclosed_says_wholly : (shape : Shape) (q : Rectangle) → HasArea q → Says (enclosed shape q) (Wholly shape q)
enclosed_says_wholly shape q area =
    let a = (three shape).a in
    let b = (three shape).b in
    let c = (three shape).c in
    let e = enclosed_is_wholly shape area in
    says_iff (λ h. e.0 (record { ab = h.0; bc = h.1.0; ca = h.1.1 })) (λ w. let h = e.1 w in (h.ab, (h.bc, h.ca)))
    (says_and (keeps_says a b c q) (says_and (keeps_says b c a q) (keeps_says c a b q)))

-- ---- the edges in a row

-- all three have the corners on their inner side
pub enclosed_at : (e : RowEdges) (left right : ℤ) {r s t : Bool} → Says r (AllOnSide e.ab.third (corners_at e.ab left right))
    → Says s (AllOnSide e.bc.third (corners_at e.bc left right)) → Says t (AllOnSide e.ca.third (corners_at e.ca left right))
    → Says ((r && s) && t) (EnclosedAt e left right)
enclosed_at e left right ab bc ca =
    says_iff (λ h. record { ab = h.0.0; bc = h.0.1; ca = h.1 }) (λ h. ((h.ab, h.bc), h.ca)) (says_and (says_and ab bc) ca)

-- where no edge separates, it is wholly or partly as all edges enclose or not
pub says_whole_or_part : {e : RowEdges} {left right : ℤ} {w : Bool} → Says w (EnclosedAt e left right) → Clear e left right
    → CoverAt (whole_or_part w) e left right
says_whole_or_part {w = true} s k = s.yes refl
says_whole_or_part {w = false} s k = (k, s.no refl)
