-- The least and the greatest of an edge's values at four corners decide as the four values do.
use mathlib.Core.Path.{refl}
use mathlib.Core.Bool.{Bool, true, false, cond}
use mathlib.Core.Logic.{◌↔◌, ⊎_elim}
use native.Mathlib.Omega.{arith}
use lib.IntN.{ℤ, pos, ◌-ℤ◌, ◌*ℤ◌}
use lib.Signed.{◌≤ℤ◌, ◌<ℤ◌, le_z}
use Rattle.numbers.specs.Says.{Says}
use Rattle.numbers.proofs.Diff.{diff_pos, diff_any, diff_sub, diff_le, diff_lt, le_diff, lt_diff, ≤ℤ_trans, <ℤ-≤ℤ, ≤ℤ_or-<}
use Rattle.numbers.proofs.Deciding.{says_leℤ}
use Rattle.touch.specs.declared.RowEdge.{RowEdge}
use Rattle.touch.specs.Corner.{lesser, greater}
use Rattle.touch.specs.Corner.Apart.{above, below}
use Rattle.touch.specs.Edges.{ApartAt}
use Rattle.touch.specs.Inner.{OnSide, AllOnSide, corners_at, ends_at, Outer, Inner}
use Rattle.touch.proofs.Points.{≤ℤ_refl}

-- ---- the lesser and the greater of two

not_le : {x y : ℤ} → (x ≤ℤ y → ⊥) → y ≤ℤ x
not_le {x} {y} n = ⊎_elim (λ (h : x ≤ℤ y). absurd (n h)) (λ (h : y <ℤ x). <ℤ-≤ℤ h) (≤ℤ_or-< x y)

module _ (x y : ℤ) where
  by_test : (b : Bool) → Says b (x ≤ℤ y) → ((cond b x y ≤ℤ x) × (cond b x y ≤ℤ y)) × ((x ≤ℤ cond b y x) × (y ≤ℤ cond b y x))
  by_test true s = let h = s.yes refl in ((≤ℤ_refl x, h), (h, ≤ℤ_refl y))
  by_test false s = let h = not_le (s.no refl) in ((h, ≤ℤ_refl y), (≤ℤ_refl x, h))

  between : ((lesser x y ≤ℤ x) × (lesser x y ≤ℤ y)) × ((x ≤ℤ greater x y) × (y ≤ℤ greater x y))
  between = by_test (le_z x y) (says_leℤ x y)

sub_le : {x y u v : ℤ} → x ≤ℤ y → v ≤ℤ u → (x -ℤ u) ≤ℤ (y -ℤ v)
sub_le {x} {y} {u} {v} h k =
    let p = le_diff (diff_any x) (diff_any y) h in
    let q = le_diff (diff_any v) (diff_any u) k in
    diff_le (diff_sub (diff_any x) (diff_any u)) (diff_sub (diff_any y) (diff_any v)) (omega arith)

-- ---- of two columns n and f, and two rows u and l

module _ (P : ℤ → Type 0) (n f u l : ℤ) where
  abbrev All : Type 0
  All = (P (n -ℤ u) × P (f -ℤ u)) × (P (n -ℤ l) × P (f -ℤ l))

  least_by : (b c : Bool) → All → P (cond b n f -ℤ cond c l u)
  least_by true true h = h.1.0
  least_by true false h = h.0.0
  least_by false true h = h.1.1
  least_by false false h = h.0.1

  greatest_by : (b c : Bool) → All → P (cond b f n -ℤ cond c u l)
  greatest_by true true h = h.0.1
  greatest_by true false h = h.1.1
  greatest_by false true h = h.0.0
  greatest_by false false h = h.1.0

  -- what holds of all greater values holds of all four exactly if of the least
  least_all : ((x y : ℤ) → x ≤ℤ y → P x → P y) → P (lesser n f -ℤ greater u l) ↔ All
  least_all up =
      let c = (between n f).0 in
      let r = (between u l).1 in (
        (λ h. ((up _ _ (sub_le c.0 r.0) h, up _ _ (sub_le c.1 r.0) h), (up _ _ (sub_le c.0 r.1) h, up _ _ (sub_le c.1 r.1) h))),
        least_by (le_z n f) (le_z u l),
      )

  -- and what holds of all lesser values, exactly if of the greatest
  greatest_all : ((x y : ℤ) → x ≤ℤ y → P y → P x) → P (greater n f -ℤ lesser u l) ↔ All
  greatest_all down =
      let c = (between n f).1 in
      let r = (between u l).0 in (
        (λ h. ((down _ _ (sub_le c.0 r.0) h, down _ _ (sub_le c.1 r.0) h), (down _ _ (sub_le c.0 r.1) h, down _ _ (sub_le c.1 r.1) h))),
        greatest_by (le_z n f) (le_z u l),
      )

-- ---- above and below 0

<ℤ-≤ℤ_trans : {x y z : ℤ} → x <ℤ y → y ≤ℤ z → x <ℤ z
<ℤ-≤ℤ_trans {x} {y} {z} h k =
    let p = lt_diff (diff_any x) (diff_any y) h in
    let q = le_diff (diff_any y) (diff_any z) k in
    diff_lt (diff_any x) (diff_any z) (omega arith)

pub ≤ℤ-<ℤ_trans : {x y z : ℤ} → x ≤ℤ y → y <ℤ z → x <ℤ z
≤ℤ-<ℤ_trans {x} {y} {z} h k =
    let p = le_diff (diff_any x) (diff_any y) h in
    let q = lt_diff (diff_any y) (diff_any z) k in
    diff_lt (diff_any x) (diff_any z) (omega arith)

-- ---- where one value lies on the third vertex's side, that is the same side for all

both_sides : {third : ℤ} → pos 0 <ℤ third → third <ℤ pos 0 → ⊥
both_sides {third} h k =
    let p = lt_diff (diff_pos 0) (diff_any third) h in
    let q = lt_diff (diff_any third) (diff_pos 0) k in
    omega arith

pub over_side : {third v : ℤ} → pos 0 <ℤ third → OnSide third v → pos 0 ≤ℤ v
over_side h (OnSide.over z p) = p
over_side h (OnSide.under z p) = absurd (both_sides h z)

pub under_side : {third v : ℤ} → third <ℤ pos 0 → OnSide third v → v ≤ℤ pos 0
under_side h (OnSide.over z p) = absurd (both_sides z h)
under_side h (OnSide.under z p) = p

-- ---- an edge in a row

module _ (e : RowEdge) (left right : ℤ) where
  abbrev n : ℤ
  n = (left -ℤ e.x) *ℤ e.dy

  abbrev f : ℤ
  f = (right -ℤ e.x) *ℤ e.dy

  positive : (pos 0 <ℤ (ends_at e left right).least) ↔ All (λ z. pos 0 <ℤ z) n f e.upper e.lower
  positive = least_all (λ z. pos 0 <ℤ z) n f e.upper e.lower (λ x y h k. <ℤ-≤ℤ_trans k h)

  negative : ((ends_at e left right).greatest <ℤ pos 0) ↔ All (λ z. z <ℤ pos 0) n f e.upper e.lower
  negative = greatest_all (λ z. z <ℤ pos 0) n f e.upper e.lower (λ x y h k. ≤ℤ-<ℤ_trans h k)

  not_negative : (pos 0 ≤ℤ (ends_at e left right).least) ↔ All (λ z. pos 0 ≤ℤ z) n f e.upper e.lower
  not_negative = least_all (λ z. pos 0 ≤ℤ z) n f e.upper e.lower (λ x y h k. ≤ℤ_trans k h)

  not_positive : ((ends_at e left right).greatest ≤ℤ pos 0) ↔ All (λ z. z ≤ℤ pos 0) n f e.upper e.lower
  not_positive = greatest_all (λ z. z ≤ℤ pos 0) n f e.upper e.lower (λ x y h k. ≤ℤ_trans h k)

  outer-apart : Outer e.third (ends_at e left right) → ApartAt e left right
  outer-apart (Outer.all_above t h) = let k = positive.0 h in above t k.0.0 k.0.1 k.1.0 k.1.1
  outer-apart (Outer.all_below t h) = let k = negative.0 h in below t k.0.0 k.0.1 k.1.0 k.1.1

  apart-outer : ApartAt e left right → Outer e.third (ends_at e left right)
  apart-outer (above t a b c d) = Outer.all_above t (positive.1 ((a, b), (c, d)))
  apart-outer (below t a b c d) = Outer.all_below t (negative.1 ((a, b), (c, d)))

  pub outer_is_apart : Outer e.third (ends_at e left right) ↔ ApartAt e left right
  outer_is_apart = (outer-apart, apart-outer)

  inner_on_side : Inner e.third (ends_at e left right) → AllOnSide e.third (corners_at e left right)
  inner_on_side (Inner.none_below t h) =
      let k = not_negative.0 h in
      record { p = OnSide.over t k.0.0; q = OnSide.over t k.0.1; r = OnSide.over t k.1.0; s = OnSide.over t k.1.1 }
  inner_on_side (Inner.none_above t h) =
      let k = not_positive.0 h in
      record { p = OnSide.under t k.0.0; q = OnSide.under t k.0.1; r = OnSide.under t k.1.0; s = OnSide.under t k.1.1 }

  on_side_inner : AllOnSide e.third (corners_at e left right) → Inner e.third (ends_at e left right)
  on_side_inner h = go h.p
    where
      go : OnSide e.third (corners_at e left right).p → Inner e.third (ends_at e left right)
      go (OnSide.over t k) = Inner.none_below t (not_negative.1 ((k, over_side t h.q), (over_side t h.r, over_side t h.s)))
      go (OnSide.under t k) = Inner.none_above t (not_positive.1 ((k, under_side t h.q), (under_side t h.r, under_side t h.s)))

  pub inner_is_on_side : Inner e.third (ends_at e left right) ↔ AllOnSide e.third (corners_at e left right)
  inner_is_on_side = (inner_on_side, on_side_inner)
