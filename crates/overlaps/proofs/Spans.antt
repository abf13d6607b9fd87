-- The tiles that a bounding box meets are those of a span of columns in a span of rows: their number is the product.
use mathlib.Core.Path.{◌≡◌, refl, sym, ap, ◌∙◌}
use mathlib.Core.Bool.{Bool, true, false, ◌&&◌}
use Prim.Native.Nat.{ℕ, ◌+◌, ◌-◌, ◌*◌, ◌≤◌, ◌<◌}
use native.Mathlib.Omega.{arith}
use lib.Dec.{leb, ltb}
use Rattle.numbers.specs.Says.{Says}
use Rattle.numbers.specs.Sum.{sum_to, one}
use Rattle.numbers.proofs.Says.{says_iff, says_and, says_true}
use Rattle.numbers.proofs.Deciding.{says_le, says_lt}
use Rattle.numbers.proofs.Sum.{sum_to_same, sum_to_times, sum_to_rows}
use Rattle.screen.specs.declared.Screen.{Screen}
use Rattle.screen.specs.declared.Span.{Span}
use Rattle.screen.specs.Screen.{Allowed, columns, rows, tiles, column_of, row_of}
use Rattle.screen.specs.Rectangle.{rectangle, In}
use Rattle.screen.proofs.Laws.{column<, row<, column_is, row_is}
use Rattle.shape.specs.declared.Shape.{Shape}
use Rattle.touch.specs.Corner.{three, Box}
use Rattle.walk.specs.declared.Spans.{Spans}
use Rattle.walk.specs.Row.{MeetingBox}
use Rattle.overlaps.specs.HowMany.{TilesByBox}
use Rattle.overlaps.proofs.Counting.{rising-sum}

abbrev extent : Span → ℕ
extent span = span.end - span.start

abbrev in_span : Span → ℕ → Bool
in_span span k = leb span.start k && ltb k span.end

in_span_says : (span : Span) (k : ℕ) → Says (in_span span k) (In span k)
in_span_says span k =
    says_iff (λ h. record { from = h.0; before = h.1 }) (λ h. (h.from, h.before)) (says_and (says_le span.start k) (says_lt k span.end))

-- a span within n has its extent of the numbers below n
span_sum : (span : Span) (n : ℕ) → span.end ≤ n → sum_to n (λ k. one (in_span span k)) ≡ extent span
span_sum span n h =
    rising-sum (λ i. span.start + i) (extent span) n (in_span span)
    (record {
      rising = λ i j l u. omega arith;
      below = λ i l. omega arith;
      passes = λ i l. says_true (in_span_says span (span.start + i)) (record { from = omega arith; before = omega arith });
      all = λ t l e. let w = (in_span_says span t).yes e in let a = w.from in let b = w.before in (t - span.start, omega arith, omega arith);
    })

-- ---- a span of columns in a span of rows

one_and : (a b : Bool) → one (a && b) ≡ one b * one a
one_and true true = refl
one_and true false = refl
one_and false true = refl
one_and false false = refl

module _ (d : Screen) (a : Allowed d) (across down : Span) (a≤ : across.end ≤ columns d) (d≤ : down.end ≤ rows d) where
  abbrev test : ℕ → Bool
  test t = in_span across (column_of d t) && in_span down (row_of d t)

  abbrev C : ℕ
  C = columns d

  in_row : (r : ℕ) → sum_to C (λ c. one (test (C * r + c))) ≡ extent across * one (in_span down r)
  in_row r =
      sum_to_same C (λ c. one (test (C * r + c))) (λ c. one (in_span down r) * one (in_span across c))
      (λ c l.
      let e : C * r + c ≡ r * C + c = omega arith in
      ap (λ (t : ℕ). one (test t)) e
      ∙ (λ i. one (in_span across (column_is d a c r l i) && in_span down (row_is d a c r l i)))
      ∙ one_and (in_span across c) (in_span down r))
      ∙ sum_to_times C (one (in_span down r)) (λ c. one (in_span across c))
      ∙ ap (λ (n : ℕ). one (in_span down r) * n) (span_sum across C a≤)
      ∙ omega arith

  grid_sum : sum_to (tiles d) (λ t. one (test t)) ≡ extent across * extent down
  grid_sum =
      sum_to_rows C (rows d) (λ t. one (test t))
      ∙ sum_to_same (rows d) (λ r. sum_to C (λ c. one (test (C * r + c)))) (λ r. extent across * one (in_span down r)) (λ r l. in_row r)
      ∙ sum_to_times (rows d) (extent across) (λ r. one (in_span down r))
      ∙ ap (λ (n : ℕ). extent across * n) (span_sum down (rows d) d≤)

-- ---- the tiles that a box meets

module _ (d : Screen) (a : Allowed d) (shape : Shape) (spans : Spans) (m : MeetingBox d (three shape) spans) where
  abbrev x : Span
  x = spans.columns

  abbrev y : Span
  y = spans.rows

  meets_box : (t : ℕ) → t < tiles d → Says (test d a x y m.columns.within m.rows.within t) (Box shape (rectangle d t))
  meets_box t l =
      says_iff
      (λ h.
      let p = m.columns.sound (column_of d t) h.0 in
      let q = m.rows.sound (row_of d t) h.1 in
      record { left = p.from; right = p.to; top = q.from; bottom = q.to })
      (λ h. (
        m.columns.whole (column_of d t) (column< d a t) (record { from = h.left; to = h.right }),
        m.rows.whole (row_of d t) (row< d a t l) (record { from = h.top; to = h.bottom }),
      ))
      (says_and (in_span_says x (column_of d t)) (in_span_says y (row_of d t)))

  pub box_product : TilesByBox d shape ((x.end - x.start) * (y.end - y.start))
  box_product =
      record { test = test d a x y m.columns.within m.rows.within; says = meets_box; sum = sym (grid_sum d a x y m.columns.within m.rows.within) }
