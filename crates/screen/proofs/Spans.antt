-- The contract of `meeting` settles which tiles a span has, and so the span itself where it has one; where it has none, any empty span will do.
use mathlib.Core.Path.{◌≡◌}
use Prim.Native.Nat.{ℕ, ◌-◌, ◌≤◌}
use native.Mathlib.Omega.{arith}
use lib.IntN.{ℤ}
use Rattle.screen.specs.declared.Span.{Span}
use Rattle.screen.specs.Rectangle.{In, Meeting}

module _ {extent s : ℕ} {low high : ℤ} where
  pub spans_agree : {a b : Span} → Meeting extent s low high a → Meeting extent s low high b → (k : ℕ) → In a k → In b k
  spans_agree m n k i = let w = m.within in let h = i.before in n.whole k (omega arith) (m.sound k i)

  -- the first and the last tile of one span are tiles of the other
  reaches : {a b : Span} → Meeting extent s low high a → Meeting extent s low high b → (k : ℕ) → In a k → (b.start ≤ a.start) × (a.end ≤ b.end)
  reaches {a} {b} m n k i =
      let f = i.from in
      let h = i.before in
      let first = spans_agree m n a.start (record { from = omega arith; before = omega arith }) in
      let last = spans_agree m n (a.end - 1) (record { from = omega arith; before = omega arith }) in
      let p = first.from in
      let q = last.before in
      (p, omega arith)

  pub spans_equal : {a b : Span} → Meeting extent s low high a → Meeting extent s low high b → (k : ℕ) → In a k → a ≡ b
  spans_equal {a} {b} m n k i =
      let p = reaches m n k i in
      let q = reaches n m k (spans_agree m n k i) in
      let starts : a.start ≡ b.start = omega arith in
      let ends : a.end ≡ b.end = omega arith in
      (λ i. record { start = starts i; end = ends i })
