-- The rectangles of a row that a shape touches stand side by side, and so do those of a column.
use Prim.Native.Nat.{ℕ, ◌+◌, ◌≤◌, ◌<◌}
use mathlib.Core.List.{[], ◌∷◌}
use native.Mathlib.Omega.{arith}
use lib.IntN.{ℤ}
use lib.Signed.{◌≤ℤ◌}
use Rattle.screen.specs.declared.Rectangle.{Rectangle}
use Rattle.screen.specs.declared.Screen.{Screen}
use Rattle.screen.specs.Screen.{Allowed, columns, rows}
use Rattle.screen.specs.Rectangle.{rectangle_at}
use Rattle.screen.proofs.Laws.{near_rises, far_rises, near-far}
use Rattle.shape.specs.declared.Shape.{Shape}
use Rattle.touch.specs.Touches.{Touches}
use Rattle.touch.specs.Corner.{three}
use Rattle.touch.proofs.Natural.{Frame, Hits}
use Rattle.touch.proofs.Bias.{Framed, depth, depth_of, spot, frame, spotted, framed, le_lifted, to_hits, from_hits}
use Rattle.touch.proofs.Between.{widen, between_x, between_y}
use Rattle.touch.proofs.Weights.{touches_as_triangle}

abbrev from_to : (left right top bottom : ℤ) → Rectangle
from_to l r t b = record { left = l; right = r; top = t; bottom = b }

-- under one number that makes the shape and three rectangles natural
module _ (shape : Shape) (p q r : Rectangle) where
  abbrev k : ℕ
  k = depth (three shape).a + depth (three shape).b + depth (three shape).c + depth_of p + depth_of q + depth_of r

  abbrev HitsIn : Frame → Type 0
  HitsIn T = Hits (spot k (three shape).a) (spot k (three shape).b) (spot k (three shape).c) T

  to : (s : Rectangle) → depth_of s ≤ k → Touches shape s → HitsIn (frame k s)
  to s d h =
      let g = (touches_as_triangle shape).0 h in
      to_hits k (framed k s d) (spotted k (three shape).a (omega arith)) (spotted k (three shape).b (omega arith))
      (spotted k (three shape).c (omega arith)) g.weights g.mean

  from : (s : Rectangle) → depth_of s ≤ k → HitsIn (frame k s) → Touches shape s
  from s d h =
      (touches_as_triangle shape).1
      (record {
        weights = h.u ∷ h.v ∷ h.w ∷ [];
        mean =
            from_hits k (framed k s d) (spotted k (three shape).a (omega arith)) (spotted k (three shape).b (omega arith))
            (spotted k (three shape).c (omega arith)) h;
      })

-- of three rectangles from top to bottom, the second reaches as far right as the first and starts as far left as the third
pub row_has_no_gap : (shape : Shape) {l₁ r₁ l₂ r₂ l₃ r₃ top bottom : ℤ} → l₂ ≤ℤ r₂ → r₁ ≤ℤ r₂ → l₂ ≤ℤ l₃
    → Touches shape (from_to l₁ r₁ top bottom) → Touches shape (from_to l₃ r₃ top bottom) → Touches shape (from_to l₂ r₂ top bottom)
row_has_no_gap shape {l₁} {r₁} {l₂} {r₂} {l₃} {r₃} {top = t} {bottom = b} wide rises starts f g =
    let p : Rectangle = from_to l₁ r₁ t b in
    let q : Rectangle = from_to l₂ r₂ t b in
    let r : Rectangle = from_to l₃ r₃ t b in
    let n : ℕ = k shape p q r in
    let P : Framed n p (frame n p) = framed n p (omega arith) in
    let Q : Framed n q (frame n q) = framed n q (omega arith) in
    let R : Framed n r (frame n r) = framed n r (omega arith) in
    from shape p q r q (omega arith)
    (between_x _ _ _ (frame n q).l (frame n q).r (frame n p).l (frame n r).r (frame n q).t (frame n q).b ((le_lifted n Q.al Q.ar).0 wide)
    (widen _ _ _ (frame n r) _ ((le_lifted n Q.al R.al).0 starts) (omega arith) (omega arith) (omega arith) (to shape p q r r (omega arith) g))
    (widen _ _ _ (frame n p) _ (omega arith) ((le_lifted n P.ar Q.ar).0 rises) (omega arith) (omega arith) (to shape p q r p (omega arith) f)))

pub column_has_no_gap : (shape : Shape) {t₁ b₁ t₂ b₂ t₃ b₃ left right : ℤ} → t₂ ≤ℤ b₂ → b₁ ≤ℤ b₂ → t₂ ≤ℤ t₃
    → Touches shape (from_to left right t₁ b₁) → Touches shape (from_to left right t₃ b₃) → Touches shape (from_to left right t₂ b₂)
column_has_no_gap shape {t₁} {b₁} {t₂} {b₂} {t₃} {b₃} {left = l} {right = m} high rises starts f g =
    let p : Rectangle = from_to l m t₁ b₁ in
    let q : Rectangle = from_to l m t₂ b₂ in
    let r : Rectangle = from_to l m t₃ b₃ in
    let n : ℕ = k shape p q r in
    let P : Framed n p (frame n p) = framed n p (omega arith) in
    let Q : Framed n q (frame n q) = framed n q (omega arith) in
    let R : Framed n r (frame n r) = framed n r (omega arith) in
    from shape p q r q (omega arith)
    (between_y _ _ _ (frame n q).l (frame n q).r (frame n q).t (frame n q).b (frame n p).t (frame n r).b ((le_lifted n Q.at Q.ab).0 high)
    (widen _ _ _ (frame n r) _ (omega arith) (omega arith) ((le_lifted n Q.at R.at).0 starts) (omega arith) (to shape p q r r (omega arith) g))
    (widen _ _ _ (frame n p) _ (omega arith) (omega arith) (omega arith) ((le_lifted n P.ab Q.ab).0 rises) (to shape p q r p (omega arith) f)))

-- ---- the tiles of a screen

module _ (d : Screen) (ok : Allowed d) (shape : Shape) where
  pub row_of_tiles_has_no_gap : (row : ℕ) {c₁ c₂ c₃ : ℕ} → c₁ ≤ c₂ → c₂ ≤ c₃ → c₃ < columns d
      → Touches shape (rectangle_at d c₁ row) → Touches shape (rectangle_at d c₃ row) → Touches shape (rectangle_at d c₂ row)
  row_of_tiles_has_no_gap row {c₁} {c₂} {c₃} i j l =
      row_has_no_gap shape (near-far d.width d.s ok.width≤ ok.s≥ ok.s≤ (omega arith)) (far_rises d.width d.s i)
      (near_rises d.width d.s j)

  pub column_of_tiles_has_no_gap : (column : ℕ) {r₁ r₂ r₃ : ℕ} → r₁ ≤ r₂ → r₂ ≤ r₃ → r₃ < rows d
      → Touches shape (rectangle_at d column r₁) → Touches shape (rectangle_at d column r₃) → Touches shape (rectangle_at d column r₂)
  column_of_tiles_has_no_gap column {r₁} {r₂} {r₃} i j l =
      column_has_no_gap shape (near-far d.height d.s ok.height≤ ok.s≥ ok.s≤ (omega arith)) (far_rises d.height d.s i)
      (near_rises d.height d.s j)
