-- What hits passes the corner test: a mean of the three is not where all four corners are, beyond an edge.
use Prim.Native.Nat.{ℕ, ◌+◌, ◌*◌, ◌<◌, ◌≤◌, min, max}
use mathlib.Core.Logic.{⊎_elim}
use native.Mathlib.Omega.{arith}
use native.Mathlib.Nat.{mul-le-mul_left, le_of_mul-le-mul_left}
use native.Mathlib.Decide.{dec_le}
use Rattle.touch.proofs.Natural.{Spot, Frame, Hits, Beyond, Out, Parts, Passes}
use Rattle.numbers.proofs.Product.{rearr}

-- a homogeneous point of the rectangle is above 0 on an edge on which all four corners are
rect : (A B : Spot) (T : Frame) (n x y : ℕ) → 0 < n → n * T.l ≤ x → x ≤ n * T.r → n * T.t ≤ y → y ≤ n * T.b
    → Beyond A B T
    → x * A.y + y * B.x + n * (B.y * A.x) < x * B.y + y * A.x + n * (A.y * B.x)
rect A B T n x y pos l r t b c = go (dec_le A.y B.y) (dec_le B.x A.x)
  where
    go : Dec (A.y ≤ B.y) → Dec (B.x ≤ A.x) → x * A.y + y * B.x + n * (B.y * A.x) < x * B.y + y * A.x + n * (A.y * B.x)
    go (yes p) (yes q) = omega (arith, mul-le-mul_left n c.lt, rearr _ _ _ _ l p, rearr _ _ _ _ t q)
    go (yes p) (no q) = omega (arith, mul-le-mul_left n c.lb, rearr _ _ _ _ l p, rearr _ _ A.x B.x b (omega arith))
    go (no p) (yes q) = omega (arith, mul-le-mul_left n c.rt, rearr _ _ B.y A.y r (omega arith), rearr _ _ _ _ t q)
    go (no p) (no q) = omega (arith, mul-le-mul_left n c.rb, rearr _ _ B.y A.y r (omega arith), rearr _ _ A.x B.x b (omega arith))

module _ (A B C : Spot) (T : Frame) where
  rotate : Hits A B C T → Hits B C A T
  rotate h = record { u = h.v; v = h.w; w = h.u; some = omega arith; left = omega arith; right = omega arith; top = omega arith; bottom = omega arith }

  swap : Hits A B C T → Hits B A C T
  swap h = record { u = h.v; v = h.u; w = h.w; some = omega arith; left = omega arith; right = omega arith; top = omega arith; bottom = omega arith }

  not_out : Hits A B C T → Out A B C T → ⊥
  not_out h o =
      omega (
        arith,
        rect A B T (h.u + h.v + h.w) (h.u * A.x + h.v * B.x + h.w * C.x) (h.u * A.y + h.v * B.y + h.w * C.y)
            h.some h.left h.right h.top h.bottom o.corners,
        mul-le-mul_left h.w o.third,
      )

not_apart : (A B C : Spot) (T : Frame) → Hits A B C T → Parts A B C T → ⊥
not_apart A B C T h = ⊎_elim (not_out A B C T h) (not_out B A C T (swap A B C T h))

high : (l a b c u v w : ℕ) → 0 < u + v + w → (u + v + w) * l ≤ u * a + v * b + w * c → l ≤ max a (max b c)
high l a b c u v w pos h =
    let m : ℕ = max a (max b c) in
    le_of_mul-le-mul_left {k = u + v + w}
    (omega (arith, mul-le-mul_left {m = a} {n = m} u (omega arith), mul-le-mul_left {m = b} {n = m} v (omega arith), mul-le-mul_left {m = c} {n = m} w (omega arith)))
    pos

low : (r a b c u v w : ℕ) → 0 < u + v + w → u * a + v * b + w * c ≤ (u + v + w) * r → min a (min b c) ≤ r
low r a b c u v w pos h =
    let m : ℕ = min a (min b c) in
    le_of_mul-le-mul_left {k = u + v + w}
    (omega (arith, mul-le-mul_left {m = m} {n = a} u (omega arith), mul-le-mul_left {m = m} {n = b} v (omega arith), mul-le-mul_left {m = m} {n = c} w (omega arith)))
    pos

pub hitting_passes : (A B C : Spot) (T : Frame) → Hits A B C T → Passes A B C T
hitting_passes A B C T h =
    record {
      box =
          record {
            left = high _ _ _ _ h.u h.v h.w h.some h.left;
            right = low _ _ _ _ h.u h.v h.w h.some h.right;
            top = high _ _ _ _ h.u h.v h.w h.some h.top;
            bottom = low _ _ _ _ h.u h.v h.w h.some h.bottom;
          };
      ab = not_apart A B C T h;
      bc = not_apart B C A T (rotate A B C T h);
      ca = not_apart C A B T (rotate B C A T (rotate A B C T h));
    }
