-- In naturals: a mean of three lies on the third's side of each edge; what lies on the inner side of all three edges is a mean of the three;
-- and where the three have no area, three corners of a rectangle are not all means of them.
use Prim.Native.Nat.{ℕ, ◌+◌, ◌*◌, ◌-◌, ◌<◌, ◌≤◌}
use mathlib.Core.Path.{◌≡◌, ap}
use native.Mathlib.Omega.{arith}
use native.Mathlib.Nat.{mul-le-mul_left, le_of_mul-le-mul_left, add-sub_of_le}
use Rattle.touch.proofs.Natural.{Spot, Frame, Hits, turn, Pos, NotPos}
use Rattle.touch.proofs.Between.{turned}

-- the frame that is one point
abbrev pub dot : ℕ → ℕ → Frame
dot x y = record { l = x; r = x; t = y; b = y }

side_core : (n w p q s t : ℕ) → 0 < n → n * p + w * s ≡ n * q + w * t → s ≤ t → q ≤ p
side_core n w p q s t some e h = le_of_mul-le-mul_left {k = n} (omega (arith, mul-le-mul_left w h)) some

-- the value at a weighted sum of three is that at the third, times the third's weight
lever_sum : (A B C : Spot) (u v w : ℕ)
    → (u * A.x + v * B.x + w * C.x) * B.y + (u * A.y + v * B.y + w * C.y) * A.x + (u + v + w) * (B.x * A.y) + w * turn B A C.x C.y
    ≡ (u * A.x + v * B.x + w * C.x) * A.y + (u * A.y + v * B.y + w * C.y) * B.x + (u + v + w) * (A.x * B.y) + w * turn A B C.x C.y
lever_sum A B C u v w = omega arith

turn-times : (A B : Spot) (n x y : ℕ) → n * turn A B x y ≡ (n * x) * B.y + (n * y) * A.x + n * (B.x * A.y)
turn-times A B n x y = omega arith

module _ (A B C : Spot) (x y : ℕ) where
  lever : (h : Hits A B C (dot x y))
      → (h.u + h.v + h.w) * turn A B x y + h.w * turn B A C.x C.y ≡ (h.u + h.v + h.w) * turn B A x y + h.w * turn A B C.x C.y
  lever h =
      let n : ℕ = h.u + h.v + h.w in
      let across : n * x ≡ h.u * A.x + h.v * B.x + h.w * C.x = omega arith in
      let down : n * y ≡ h.u * A.y + h.v * B.y + h.w * C.y = omega arith in
      rw (turn-times A B n x y, turn-times B A n x y, across, down) (lever_sum A B C h.u h.v h.w)

  pub on_side : Hits A B C (dot x y) → NotPos B A C.x C.y → NotPos B A x y
  on_side h third = side_core _ _ _ _ _ _ h.some (lever h) third

  pub rotate : Hits A B C (dot x y) → Hits B C A (dot x y)
  rotate h = record { u = h.v; v = h.w; w = h.u; some = omega arith; left = omega arith; right = omega arith; top = omega arith; bottom = omega arith }

  pub swap : Hits A B C (dot x y) → Hits B A C (dot x y)
  swap h = record { u = h.v; v = h.u; w = h.w; some = omega arith; left = omega arith; right = omega arith; top = omega arith; bottom = omega arith }

-- the weight of a vertex is the value on the edge that lacks it: each times its vertex, and their sum
part_a : (A B C : Spot) (x y u : ℕ) → turn C B x y + u ≡ turn B C x y
    → u * A.x + (x * (A.x * B.y) + y * (A.x * C.x) + A.x * (B.x * C.y)) ≡ x * (A.x * C.y) + y * (A.x * B.x) + A.x * (C.x * B.y)
part_a A B C x y u e = omega (arith, ap (λ (z : ℕ). z * A.x) e)

part-b : (A B C : Spot) (x y v : ℕ) → turn A C x y + v ≡ turn C A x y
    → v * B.x + (x * (B.x * C.y) + y * (A.x * B.x) + B.x * (C.x * A.y)) ≡ x * (B.x * A.y) + y * (B.x * C.x) + A.x * (B.x * C.y)
part-b A B C x y v e = omega (arith, ap (λ (z : ℕ). z * B.x) e)

part_c : (A B C : Spot) (x y w : ℕ) → turn B A x y + w ≡ turn A B x y
    → w * C.x + (x * (C.x * A.y) + y * (B.x * C.x) + A.x * (C.x * B.y)) ≡ x * (C.x * B.y) + y * (A.x * C.x) + B.x * (C.x * A.y)
part_c A B C x y w e = omega (arith, ap (λ (z : ℕ). z * C.x) e)

part-n : (A B C : Spot) (x n : ℕ) → B.x * C.y + C.x * A.y + A.x * B.y + n ≡ C.x * B.y + A.x * C.y + B.x * A.y
    → n * x + (x * (B.x * C.y) + x * (C.x * A.y) + x * (A.x * B.y)) ≡ x * (C.x * B.y) + x * (A.x * C.y) + x * (B.x * A.y)
part-n A B C x n e = omega (arith, ap (λ (z : ℕ). z * x) e)

collect : (a b c n p₁ p₂ p₃ p₄ p₅ p₆ s₁ s₂ s₃ t₁ t₂ t₃ : ℕ) → a + (p₁ + s₂ + t₁) ≡ p₂ + s₁ + t₂ → b + (p₄ + s₁ + t₃) ≡ p₃ + s₃ + t₁
    → c + (p₅ + s₃ + t₂) ≡ p₆ + s₂ + t₃ → n + (p₄ + p₅ + p₁) ≡ p₆ + p₂ + p₃ → n ≡ a + b + c
collect a b c n p₁ p₂ p₃ p₄ p₅ p₆ s₁ s₂ s₃ t₁ t₂ t₃ e f g h = omega arith

mean_x : (A B C : Spot) (x y u v w : ℕ) → turn C B x y + u ≡ turn B C x y → turn A C x y + v ≡ turn C A x y → turn B A x y + w ≡ turn A B x y
    → (u + v + w) * x ≡ u * A.x + v * B.x + w * C.x
mean_x A B C x y u v w a b c =
    collect (u * A.x) (v * B.x) (w * C.x) ((u + v + w) * x) (x * (A.x * B.y)) (x * (A.x * C.y)) (x * (B.x * A.y)) (x * (B.x * C.y))
    (x * (C.x * A.y)) (x * (C.x * B.y)) (y * (A.x * B.x)) (y * (A.x * C.x)) (y * (B.x * C.x)) (A.x * (B.x * C.y)) (A.x * (C.x * B.y))
    (B.x * (C.x * A.y)) (part_a A B C x y u a) (part-b A B C x y v b) (part_c A B C x y w c) (part-n A B C x (u + v + w) (omega arith))

module _ (A B C : Spot) (x y u v w : ℕ) (a : turn C B x y + u ≡ turn B C x y) (b : turn A C x y + v ≡ turn C A x y) (c : turn B A x y + w ≡ turn A B x y) where
  across : (u + v + w) * x ≡ u * A.x + v * B.x + w * C.x
  across = mean_x A B C x y u v w a b c

  down : (u + v + w) * y ≡ u * A.y + v * B.y + w * C.y
  down = omega (arith, mean_x (turned A) (turned C) (turned B) y x u w v (omega arith) (omega arith) (omega arith))

  mean_core : Pos A B C.x C.y → Hits A B C (dot x y)
  mean_core third =
      record {
        u = u;
        v = v;
        w = w;
        some = omega arith;
        left = omega (arith, across);
        right = omega (arith, across);
        top = omega (arith, down);
        bottom = omega (arith, down);
      }

-- what lies on the inner side of all three edges, or on them, is a mean of the three
pub mean_of : (A B C : Spot) (x y : ℕ) → Pos A B C.x C.y → NotPos B A x y → NotPos C B x y → NotPos A C x y → Hits A B C (dot x y)
mean_of A B C x y third ab bc ca =
    mean_core A B C x y (turn B C x y - turn C B x y) (turn C A x y - turn A C x y) (turn A B x y - turn B A x y)
    (add-sub_of_le bc) (add-sub_of_le ca) (add-sub_of_le ab) third

-- ---- no area

cancel : (n a b : ℕ) → 0 < n → n * a ≡ n * b → a ≡ b
cancel n a b p e =
    let i : a ≤ b = le_of_mul-le-mul_left {k = n} (omega arith) p in
    let j : b ≤ a = le_of_mul-le-mul_left {k = n} (omega arith) p in
    omega arith

-- (r − l)(b − a) = 0
same_side : (l r a b : ℕ) → l < r → r * b + l * a ≡ r * a + l * b → a ≡ b
same_side l r a b h e =
    let d : l + (r - l) ≡ r = add-sub_of_le (omega arith) in
    cancel (r - l) a b (omega arith) (omega (arith, ap (λ (z : ℕ). z * a) d, ap (λ (z : ℕ). z * b) d))

abbrev Flat : Spot → Spot → Spot → Type 0
Flat A B C = turn A B C.x C.y ≡ turn B A C.x C.y

module _ (A B C : Spot) (x y : ℕ) where
  on_edge : Flat A B C → Hits A B C (dot x y) → turn A B x y ≡ turn B A x y
  on_edge flat h =
      let i : NotPos B A x y = on_side A B C x y h (omega arith) in
      let j : NotPos A B x y = on_side B A C x y (swap A B C x y h) (omega arith) in
      omega arith

module _ (A B C : Spot) (l r t b : ℕ) (wide : l < r) (high : t < b) (flat : Flat A B C)
    (f : Hits A B C (dot l t)) (g : Hits A B C (dot r t)) (h : Hits A B C (dot l b)) where
  same_y : A.y ≡ B.y
  same_y = same_side l r A.y B.y wide (omega (arith, on_edge A B C l t flat f, on_edge A B C r t flat g))

  same_x : A.x ≡ B.x
  same_x = same_side t b A.x B.x high (omega (arith, on_edge A B C l t flat f, on_edge A B C l b flat h))

module _ (A B C : Spot) (x y : ℕ) where
  at_one : A.x ≡ B.x → B.x ≡ C.x → Hits A B C (dot x y) → x ≡ A.x
  at_one e d h =
      cancel (h.u + h.v + h.w) _ _ h.some
      (omega (arith, h.left, h.right, ap (λ (z : ℕ). h.v * z) e, ap (λ (z : ℕ). h.w * z) e, ap (λ (z : ℕ). h.w * z) d))

pub no_area : (A B C : Spot) (l r t b : ℕ) → l < r → t < b → turn A B C.x C.y ≡ turn B A C.x C.y
    → Hits A B C (dot l t) → Hits A B C (dot r t) → Hits A B C (dot l b) → ⊥
no_area A B C l r t b wide high flat f g h =
    let ab : A.x ≡ B.x = same_x A B C l r t b wide high flat f g h in
    let bc : B.x ≡ C.x = same_x B C A l r t b wide high (omega arith) (rotate A B C l t f) (rotate A B C r t g) (rotate A B C l b h) in
    let left = at_one A B C l t ab bc f in
    let right = at_one A B C r t ab bc g in
    omega arith
