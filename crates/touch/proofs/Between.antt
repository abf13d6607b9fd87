-- Of two frames that are hit, one that lies between them is hit: a sum of multiples of the two weights brings the mean between the sides.
use Prim.Native.Nat.{ℕ, ◌+◌, ◌*◌, ◌-◌, ◌<◌, ◌≤◌}
use mathlib.Core.Path.{◌≡◌, ap, subst}
use native.Mathlib.Omega.{arith}
use native.Mathlib.Nat.{mul-le-mul_left, add-sub_of_le}
use native.Mathlib.Decide.{dec_le}
use Rattle.touch.proofs.Natural.{Spot, Frame, Hits}

-- multipliers that bring two homogeneous points, (m, p) with p ≥ l·m and (n, q) with q ≤ r·n, between l and r
record Mult (l r m p n q : ℕ) : Type 0 where
  j : ℕ
  k : ℕ
  some : 0 < j + k
  above : (j * m + k * n) * l ≤ j * p + k * q
  below : j * p + k * q ≤ (j * m + k * n) * r

mult_core : (l r m n q a e : ℕ) → l ≤ r → 0 < e → q + e ≡ n * l → Mult l r m (m * l + a) n q
mult_core l r m n q a e lr pos eq =
    record {
      j = e;
      k = a;
      some = omega arith;
      above = omega (arith, ap (λ (z : ℕ). a * z) eq);
      below = omega (arith, ap (λ (z : ℕ). a * z) eq, mul-le-mul_left (e * m + a * n) lr);
    }

mult : (l r m p n q : ℕ) → l ≤ r → m * l ≤ p → q ≤ n * r → Mult l r m p n q
mult l r m p n q lr lo hi = go (dec_le p (m * r)) (dec_le (n * l) q)
  where
    go : Dec (p ≤ m * r) → Dec (n * l ≤ q) → Mult l r m p n q
    go (yes a) d = record { j = 1; k = 0; some = omega arith; above = omega arith; below = omega arith }
    go (no a) (yes d) = record { j = 0; k = 1; some = omega arith; above = omega arith; below = omega arith }
    go (no a) (no d) =
        subst (λ (z : ℕ). Mult l r m z n q) (add-sub_of_le lo)
        (mult_core l r m n q (p - m * l) (n * l - q) lr (omega arith) (add-sub_of_le (omega arith)))

positive : (j k m n : ℕ) → 0 < j + k → 0 < m → 0 < n → 0 < j * m + k * n
positive j k m n s a b = omega (arith, mul-le-mul_left j a, mul-le-mul_left k b)

-- what holds of both weighted points holds of a sum of multiples of them
keep : (j k g m n p q : ℕ) → m * g ≤ p → n * g ≤ q → (j * m + k * n) * g ≤ j * p + k * q
keep j k g m n p q a b = omega (arith, mul-le-mul_left j a, mul-le-mul_left k b)

keep' : (j k g m n p q : ℕ) → p ≤ m * g → q ≤ n * g → j * p + k * q ≤ (j * m + k * n) * g
keep' j k g m n p q a b = omega (arith, mul-le-mul_left j a, mul-le-mul_left k b)

-- a frame that holds one that is hit is hit
pub widen : (A B C : Spot) (S T : Frame) → T.l ≤ S.l → S.r ≤ T.r → T.t ≤ S.t → S.b ≤ T.b → Hits A B C S → Hits A B C T
widen A B C S T l r t b h =
    let n : ℕ = h.u + h.v + h.w in
    record {
      u = h.u;
      v = h.v;
      w = h.w;
      some = h.some;
      left = omega (arith, mul-le-mul_left n l);
      right = omega (arith, mul-le-mul_left n r);
      top = omega (arith, mul-le-mul_left n t);
      bottom = omega (arith, mul-le-mul_left n b);
    }

-- where there is a hit at l or further right, and one at r or further left, there is one from l to r
pub between_x : (A B C : Spot) (l r l' r' t b : ℕ) → l ≤ r
    → Hits A B C (record { l = l; r = r'; t = t; b = b }) → Hits A B C (record { l = l'; r = r; t = t; b = b })
    → Hits A B C (record { l = l; r = r; t = t; b = b })
between_x A B C l r l' r' t b lr f g =
    let m : ℕ = f.u + f.v + f.w in
    let n : ℕ = g.u + g.v + g.w in
    let x : Mult l r m (f.u * A.x + f.v * B.x + f.w * C.x) n (g.u * A.x + g.v * B.x + g.w * C.x)
    = mult l r m _ n _ lr f.left g.right in
    record {
      u = x.j * f.u + x.k * g.u;
      v = x.j * f.v + x.k * g.v;
      w = x.j * f.w + x.k * g.w;
      some = omega (arith, positive x.j x.k m n x.some f.some g.some);
      left = omega (arith, x.above);
      right = omega (arith, x.below);
      top = omega (arith, keep x.j x.k t m n _ _ f.top g.top);
      bottom = omega (arith, keep' x.j x.k b m n _ _ f.bottom g.bottom);
    }

-- x and y change places
abbrev pub turned : Spot → Spot
turned A = record { x = A.y; y = A.x }

abbrev pub turned-frame : Frame → Frame
turned-frame T = record { l = T.t; r = T.b; t = T.l; b = T.r }

pub turned_hits : {A B C : Spot} {T : Frame} → Hits A B C T → Hits (turned A) (turned B) (turned C) (turned-frame T)
turned_hits h =
    record { u = h.u; v = h.v; w = h.w; some = h.some; left = h.top; right = h.bottom; top = h.left; bottom = h.right }

pub between_y : (A B C : Spot) (l r t b t' b' : ℕ) → t ≤ b
    → Hits A B C (record { l = l; r = r; t = t; b = b' }) → Hits A B C (record { l = l; r = r; t = t'; b = b })
    → Hits A B C (record { l = l; r = r; t = t; b = b })
between_y A B C l r t b t' b' tb f g =
    turned_hits (between_x (turned A) (turned B) (turned C) t b t' b' l r tb (turned_hits f) (turned_hits g))
