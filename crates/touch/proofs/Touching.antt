-- What passes the corner test hits: each corner has a mean in its quadrant, and of the four means one between them lies in the frame.
use Prim.Native.Nat.{ℕ, ◌+◌, ◌*◌, ◌≤◌, min, max}
use mathlib.Core.Logic.{inl, inr, ⊎_elim}
use native.Mathlib.Omega.{arith}
use native.Mathlib.Decide.{dec_le}
use Rattle.touch.proofs.Natural.{Spot, Frame, Ordered, Hits, Beyond, Parts, Passes, Pos}
use Rattle.numbers.proofs.Product.{rearr}
use Rattle.touch.proofs.Between.{between_x, between_y}
use Rattle.touch.proofs.Quadrant.{At, Hit, Clear, AllClear, Which, found}
use Rattle.touch.proofs.Quadrant.Which.{one, two, three}

-- a vertex as each corner sees it, with the frame in the quadrant where both numbers are at least 0
abbrev at_lt : Frame → Spot → At
at_lt T A = record { p = A.x; p' = T.l; q = A.y; q' = T.t }

abbrev at_rt : Frame → Spot → At
at_rt T A = record { p = T.r; p' = A.x; q = A.y; q' = T.t }

abbrev at_lb : Frame → Spot → At
at_lb T A = record { p = A.x; p' = T.l; q = T.b; q' = A.y }

abbrev at_rb : Frame → Spot → At
at_rb T A = record { p = T.r; p' = A.x; q = T.b; q' = A.y }

-- where all four corners are above 0 can be seen at the one that lies nearest
module _ (A B : Spot) (T : Frame) (ok : Ordered T) where
  near_lt : B.x ≤ A.x → A.y ≤ B.y → Pos A B T.l T.t → Beyond A B T
  near_lt p q h = omega (arith, rearr _ _ _ _ ok.wide q, rearr _ _ _ _ p ok.high)

  near_rt : B.x ≤ A.x → B.y ≤ A.y → Pos A B T.r T.t → Beyond A B T
  near_rt p q h = omega (arith, rearr _ _ _ _ ok.wide q, rearr _ _ _ _ p ok.high)

  near_lb : A.x ≤ B.x → A.y ≤ B.y → Pos A B T.l T.b → Beyond A B T
  near_lb p q h = omega (arith, rearr _ _ _ _ ok.wide q, rearr _ _ _ _ p ok.high)

  near_rb : A.x ≤ B.x → B.y ≤ A.y → Pos A B T.r T.b → Beyond A B T
  near_rb p q h = omega (arith, rearr _ _ _ _ ok.wide q, rearr _ _ _ _ p ok.high)

-- at each corner, an edge that does not separate is clear; where one axis is mirrored the edge changes its direction
module _ (T : Frame) (ok : Ordered T) (A B C : Spot) (n : Parts A B C T → ⊥) where
  clear_lt : Clear (at_lt T A) (at_lt T B) (at_lt T C)
  clear_lt a b e d = n (inl record { third = omega arith; corners = near_lt A B T ok (omega arith) (omega arith) (omega arith) })

  clear_rt : Clear (at_rt T A) (at_rt T B) (at_rt T C)
  clear_rt a b e d = n (inr record { third = omega arith; corners = near_rt B A T ok (omega arith) (omega arith) (omega arith) })

  clear_lb : Clear (at_lb T A) (at_lb T B) (at_lb T C)
  clear_lb a b e d = n (inr record { third = omega arith; corners = near_lb B A T ok (omega arith) (omega arith) (omega arith) })

  clear_rb : Clear (at_rb T A) (at_rb T B) (at_rb T C)
  clear_rb a b e d = n (inl record { third = omega arith; corners = near_rb A B T ok (omega arith) (omega arith) (omega arith) })

either_way : {A B C : Spot} {T : Frame} → (Parts A B C T → ⊥) → Parts B A C T → ⊥
either_way n = ⊎_elim (λ o. n (inr o)) (λ o. n (inl o))

-- one corner's rule, at all six of the ways to name an edge
all_clear : (at : Spot → At) (A B C : Spot) (T : Frame) → ((P Q R : Spot) → (Parts P Q R T → ⊥) → Clear (at P) (at Q) (at R)) → Passes A B C T
    → AllClear (at A) (at B) (at C)
all_clear at A B C T f h =
    record {
      ab = f A B C h.ab;
      ba = f B A C (either_way h.ab);
      bc = f B C A h.bc;
      cb = f C B A (either_way h.bc);
      ca = f C A B h.ca;
      ac = f A C B (either_way h.ca);
    }

which_high : (l a b c : ℕ) → l ≤ max a (max b c) → Which (l ≤ a) (l ≤ b) (l ≤ c)
which_high l a b c h = go (dec_le l a) (dec_le l b)
  where
    go : Dec (l ≤ a) → Dec (l ≤ b) → Which (l ≤ a) (l ≤ b) (l ≤ c)
    go (yes i) j = one i
    go (no i) (yes j) = two j
    go (no i) (no j) = three (omega arith)

which_low : (r a b c : ℕ) → min a (min b c) ≤ r → Which (a ≤ r) (b ≤ r) (c ≤ r)
which_low r a b c h = go (dec_le a r) (dec_le b r)
  where
    go : Dec (a ≤ r) → Dec (b ≤ r) → Which (a ≤ r) (b ≤ r) (c ≤ r)
    go (yes i) j = one i
    go (no i) (yes j) = two j
    go (no i) (no j) = three (omega arith)

-- a bound on three numbers, and so on each weighted mean of them
mean : (u v w a b c : ℕ) → u * a + v * b + w * c ≤ (u + v + w) * (a + b + c)
mean u v w a b c = omega arith

pub passing_hits : (A B C : Spot) (T : Frame) → Ordered T → Passes A B C T → Hits A B C T
passing_hits A B C T ok h =
    between_y A B C T.l T.r T.t T.b 0 ys ok.high
    (between_x A B C T.l T.r 0 xs T.t ys ok.wide lt rt)
    (between_x A B C T.l T.r 0 xs 0 T.b ok.wide lb rb)
  where
    xs : ℕ
    xs = A.x + B.x + C.x

    ys : ℕ
    ys = A.y + B.y + C.y

    west : Which (T.l ≤ A.x) (T.l ≤ B.x) (T.l ≤ C.x)
    west = which_high _ _ _ _ h.box.left

    east : Which (A.x ≤ T.r) (B.x ≤ T.r) (C.x ≤ T.r)
    east = which_low _ _ _ _ h.box.right

    north : Which (T.t ≤ A.y) (T.t ≤ B.y) (T.t ≤ C.y)
    north = which_high _ _ _ _ h.box.top

    south : Which (A.y ≤ T.b) (B.y ≤ T.b) (C.y ≤ T.b)
    south = which_low _ _ _ _ h.box.bottom

    lt : Hits A B C (record { l = T.l; r = xs; t = T.t; b = ys })
    lt =
        let g : Hit (at_lt T A) (at_lt T B) (at_lt T C) = found _ _ _ (all_clear (at_lt T) A B C T (clear_lt T ok) h) west north in
        record { u = g.u; v = g.v; w = g.w; some = g.some; left = omega arith; right = mean _ _ _ _ _ _; top = omega arith; bottom = mean _ _ _ _ _ _ }

    rt : Hits A B C (record { l = 0; r = T.r; t = T.t; b = ys })
    rt =
        let g : Hit (at_rt T A) (at_rt T B) (at_rt T C) = found _ _ _ (all_clear (at_rt T) A B C T (clear_rt T ok) h) east north in
        record { u = g.u; v = g.v; w = g.w; some = g.some; left = omega arith; right = omega arith; top = omega arith; bottom = mean _ _ _ _ _ _ }

    lb : Hits A B C (record { l = T.l; r = xs; t = 0; b = T.b })
    lb =
        let g : Hit (at_lb T A) (at_lb T B) (at_lb T C) = found _ _ _ (all_clear (at_lb T) A B C T (clear_lb T ok) h) west south in
        record { u = g.u; v = g.v; w = g.w; some = g.some; left = omega arith; right = mean _ _ _ _ _ _; top = omega arith; bottom = omega arith }

    rb : Hits A B C (record { l = 0; r = T.r; t = 0; b = T.b })
    rb =
        let g : Hit (at_rb T A) (at_rb T B) (at_rb T C) = found _ _ _ (all_clear (at_rb T) A B C T (clear_rb T ok) h) east south in
        record { u = g.u; v = g.v; w = g.w; some = g.some; left = omega arith; right = omega arith; top = omega arith; bottom = omega arith }
