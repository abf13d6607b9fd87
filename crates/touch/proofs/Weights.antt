-- Weights for one list of vertices are weights for another with the same sums. So a line touches as the triangle with its second vertex twice does,
-- a point as that with its vertex thrice, and the order of the vertices and the winding do not matter.
use Prim.Native.Nat.{ℕ, ◌+◌, ◌*◌}
use mathlib.Core.Path.{◌≡◌, refl, ap}
use mathlib.Core.List.{List, [], ◌∷◌}
use mathlib.Core.Logic.{◌↔◌}
use native.Mathlib.Omega.{arith}
use lib.ListN.{length}
use lib.IntN.{ℤ, pos, neg_ℤ, ◌+ℤ◌, ◌*ℤ◌}
use lib.Signed.{◌≤ℤ◌}
use Rattle.numbers.specs.Diff.{Diff, up}
use Rattle.numbers.proofs.Diff.{diff_same, diff_pos, diff_any, diff_add, diff_mul, diff_eq}
use Rattle.screen.specs.declared.Rectangle.{Rectangle}
use Rattle.shape.specs.declared.Vertex.{Vertex}
use Rattle.shape.specs.declared.Shape.{Shape}
use Rattle.shape.specs.declared.Shape.TheVariants.{Point, Line, Triangle}
use Rattle.touch.specs.Touches.{total, weighted, MeanIn, Touches}
use Rattle.touch.specs.Corner.{three, triangle}

le_same : {x y x' y' : ℤ} → x' ≡ x → y' ≡ y → x ≤ℤ y → x' ≤ℤ y'
le_same e f h = rw (e, f) h

-- the same sums, of other weights and other vertices
record Same (ws : List ℕ) (vs : List Vertex) (ws' : List ℕ) (vs' : List Vertex) : Type 0 where
  one_each : length ws' ≡ length vs'
  sum : total ws' ≡ total ws
  sums : (f : Vertex → ℤ) → weighted f ws' vs' ≡ weighted f ws vs

same_mean : (ws : List ℕ) (vs : List Vertex) (ws' : List ℕ) (vs' : List Vertex) (q : Rectangle) → Same ws vs ws' vs' → MeanIn ws vs q → MeanIn ws' vs' q
same_mean ws vs ws' vs' q s m =
    record {
      one_each = s.one_each;
      some = let h = m.some in omega (arith, s.sum);
      left = le_same (ap (λ (n : ℕ). pos n *ℤ q.left) s.sum) (s.sums (λ v. v.x)) m.left;
      right = le_same (s.sums (λ v. v.x)) (ap (λ (n : ℕ). pos n *ℤ q.right) s.sum) m.right;
      top = le_same (ap (λ (n : ℕ). pos n *ℤ q.top) s.sum) (s.sums (λ v. v.y)) m.top;
      bottom = le_same (s.sums (λ v. v.y)) (ap (λ (n : ℕ). pos n *ℤ q.bottom) s.sum) m.bottom;
    }

-- ---- the sums of one, two and three, as differences of naturals

pub term : (u : ℕ) (z : ℤ) → Diff (pos u *ℤ z) (u * up z) (u * up (neg_ℤ z))
term u z = diff_same (diff_mul (diff_pos u) (diff_any z)) (omega arith)

one : (u : ℕ) (x : ℤ) → Diff (pos u *ℤ x +ℤ pos 0) (u * up x) (u * up (neg_ℤ x))
one u x = diff_same (diff_add (term u x) (diff_pos 0)) (omega arith)

two : (u v : ℕ) (x y : ℤ) → Diff (pos u *ℤ x +ℤ (pos v *ℤ y +ℤ pos 0)) (u * up x + v * up y) (u * up (neg_ℤ x) + v * up (neg_ℤ y))
two u v x y = diff_add (term u x) (one v y)

thrice : (u v w : ℕ) (x y z : ℤ) → Diff (pos u *ℤ x +ℤ (pos v *ℤ y +ℤ (pos w *ℤ z +ℤ pos 0)))
    (u * up x + (v * up y + w * up z)) (u * up (neg_ℤ x) + (v * up (neg_ℤ y) + w * up (neg_ℤ z)))
thrice u v w x y z = diff_add (term u x) (two v w y z)

-- ---- a line and a point as triangles

module _ (a : Vertex) (q : Rectangle) where
  point_triangle : (ws : List ℕ) → MeanIn ws (a ∷ []) q → Touches (Triangle a a a) q
  point_triangle [] m = absurd (let e = m.one_each in omega arith)
  point_triangle (u ∷ []) m =
      record {
        weights = u ∷ 0 ∷ 0 ∷ [];
        mean =
            same_mean (u ∷ []) (a ∷ []) (u ∷ 0 ∷ 0 ∷ []) (a ∷ a ∷ a ∷ []) q
            (record { one_each = refl; sum = omega arith; sums = λ f. diff_eq (thrice u 0 0 (f a) (f a) (f a)) (one u (f a)) (omega arith) })
            m;
      }
  point_triangle (u ∷ v ∷ ws) m = absurd (let e = m.one_each in omega arith)

  triangle_point : (ws : List ℕ) → MeanIn ws (a ∷ a ∷ a ∷ []) q → Touches (Point a) q
  triangle_point [] m = absurd (let e = m.one_each in omega arith)
  triangle_point (u ∷ []) m = absurd (let e = m.one_each in omega arith)
  triangle_point (u ∷ v ∷ []) m = absurd (let e = m.one_each in omega arith)
  triangle_point (u ∷ v ∷ w ∷ []) m =
      record {
        weights = (u + v + w) ∷ [];
        mean =
            same_mean (u ∷ v ∷ w ∷ []) (a ∷ a ∷ a ∷ []) ((u + v + w) ∷ []) (a ∷ []) q
            (record { one_each = refl; sum = omega arith; sums = λ f. diff_eq (one (u + v + w) (f a)) (thrice u v w (f a) (f a) (f a)) (omega arith) })
            m;
      }
  triangle_point (u ∷ v ∷ w ∷ z ∷ ws) m = absurd (let e = m.one_each in omega arith)

module _ (a b : Vertex) (q : Rectangle) where
  line_triangle : (ws : List ℕ) → MeanIn ws (a ∷ b ∷ []) q → Touches (Triangle a b b) q
  line_triangle [] m = absurd (let e = m.one_each in omega arith)
  line_triangle (u ∷ []) m = absurd (let e = m.one_each in omega arith)
  line_triangle (u ∷ v ∷ []) m =
      record {
        weights = u ∷ v ∷ 0 ∷ [];
        mean =
            same_mean (u ∷ v ∷ []) (a ∷ b ∷ []) (u ∷ v ∷ 0 ∷ []) (a ∷ b ∷ b ∷ []) q
            (record { one_each = refl; sum = omega arith; sums = λ f. diff_eq (thrice u v 0 (f a) (f b) (f b)) (two u v (f a) (f b)) (omega arith) })
            m;
      }
  line_triangle (u ∷ v ∷ w ∷ ws) m = absurd (let e = m.one_each in omega arith)

  triangle_line : (ws : List ℕ) → MeanIn ws (a ∷ b ∷ b ∷ []) q → Touches (Line a b) q
  triangle_line [] m = absurd (let e = m.one_each in omega arith)
  triangle_line (u ∷ []) m = absurd (let e = m.one_each in omega arith)
  triangle_line (u ∷ v ∷ []) m = absurd (let e = m.one_each in omega arith)
  triangle_line (u ∷ v ∷ w ∷ []) m =
      record {
        weights = u ∷ (v + w) ∷ [];
        mean =
            same_mean (u ∷ v ∷ w ∷ []) (a ∷ b ∷ b ∷ []) (u ∷ (v + w) ∷ []) (a ∷ b ∷ []) q
            (record { one_each = refl; sum = omega arith; sums = λ f. diff_eq (two u (v + w) (f a) (f b)) (thrice u v w (f a) (f b) (f b)) (omega arith) })
            m;
      }
  triangle_line (u ∷ v ∷ w ∷ z ∷ ws) m = absurd (let e = m.one_each in omega arith)

  line_turned : (ws : List ℕ) → MeanIn ws (a ∷ b ∷ []) q → Touches (Line b a) q
  line_turned [] m = absurd (let e = m.one_each in omega arith)
  line_turned (u ∷ []) m = absurd (let e = m.one_each in omega arith)
  line_turned (u ∷ v ∷ []) m =
      record {
        weights = v ∷ u ∷ [];
        mean =
            same_mean (u ∷ v ∷ []) (a ∷ b ∷ []) (v ∷ u ∷ []) (b ∷ a ∷ []) q
            (record { one_each = refl; sum = omega arith; sums = λ f. diff_eq (two v u (f b) (f a)) (two u v (f a) (f b)) (omega arith) })
            m;
      }
  line_turned (u ∷ v ∷ w ∷ ws) m = absurd (let e = m.one_each in omega arith)

-- a shape touches what the triangle of its three vertices touches
pub touches_as_triangle : (shape : Shape) {q : Rectangle} → Touches shape q ↔ Touches (triangle (three shape)) q
touches_as_triangle (Point a) {q} = (λ h. point_triangle a q h.weights h.mean, λ h. triangle_point a q h.weights h.mean)
touches_as_triangle (Line a b) {q} = (λ h. line_triangle a b q h.weights h.mean, λ h. triangle_line a b q h.weights h.mean)
touches_as_triangle (Triangle a b c) = (λ h. h, λ h. h)

-- ---- order and winding

module _ (a b c : Vertex) (q : Rectangle) where
  swapped : (ws : List ℕ) → MeanIn ws (a ∷ b ∷ c ∷ []) q → Touches (Triangle b a c) q
  swapped [] m = absurd (let e = m.one_each in omega arith)
  swapped (u ∷ []) m = absurd (let e = m.one_each in omega arith)
  swapped (u ∷ v ∷ []) m = absurd (let e = m.one_each in omega arith)
  swapped (u ∷ v ∷ w ∷ []) m =
      record {
        weights = v ∷ u ∷ w ∷ [];
        mean =
            same_mean (u ∷ v ∷ w ∷ []) (a ∷ b ∷ c ∷ []) (v ∷ u ∷ w ∷ []) (b ∷ a ∷ c ∷ []) q
            (record { one_each = refl; sum = omega arith; sums = λ f. diff_eq (thrice v u w (f b) (f a) (f c)) (thrice u v w (f a) (f b) (f c)) (omega arith) })
            m;
      }
  swapped (u ∷ v ∷ w ∷ z ∷ ws) m = absurd (let e = m.one_each in omega arith)

  rotated : (ws : List ℕ) → MeanIn ws (a ∷ b ∷ c ∷ []) q → Touches (Triangle b c a) q
  rotated [] m = absurd (let e = m.one_each in omega arith)
  rotated (u ∷ []) m = absurd (let e = m.one_each in omega arith)
  rotated (u ∷ v ∷ []) m = absurd (let e = m.one_each in omega arith)
  rotated (u ∷ v ∷ w ∷ []) m =
      record {
        weights = v ∷ w ∷ u ∷ [];
        mean =
            same_mean (u ∷ v ∷ w ∷ []) (a ∷ b ∷ c ∷ []) (v ∷ w ∷ u ∷ []) (b ∷ c ∷ a ∷ []) q
            (record { one_each = refl; sum = omega arith; sums = λ f. diff_eq (thrice v w u (f b) (f c) (f a)) (thrice u v w (f a) (f b) (f c)) (omega arith) })
            m;
      }
  rotated (u ∷ v ∷ w ∷ z ∷ ws) m = absurd (let e = m.one_each in omega arith)

-- every order of three vertices comes of these two; the first changes the winding
pub winding_does_not_matter : {a b c : Vertex} {q : Rectangle} → Touches (Triangle a b c) q → Touches (Triangle b a c) q
winding_does_not_matter {a} {b} {c} {q} h = swapped a b c q h.weights h.mean

pub start_does_not_matter : {a b c : Vertex} {q : Rectangle} → Touches (Triangle a b c) q → Touches (Triangle b c a) q
start_does_not_matter {a} {b} {c} {q} h = rotated a b c q h.weights h.mean

pub direction_does_not_matter : {a b : Vertex} {q : Rectangle} → Touches (Line a b) q → Touches (Line b a) q
direction_does_not_matter {a} {b} {q} h = line_turned a b q h.weights h.mean
