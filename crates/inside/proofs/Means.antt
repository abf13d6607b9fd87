-- Weighted means of weighted means are weighted means: the weights are multiplied. So what touches a shape that lies inside another touches the other,
-- and what the first covers wholly the other does. For shapes of every kind, degenerate ones included.
use Prim.Native.Nat.{ℕ, ◌+◌, ◌*◌, ◌<◌}
use mathlib.Core.Path.{◌≡◌, refl, sym, ap, subst}
use mathlib.Core.List.{List, [], ◌∷◌}
use mathlib.Core.Logic.{◌↔◌}
use native.Mathlib.Omega.{arith}
use native.Mathlib.Nat.{mul-le-mul_left}
use lib.ListN.{length}
use lib.IntN.{ℤ, pos, ◌+ℤ◌, ◌*ℤ◌}
use lib.Signed.{◌≤ℤ◌}
use Rattle.numbers.proofs.Diff.{diff_pos, diff_any, diff_add, diff_mul, diff_le, le_diff, diff_eq}
use Rattle.screen.specs.declared.Rectangle.{Rectangle}
use Rattle.shape.specs.declared.Vertex.{Vertex}
use Rattle.shape.specs.declared.Shape.{Shape}
use Rattle.shape.specs.declared.Shape.TheVariants.{Point, Line, Triangle}
use Rattle.shape.specs.Shape.{vertices, Every}
use Rattle.touch.specs.declared.Three.{Three}
use Rattle.touch.specs.Corner.{three}
use Rattle.touch.specs.Touches.{total, weighted, MeanIn, Touches}
use Rattle.touch.specs.Cover.{HasPoint, Wholly}
use Rattle.inside.specs.Inside.{Inside}
use Rattle.touch.proofs.Points.{point_is_touched, wholly_by_points}

-- ---- n times the first weights and k times the second, added place by place

abbrev blend : (n k : ℕ) → (zs ts : List ℕ) → List ℕ
blend n k [] ts = []
blend n k (z ∷ zs) [] = []
blend n k (z ∷ zs) (t ∷ ts) = (n * z + k * t) ∷ blend n k zs ts

distribute : (n k z t : ℕ) (g x y : ℤ)
    → pos (n * z + k * t) *ℤ g +ℤ (pos n *ℤ x +ℤ pos k *ℤ y) ≡ pos n *ℤ (pos z *ℤ g +ℤ x) +ℤ pos k *ℤ (pos t *ℤ g +ℤ y)
distribute n k z t g x y =
    let a = diff_any g in
    let b = diff_any x in
    let c = diff_any y in
    diff_eq
    (diff_add (diff_mul (diff_pos (n * z + k * t)) a) (diff_add (diff_mul (diff_pos n) b) (diff_mul (diff_pos k) c)))
    (diff_add (diff_mul (diff_pos n) (diff_add (diff_mul (diff_pos z) a) b)) (diff_mul (diff_pos k) (diff_add (diff_mul (diff_pos t) a) c)))
    (omega arith)

nothing : (n k : ℕ) → pos 0 ≡ pos n *ℤ pos 0 +ℤ pos k *ℤ pos 0
nothing n k = diff_eq (diff_pos 0) (diff_add (diff_mul (diff_pos n) (diff_pos 0)) (diff_mul (diff_pos k) (diff_pos 0))) (omega arith)

module _ (n k : ℕ) where
  blend-length : (zs ts : List ℕ) → length zs ≡ length ts → length (blend n k zs ts) ≡ length ts
  blend-length [] ts e = e
  blend-length (z ∷ zs) [] e = absurd (omega arith)
  blend-length (z ∷ zs) (t ∷ ts) e = let i = blend-length zs ts (omega arith) in omega arith

  blend-total : (zs ts : List ℕ) → length zs ≡ length ts → total (blend n k zs ts) ≡ n * total zs + k * total ts
  blend-total [] [] e = omega arith
  blend-total [] (t ∷ ts) e = absurd (omega arith)
  blend-total (z ∷ zs) [] e = absurd (omega arith)
  blend-total (z ∷ zs) (t ∷ ts) e = let i = blend-total zs ts (omega arith) in omega arith

  blend-weighted : (f : Vertex → ℤ) (zs ts : List ℕ) (us : List Vertex) → length zs ≡ length us → length ts ≡ length us
      → weighted f (blend n k zs ts) us ≡ pos n *ℤ weighted f zs us +ℤ pos k *ℤ weighted f ts us
  blend-weighted f [] [] us d e = nothing n k
  blend-weighted f [] (t ∷ ts) us d e = absurd (omega arith)
  blend-weighted f (z ∷ zs) [] us d e = absurd (omega arith)
  blend-weighted f (z ∷ zs) (t ∷ ts) [] d e = absurd (omega arith)
  blend-weighted f (z ∷ zs) (t ∷ ts) (u ∷ us) d e =
      rw (blend-weighted f zs ts us (omega arith) (omega arith)) (distribute n k z t (f u) (weighted f zs us) (weighted f ts us))

-- ---- no weight at all

abbrev nought : List Vertex → List ℕ
nought [] = []
nought (u ∷ us) = 0 ∷ nought us

nought-length : (us : List Vertex) → length (nought us) ≡ length us
nought-length [] = refl
nought-length (u ∷ us) = let i = nought-length us in omega arith

nought-total : (us : List Vertex) → total (nought us) ≡ 0
nought-total [] = refl
nought-total (u ∷ us) = let i = nought-total us in omega arith

nought-weighted : (f : Vertex → ℤ) (us : List Vertex) → weighted f (nought us) us ≡ pos 0
nought-weighted f [] = refl
nought-weighted f (u ∷ us) =
    rw (nought-weighted f us) (diff_eq (diff_add (diff_mul (diff_pos 0) (diff_any (f u))) (diff_pos 0)) (diff_pos 0) (omega arith))

-- ---- weights for us that give a multiple of what the weights ws give for vs

record Spread (us : List Vertex) (ws : List ℕ) (vs : List Vertex) : Type 0 where
  times : ℕ
  weights : List ℕ
  some : 0 < times
  one_each : length weights ≡ length us
  sum : total weights ≡ times * total ws
  across : weighted (λ v. v.x) weights us ≡ pos times *ℤ weighted (λ v. v.x) ws vs
  down : weighted (λ v. v.y) weights us ≡ pos times *ℤ weighted (λ v. v.y) ws vs

-- m times the rest, and w times the first: n is the sum of the first's own weights
step : (m n w : ℕ) (g x : ℤ) → pos n *ℤ (pos m *ℤ x) +ℤ pos (m * w) *ℤ (pos n *ℤ g) ≡ pos (m * n) *ℤ (pos w *ℤ g +ℤ x)
step m n w g x =
    let a = diff_any g in
    let b = diff_any x in
    diff_eq
    (diff_add (diff_mul (diff_pos n) (diff_mul (diff_pos m) b)) (diff_mul (diff_pos (m * w)) (diff_mul (diff_pos n) a)))
    (diff_mul (diff_pos (m * n)) (diff_add (diff_mul (diff_pos w) a) b))
    (omega arith)

positive : (m n : ℕ) → 0 < m → 0 < n → 0 < m * n
positive m n p q = omega (arith, mul-le-mul_left m q)

spread : (second : Shape) (ws : List ℕ) (vs : List Vertex) → length ws ≡ length vs → Every (λ v. HasPoint second v.x v.y) vs
    → Spread (vertices second) ws vs
spread second [] vs e h =
    let us = vertices second in
    record {
      times = 1;
      weights = nought us;
      some = omega arith;
      one_each = nought-length us;
      sum = nought-total us;
      across = nought-weighted (λ v. v.x) us;
      down = nought-weighted (λ v. v.y) us;
    }
spread second (w ∷ ws) [] e h = absurd (omega arith)
spread second (w ∷ ws) (v ∷ vs) e (h, hs) =
    let us = vertices second in
    let r : Spread us ws vs = spread second ws vs (omega arith) hs in
    let m : ℕ = r.times in
    let ts : List ℕ = h.weights in
    let n : ℕ = total ts in
    let same : length r.weights ≡ length ts = omega (arith, r.one_each, h.mean.one_each) in
    record {
      times = m * n;
      weights = blend n (m * w) r.weights ts;
      some = positive m n r.some h.mean.some;
      one_each = omega (arith, blend-length n (m * w) r.weights ts same, h.mean.one_each);
      sum = omega (arith, blend-total n (m * w) r.weights ts same, ap (λ (z : ℕ). n * z) r.sum);
      across =
          rw (blend-weighted n (m * w) (λ v. v.x) r.weights ts us r.one_each h.mean.one_each, r.across, h.mean.across)
          (step m n w v.x (weighted (λ v. v.x) ws vs));
      down =
          rw (blend-weighted n (m * w) (λ v. v.y) r.weights ts us r.one_each h.mean.one_each, r.down, h.mean.down)
          (step m n w v.y (weighted (λ v. v.y) ws vs));
    }

-- ---- the theorems

scale_below : (m n : ℕ) (l x : ℤ) → (pos n *ℤ l) ≤ℤ x → (pos (m * n) *ℤ l) ≤ℤ (pos m *ℤ x)
scale_below m n l x h =
    diff_le (diff_mul (diff_pos (m * n)) (diff_any l)) (diff_mul (diff_pos m) (diff_any x))
    (omega (arith, mul-le-mul_left m (le_diff (diff_mul (diff_pos n) (diff_any l)) (diff_any x) h)))

scale_above : (m n : ℕ) (l x : ℤ) → x ≤ℤ (pos n *ℤ l) → (pos m *ℤ x) ≤ℤ (pos (m * n) *ℤ l)
scale_above m n l x h =
    diff_le (diff_mul (diff_pos m) (diff_any x)) (diff_mul (diff_pos (m * n)) (diff_any l))
    (omega (arith, mul-le-mul_left m (le_diff (diff_any x) (diff_mul (diff_pos n) (diff_any l)) h)))

-- what a weighted mean of points of a shape touches, the shape touches
pub means_touch : (second : Shape) {ws : List ℕ} {vs : List Vertex} {q : Rectangle} → Every (λ v. HasPoint second v.x v.y) vs → MeanIn ws vs q
    → Touches second q
means_touch second {ws} {vs} {q} h m =
    let r = spread second ws vs m.one_each h in
    record {
      weights = r.weights;
      mean =
          record {
            one_each = r.one_each;
            some = subst (λ (n : ℕ). 0 < n) (sym r.sum) (positive r.times (total ws) r.some m.some);
            left = rw (r.sum, r.across) (scale_below r.times (total ws) q.left _ m.left);
            right = rw (r.sum, r.across) (scale_above r.times (total ws) q.right _ m.right);
            top = rw (r.sum, r.down) (scale_below r.times (total ws) q.top _ m.top);
            bottom = rw (r.sum, r.down) (scale_above r.times (total ws) q.bottom _ m.bottom);
          };
    }

pub inside-touches : {first second : Shape} {q : Rectangle} → Inside first second → Touches first q → Touches second q
inside-touches {first} {second} h t = means_touch second {vs = vertices first} h t.mean

pub inside_point : {first second : Shape} {x y : ℤ} → Inside first second → HasPoint first x y → HasPoint second x y
inside_point {first} {second} h p = (point_is_touched second).1 (inside-touches {first = first} h ((point_is_touched first).0 p))

pub inside_wholly : {first second : Shape} {q : Rectangle} → Inside first second → Wholly first q → Wholly second q
inside_wholly {first} h = wholly_by_points (λ x y. inside_point {first = first} h)

-- ---- the three vertices of a shape are all that it has

abbrev pub ThreeInside : Three → Shape → Type 0
ThreeInside t second = HasPoint second t.a.x t.a.y × HasPoint second t.b.x t.b.y × HasPoint second t.c.x t.c.y

pub inside_by_three : (first second : Shape) → ThreeInside (three first) second ↔ Inside first second
inside_by_three (Point a) second = (λ h. (h.0, tt), λ h. (h.0, h.0, h.0))
inside_by_three (Line a b) second = (λ h. (h.0, (h.1, tt)), λ h. (h.0, h.1.0, h.1.0))
inside_by_three (Triangle a b c) second = (λ h. (h.0, (h.1, (h.2, tt))), λ h. (h.0, h.1.0, h.1.1.0))
