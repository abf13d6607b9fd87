-- From the integers' plane to that of the naturals: a number k that makes every coordinate natural is added to all of them.
use Prim.Native.Nat.{ℕ, ◌+◌, ◌*◌, ◌-◌, ◌<◌, ◌≤◌, min, max}
use mathlib.Core.Path.{◌≡◌, refl, sym, subst}
use mathlib.Core.Bool.{Bool, true, false, cond}
use mathlib.Core.List.{List, [], ◌∷◌}
use mathlib.Core.Logic.{◌↔◌, inl, inr, ⊎_elim}
use native.Mathlib.Omega.{arith}
use lib.Dec.{T}
use lib.IntN.{ℤ, pos, neg_ℤ, ◌+ℤ◌, ◌-ℤ◌, ◌*ℤ◌}
use lib.Signed.{le_z, ◌≤ℤ◌, ◌<ℤ◌}
use Rattle.numbers.specs.Diff.{Diff, up}
use Rattle.numbers.proofs.Diff.{diff_same, diff_pos, diff_any, diff_add, diff_sub, diff_mul, diff_le, le_diff, diff_lt, lt_diff}
use Rattle.numbers.proofs.Is.{is_self, le_left}
use Rattle.screen.specs.declared.Rectangle.{Rectangle}
use Rattle.shape.specs.declared.Vertex.{Vertex}
use Rattle.touch.specs.Touches.{MeanIn}
use Rattle.touch.specs.Corner.{lesser, greater, bounds, Overlap, edge_value, Separates}
use Rattle.touch.specs.Corner.Apart.{above, below}
use Rattle.touch.proofs.Natural.{Spot, Frame, Hits, BoxMeets, turn, Parts}

-- P is A, and T is S, with k added
pub record Spotted (k : ℕ) (A : Vertex) (P : Spot) : Type 0 where
  pub ax : Diff A.x P.x k
  pub ay : Diff A.y P.y k

pub record Framed (k : ℕ) (S : Rectangle) (T : Frame) : Type 0 where
  pub al : Diff S.left T.l k
  pub ar : Diff S.right T.r k
  pub at : Diff S.top T.t k
  pub ab : Diff S.bottom T.b k

-- ---- a number that is large enough

abbrev lifted : ℕ → ℤ → ℕ
lifted k z = (k + up z) - up (neg_ℤ z)

lift : (k : ℕ) (z : ℤ) → up (neg_ℤ z) ≤ k → Diff z (lifted k z) k
lift k z h = diff_same (diff_any z) (omega arith)

abbrev pub depth : Vertex → ℕ
depth A = up (neg_ℤ A.x) + up (neg_ℤ A.y)

abbrev pub depth_of : Rectangle → ℕ
depth_of S = up (neg_ℤ S.left) + up (neg_ℤ S.right) + up (neg_ℤ S.top) + up (neg_ℤ S.bottom)

abbrev pub spot : ℕ → Vertex → Spot
spot k A = record { x = lifted k A.x; y = lifted k A.y }

abbrev pub frame : ℕ → Rectangle → Frame
frame k S = record { l = lifted k S.left; r = lifted k S.right; t = lifted k S.top; b = lifted k S.bottom }

pub spotted : (k : ℕ) (A : Vertex) → depth A ≤ k → Spotted k A (spot k A)
spotted k A h = record { ax = lift k A.x (omega arith); ay = lift k A.y (omega arith) }

pub framed : (k : ℕ) (S : Rectangle) → depth_of S ≤ k → Framed k S (frame k S)
framed k S h =
    record {
      al = lift k S.left (omega arith);
      ar = lift k S.right (omega arith);
      at = lift k S.top (omega arith);
      ab = lift k S.bottom (omega arith);
    }

-- ---- orders of two numbers with the same k added, and signs

module _ (k : ℕ) {x y : ℤ} {a b : ℕ} (e : Diff x a k) (f : Diff y b k) where
  pub le_lifted : (x ≤ℤ y) ↔ (a ≤ b)
  le_lifted = (λ h. omega (arith, le_diff e f h), λ h. diff_le e f (omega arith))

  gap : Diff (x -ℤ y) a b
  gap = diff_same (diff_sub e f) (omega arith)

module _ {z : ℤ} {a b : ℕ} (e : Diff z a b) where
  pub is_above : (pos 0 <ℤ z) ↔ (b < a)
  is_above = (λ h. omega (arith, lt_diff (diff_pos 0) e h), λ h. diff_lt (diff_pos 0) e (omega arith))

  pub is_below : (z <ℤ pos 0) ↔ (a < b)
  is_below = (λ h. omega (arith, lt_diff e (diff_pos 0) h), λ h. diff_lt e (diff_pos 0) (omega arith))

  pub not_above : (z ≤ℤ pos 0) ↔ (a ≤ b)
  not_above = (λ h. omega (arith, le_diff e (diff_pos 0) h), λ h. diff_le e (diff_pos 0) (omega arith))

  pub not_below : (pos 0 ≤ℤ z) ↔ (b ≤ a)
  not_below = (λ h. omega (arith, le_diff (diff_pos 0) e h), λ h. diff_le (diff_pos 0) e (omega arith))

-- ---- the box

module _ (k : ℕ) (x y : ℤ) (a b : ℕ) (e : Diff x a k) (f : Diff y b k) where
  lesser_case : (t : Bool) → le_z x y ≡ t → Diff (cond t x y) (min a b) k
  lesser_case true h = let l : a ≤ b = (le_lifted k e f).0 (record { le = subst T (sym h) tt }) in diff_same e (omega arith)
  lesser_case false h = let l = lt_diff f e (le_left (is_self x) (is_self y) h) in diff_same f (omega arith)

  greater_case : (t : Bool) → le_z x y ≡ t → Diff (cond t y x) (max a b) k
  greater_case true h = let l : a ≤ b = (le_lifted k e f).0 (record { le = subst T (sym h) tt }) in diff_same f (omega arith)
  greater_case false h = let l = lt_diff f e (le_left (is_self x) (is_self y) h) in diff_same e (omega arith)

module _ (k : ℕ) {x y : ℤ} {a b : ℕ} (e : Diff x a k) (f : Diff y b k) where
  lesser_diff : Diff (lesser x y) (min a b) k
  lesser_diff = lesser_case k x y a b e f (le_z x y) refl

  greater_diff : Diff (greater x y) (max a b) k
  greater_diff = greater_case k x y a b e f (le_z x y) refl

-- ---- the three tests

module _ (k : ℕ) {S : Rectangle} {T : Frame} (t : Framed k S T) {A B C : Vertex} {P Q R : Spot} (f : Spotted k A P) (g : Spotted k B Q) (h : Spotted k C R) where
  pub edge_diff : {x y : ℤ} {a b : ℕ} → Diff x a k → Diff y b k → Diff (edge_value A B x y) (turn P Q a b) (turn Q P a b)
  edge_diff p q =
      diff_same (diff_sub (diff_mul (gap k p f.ax) (gap k g.ay f.ay)) (diff_mul (gap k q f.ay) (gap k g.ax f.ax))) (omega arith)

  to_parts : Separates A B C S → Parts P Q R T
  to_parts (above z p q r s) =
      inl
      record {
        third = (not_above (edge_diff h.ax h.ay)).0 z;
        corners =
            record {
              lt = (is_above (edge_diff t.al t.at)).0 p;
              rt = (is_above (edge_diff t.ar t.at)).0 q;
              lb = (is_above (edge_diff t.al t.ab)).0 r;
              rb = (is_above (edge_diff t.ar t.ab)).0 s;
            };
      }
  to_parts (below z p q r s) =
      inr
      record {
        third = (not_below (edge_diff h.ax h.ay)).0 z;
        corners =
            record {
              lt = (is_below (edge_diff t.al t.at)).0 p;
              rt = (is_below (edge_diff t.ar t.at)).0 q;
              lb = (is_below (edge_diff t.al t.ab)).0 r;
              rb = (is_below (edge_diff t.ar t.ab)).0 s;
            };
      }

  from_parts : Parts P Q R T → Separates A B C S
  from_parts =
      ⊎_elim
      (λ o.
      above ((not_above (edge_diff h.ax h.ay)).1 o.third)
      ((is_above (edge_diff t.al t.at)).1 o.corners.lt)
      ((is_above (edge_diff t.ar t.at)).1 o.corners.rt)
      ((is_above (edge_diff t.al t.ab)).1 o.corners.lb)
      ((is_above (edge_diff t.ar t.ab)).1 o.corners.rb))
      (λ o.
      below ((not_below (edge_diff h.ax h.ay)).1 o.third)
      ((is_below (edge_diff t.al t.at)).1 o.corners.lt)
      ((is_below (edge_diff t.ar t.at)).1 o.corners.rt)
      ((is_below (edge_diff t.al t.ab)).1 o.corners.lb)
      ((is_below (edge_diff t.ar t.ab)).1 o.corners.rb))

  pub same_edge : Separates A B C S ↔ Parts P Q R T
  same_edge = (to_parts, from_parts)

  pub same_box : Overlap (bounds (record { a = A; b = B; c = C })) S ↔ BoxMeets P Q R T
  unfolding bounds
  same_box =
      let left = le_lifted k t.al (greater_diff k f.ax (greater_diff k g.ax h.ax)) in
      let right = le_lifted k (lesser_diff k f.ax (lesser_diff k g.ax h.ax)) t.ar in
      let top = le_lifted k t.at (greater_diff k f.ay (greater_diff k g.ay h.ay)) in
      let bottom = le_lifted k (lesser_diff k f.ay (lesser_diff k g.ay h.ay)) t.ab in (
        λ o. record { left = left.0 o.left; right = right.0 o.right; top = top.0 o.top; bottom = bottom.0 o.bottom },
        λ o. record { left = left.1 o.left; right = right.1 o.right; top = top.1 o.top; bottom = bottom.1 o.bottom },
      )

-- ---- touching

module _ (k : ℕ) where
  side : (n : ℕ) {x : ℤ} {a : ℕ} → Diff x a k → Diff (pos n *ℤ x) (n * a) (n * k)
  side n e = diff_same (diff_mul (diff_pos n) e) (omega arith)

  sum : (u v w : ℕ) {x y z : ℤ} {a b c : ℕ} → Diff x a k → Diff y b k → Diff z c k
      → Diff (pos u *ℤ x +ℤ (pos v *ℤ y +ℤ (pos w *ℤ z +ℤ pos 0))) (u * a + v * b + w * c) ((u + (v + (w + 0))) * k)
  sum u v w e f g = diff_same (diff_add (side u e) (diff_add (side v f) (diff_add (side w g) (diff_pos 0)))) (omega arith)

module _ (k : ℕ) {S : Rectangle} {T : Frame} (t : Framed k S T) {A B C : Vertex} {P Q R : Spot} (f : Spotted k A P) (g : Spotted k B Q) (h : Spotted k C R) where
  pub to_hits : (ws : List ℕ) → MeanIn ws (A ∷ B ∷ C ∷ []) S → Hits P Q R T
  to_hits [] m = absurd (let e = m.one_each in omega arith)
  to_hits (u ∷ []) m = absurd (let e = m.one_each in omega arith)
  to_hits (u ∷ v ∷ []) m = absurd (let e = m.one_each in omega arith)
  to_hits (u ∷ v ∷ w ∷ []) m =
      let n : ℕ = u + (v + (w + 0)) in
      let s = m.some in
      record {
        u = u;
        v = v;
        w = w;
        some = omega arith;
        left = omega (arith, le_diff (side k n t.al) (sum k u v w f.ax g.ax h.ax) m.left);
        right = omega (arith, le_diff (sum k u v w f.ax g.ax h.ax) (side k n t.ar) m.right);
        top = omega (arith, le_diff (side k n t.at) (sum k u v w f.ay g.ay h.ay) m.top);
        bottom = omega (arith, le_diff (sum k u v w f.ay g.ay h.ay) (side k n t.ab) m.bottom);
      }
  to_hits (u ∷ v ∷ w ∷ z ∷ ws) m = absurd (let e = m.one_each in omega arith)

  pub from_hits : (m : Hits P Q R T) → MeanIn (m.u ∷ m.v ∷ m.w ∷ []) (A ∷ B ∷ C ∷ []) S
  from_hits m =
      let n : ℕ = m.u + (m.v + (m.w + 0)) in
      record {
        one_each = refl;
        some = omega arith;
        left = diff_le (side k n t.al) (sum k m.u m.v m.w f.ax g.ax h.ax) (omega arith);
        right = diff_le (sum k m.u m.v m.w f.ax g.ax h.ax) (side k n t.ar) (omega arith);
        top = diff_le (side k n t.at) (sum k m.u m.v m.w f.ay g.ay h.ay) (omega arith);
        bottom = diff_le (sum k m.u m.v m.w f.ay g.ay h.ay) (side k n t.ab) (omega arith);
      }
