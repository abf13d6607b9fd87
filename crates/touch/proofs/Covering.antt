-- The test of the edges answers exactly whether a shape covers a rectangle wholly, of every kind of shape and in every winding;
-- points, lines and triangles without area never do.
use Prim.Native.Nat.{ℕ, ◌+◌, ◌<◌, ◌≤◌}
use mathlib.Core.Path.{◌≡◌, refl, sym, subst}
use mathlib.Core.List.{[], ◌∷◌}
use mathlib.Core.Logic.{◌↔◌}
use native.Mathlib.Omega.{arith}
use native.Mathlib.Decide.{dec_lt}
use lib.IntN.{ℤ, pos}
use lib.Signed.{◌≤ℤ◌, ◌<ℤ◌}
use Rattle.numbers.specs.Diff.{Diff}
use Rattle.numbers.specs.Says.{Says}
use Rattle.numbers.proofs.Diff.{diff_pos, diff_any, diff_eq, le_diff, lt_diff}
use Rattle.numbers.proofs.Says.{says_yes, says_no}
use Rattle.screen.specs.declared.Rectangle.{Rectangle}
use Rattle.screen.specs.Rectangle.{Proper, HasArea}
use Rattle.shape.specs.declared.Vertex.{Vertex}
use Rattle.shape.specs.declared.Shape.{Shape}
use Rattle.shape.specs.declared.Shape.TheVariants.{Point, Line}
use Rattle.touch.specs.declared.Edges.{Edges}
use Rattle.touch.specs.declared.Corners.{Corners}
use Rattle.touch.specs.declared.RowEdges.{RowEdges}
use Rattle.touch.specs.declared.Cover as answer
use Rattle.touch.specs.Corner.{three, triangle, Box, edge_value}
use Rattle.touch.specs.Corner.Apart.{above, below}
use Rattle.touch.specs.Edges.{edges_of, starts, Outline, row_edges, Clear}
use Rattle.touch.specs.Cover.{HasPoint, Wholly, CoverSays, is_touched, is_whole}
use Rattle.touch.specs.Inner.{OnSide, AllApart, Keeps, Enclosed, corners_at, EnclosedAt, CoverAt}
use Rattle.touch.specs.Inner.OnSide.{over, under}
use Rattle.touch.proofs.Natural.{Spot, Frame, Hits, turn, Pos}
use Rattle.touch.proofs.Bias.{Spotted, Framed, depth, depth_of, spot, frame, spotted, framed, is_above, is_below, not_above, not_below, edge_diff, to_hits, from_hits}
use Rattle.touch.proofs.Weights.{touches_as_triangle}
use Rattle.touch.proofs.Points.{point_is_touched, wholly_by_points, wholly_touches}
use Rattle.touch.proofs.Sides.{dot, on_side, rotate, swap, mean_of, no_area}
use Rattle.touch.proofs.Theorem.{clear_is_touching}

-- ---- the side of a value, in naturals

module _ {third v : ℤ} {s s' r r' : ℕ} (d : Diff third s s') (e : Diff v r r') where
  up_from : s' < s → OnSide third v → r' ≤ r
  up_from h (over z p) = (not_below e).0 p
  up_from h (under z p) = absurd (omega (arith, (is_below d).0 z))

  down_from : s < s' → OnSide third v → r ≤ r'
  down_from h (over z p) = absurd (omega (arith, (is_above d).0 z))
  down_from h (under z p) = (not_above e).0 p

  up_to : s' < s → r' ≤ r → OnSide third v
  up_to h p = over ((is_above d).1 h) ((not_below e).1 p)

  down_to : s < s' → r ≤ r' → OnSide third v
  down_to h p = under ((is_below d).1 h) ((not_above e).1 p)

-- ---- the four corners of a frame as means of three

record AllHits (A B C : Spot) (T : Frame) : Type 0 where
  lt : Hits A B C (dot T.l T.t)
  rt : Hits A B C (dot T.r T.t)
  lb : Hits A B C (dot T.l T.b)
  rb : Hits A B C (dot T.r T.b)

module _ (A B C : Spot) (T : Frame) where
  rotate_all : AllHits A B C T → AllHits B C A T
  rotate_all h =
      record { lt = rotate A B C _ _ h.lt; rt = rotate A B C _ _ h.rt; lb = rotate A B C _ _ h.lb; rb = rotate A B C _ _ h.rb }

module _ (k : ℕ) {q : Rectangle} {T : Frame} (t : Framed k q T) {A B C : Vertex} {P Q R : Spot} (f : Spotted k A P) (g : Spotted k B Q) (h : Spotted k C R) where
  third : Diff (edge_value A B C.x C.y) (turn P Q R.x R.y) (turn Q P R.x R.y)
  third = edge_diff k t f g h h.ax h.ay

  keeps-up : Pos P Q R.x R.y → AllHits P Q R T → Keeps A B C q
  keeps-up z m =
      record {
        p = up_to third (edge_diff k t f g h t.al t.at) z (on_side P Q R _ _ m.lt (omega arith));
        q = up_to third (edge_diff k t f g h t.ar t.at) z (on_side P Q R _ _ m.rt (omega arith));
        r = up_to third (edge_diff k t f g h t.al t.ab) z (on_side P Q R _ _ m.lb (omega arith));
        s = up_to third (edge_diff k t f g h t.ar t.ab) z (on_side P Q R _ _ m.rb (omega arith));
      }

  keeps_down : Pos Q P R.x R.y → AllHits P Q R T → Keeps A B C q
  keeps_down z m =
      record {
        p = down_to third (edge_diff k t f g h t.al t.at) z (on_side Q P R _ _ (swap P Q R _ _ m.lt) (omega arith));
        q = down_to third (edge_diff k t f g h t.ar t.at) z (on_side Q P R _ _ (swap P Q R _ _ m.rt) (omega arith));
        r = down_to third (edge_diff k t f g h t.al t.ab) z (on_side Q P R _ _ (swap P Q R _ _ m.lb) (omega arith));
        s = down_to third (edge_diff k t f g h t.ar t.ab) z (on_side Q P R _ _ (swap P Q R _ _ m.rb) (omega arith));
      }

-- ---- the theorem, under one number that makes the shape and the rectangle natural

module _ (shape : Shape) (q : Rectangle) where
  abbrev A : Vertex
  A = (three shape).a

  abbrev B : Vertex
  B = (three shape).b

  abbrev C : Vertex
  C = (three shape).c

  abbrev k : ℕ
  k = depth A + depth B + depth C + depth_of q

  abbrev P : Spot
  P = spot k A

  abbrev Q : Spot
  Q = spot k B

  abbrev R : Spot
  R = spot k C

  a : Spotted k A P
  a = spotted k A (omega arith)

  b : Spotted k B Q
  b = spotted k B (omega arith)

  c : Spotted k C R
  c = spotted k C (omega arith)

  f : Framed k q (frame k q)
  f = framed k q (omega arith)

  module _ {x y : ℤ} {m n : ℕ} (dx : Diff x m k) (dy : Diff y n k) where
    hit : HasPoint shape x y → Hits P Q R (dot m n)
    hit h =
        let g = (touches_as_triangle shape).0 ((point_is_touched shape).0 h) in
        to_hits k (record { al = dx; ar = dx; at = dy; ab = dy }) a b c g.weights g.mean

    point : Hits P Q R (dot m n) → HasPoint shape x y
    point h =
        (point_is_touched shape).1
        ((touches_as_triangle shape).1
        (record { weights = h.u ∷ h.v ∷ h.w ∷ []; mean = from_hits k (record { al = dx; ar = dx; at = dy; ab = dy }) a b c h }))

    kept_point : OnSide (edge_value A B C.x C.y) (edge_value A B x y) → OnSide (edge_value B C A.x A.y) (edge_value B C x y)
        → OnSide (edge_value C A B.x B.y) (edge_value C A x y) → HasPoint shape x y
    kept_point (over z p) i j =
        let up : Pos P Q R.x R.y = (is_above (third k f a b c)).0 z in
        point
        (mean_of P Q R m n up ((not_below (edge_diff k f a b c dx dy)).0 p)
        (up_from (third k f b c a) (edge_diff k f b c a dx dy) (omega arith) i)
        (up_from (third k f c a b) (edge_diff k f c a b dx dy) (omega arith) j))
    kept_point (under z p) i j =
        let down : Pos Q P R.x R.y = (is_below (third k f a b c)).0 z in
        point
        (swap Q P R m n
        (mean_of Q P R m n down ((not_above (edge_diff k f a b c dx dy)).0 p)
        (down_from (third k f c a b) (edge_diff k f c a b dx dy) (omega arith) j)
        (down_from (third k f b c a) (edge_diff k f b c a dx dy) (omega arith) i)))

  enclosed_wholly : Enclosed shape q → Wholly shape q
  enclosed_wholly h =
      record {
        left_top = kept_point f.al f.at h.ab.p h.bc.p h.ca.p;
        right_top = kept_point f.ar f.at h.ab.q h.bc.q h.ca.q;
        left_bottom = kept_point f.al f.ab h.ab.r h.bc.r h.ca.r;
        right_bottom = kept_point f.ar f.ab h.ab.s h.bc.s h.ca.s;
      }

  all_hits : Wholly shape q → AllHits P Q R (frame k q)
  all_hits w =
      record {
        lt = hit f.al f.at w.left_top;
        rt = hit f.ar f.at w.right_top;
        lb = hit f.al f.ab w.left_bottom;
        rb = hit f.ar f.ab w.right_bottom;
      }

  wholly_enclosed : HasArea q → Wholly shape q → Enclosed shape q
  wholly_enclosed area w = go (dec_lt (turn Q P R.x R.y) (turn P Q R.x R.y)) (dec_lt (turn P Q R.x R.y) (turn Q P R.x R.y))
    where
      m : AllHits P Q R (frame k q)
      m = all_hits w

      go : Dec (Pos P Q R.x R.y) → Dec (Pos Q P R.x R.y) → Enclosed shape q
      go (yes up) d =
          record {
            ab = keeps-up k f a b c up m;
            bc = keeps-up k f b c a (omega arith) (rotate_all P Q R _ m);
            ca = keeps-up k f c a b (omega arith) (rotate_all Q R P _ (rotate_all P Q R _ m));
          }
      go (no n) (yes down) =
          record {
            ab = keeps_down k f a b c down m;
            bc = keeps_down k f b c a (omega arith) (rotate_all P Q R _ m);
            ca = keeps_down k f c a b (omega arith) (rotate_all Q R P _ (rotate_all P Q R _ m));
          }
      go (no n) (no o) =
          let wide = lt_diff f.al f.ar area.wide in
          let high = lt_diff f.at f.ab area.high in
          absurd
          (no_area P Q R (frame k q).l (frame k q).r (frame k q).t (frame k q).b (omega arith) (omega arith) (omega arith) m.lt m.rt m.lb)

  area_diff : Diff (edge_value A B C.x C.y) (turn P Q R.x R.y) (turn Q P R.x R.y)
  area_diff = third k f a b c

-- the four corners are points of the shape exactly if they are on the third vertex's side of all three edges, or on them, and the shape has an area
pub enclosed_is_wholly : (shape : Shape) {q : Rectangle} → HasArea q → Enclosed shape q ↔ Wholly shape q
enclosed_is_wholly shape {q} area = (enclosed_wholly shape q, wholly_enclosed shape q area)

-- ---- what has no area covers no tile

no_side : {third v : ℤ} → third ≡ pos 0 → OnSide third v → ⊥
no_side e (over z p) = let h = lt_diff (diff_pos 0) (diff_pos 0) (subst (λ (x : ℤ). pos 0 <ℤ x) e z) in omega arith
no_side e (under z p) = let h = lt_diff (diff_pos 0) (diff_pos 0) (subst (λ (x : ℤ). x <ℤ pos 0) e z) in omega arith

pub no_area_never_wholly : (shape : Shape) {q : Rectangle} → edge_value (three shape).a (three shape).b (three shape).c.x (three shape).c.y ≡ pos 0
    → HasArea q → Wholly shape q → ⊥
no_area_never_wholly shape e area w = no_side e ((enclosed_is_wholly shape area).1 w).ab.p

pub point_never_wholly : {a : Vertex} {q : Rectangle} → HasArea q → Wholly (Point a) q → ⊥
point_never_wholly {a} {q} = no_area_never_wholly (Point a) (diff_eq (area_diff (Point a) q) (diff_pos 0) (omega arith))

pub line_never_wholly : {a b : Vertex} {q : Rectangle} → HasArea q → Wholly (Line a b) q → ⊥
line_never_wholly {a} {b} {q} = no_area_never_wholly (Line a b) (diff_eq (area_diff (Line a b) q) (diff_pos 0) (omega arith))

-- ---- what no edge lets beyond it no edge separates, so that the answers partly and wholly say `Clear`

lt_not_le : {x y : ℤ} → x <ℤ y → y ≤ℤ x → ⊥
lt_not_le {x} {y} h k =
    let p = lt_diff (diff_any x) (diff_any y) h in
    let q = le_diff (diff_any y) (diff_any x) k in
    omega arith

inner_not_outer : {third : ℤ} {v : Corners} → OnSide third v.p → AllApart third v → ⊥
inner_not_outer (over z p) (above t a b c d) = lt_not_le z t
inner_not_outer (over z p) (below t a b c d) = lt_not_le a p
inner_not_outer (under z p) (above t a b c d) = lt_not_le a p
inner_not_outer (under z p) (below t a b c d) = lt_not_le z t

pub enclosed_is_clear : {e : RowEdges} {left right : ℤ} → EnclosedAt e left right → Clear e left right
enclosed_is_clear {e} {left} {right} h =
    record {
      ab = inner_not_outer {v = corners_at e.ab left right} h.ab.p;
      bc = inner_not_outer {v = corners_at e.bc left right} h.bc.p;
      ca = inner_not_outer {v = corners_at e.ca left right} h.ca.p;
    }

-- so the answer in a row tells of each whether it holds
pub cover_says_clear : {e : RowEdges} {left right : ℤ} (r : answer.Cover) → CoverAt r e left right → Says (is_touched r) (Clear e left right)
cover_says_clear answer.TheVariants.Apart n = says_no n
cover_says_clear answer.TheVariants.Partly h = says_yes h.0
cover_says_clear answer.TheVariants.Wholly h = says_yes (enclosed_is_clear h)

pub cover_says_enclosed : {e : RowEdges} {left right : ℤ} (r : answer.Cover) → CoverAt r e left right → Says (is_whole r) (EnclosedAt e left right)
cover_says_enclosed answer.TheVariants.Apart n = says_no (λ h. n (enclosed_is_clear h))
cover_says_enclosed answer.TheVariants.Partly h = says_no h.1
cover_says_enclosed answer.TheVariants.Wholly h = says_yes h

-- ---- what is computed of the edges in the rectangle's row decides

pub cover_at_says : (shape : Shape) {q : Rectangle} → Proper q → HasArea q → Box shape q → (r : answer.Cover)
    → CoverAt r (row_edges (edges_of (three shape)) q.top q.bottom) q.left q.right → CoverSays r shape q
cover_at_says shape ok area box answer.TheVariants.Apart n = λ t. n ((clear_is_touching shape ok box).1 t)
cover_at_says shape ok area box answer.TheVariants.Partly (h, n) = (
  (clear_is_touching shape ok box).0 h,
  λ w. let e = (enclosed_is_wholly shape area).1 w in n (record { ab = e.ab; bc = e.bc; ca = e.ca }),
)
cover_at_says shape ok area box answer.TheVariants.Wholly h = (enclosed_is_wholly shape area).0 (record { ab = h.ab; bc = h.bc; ca = h.ca })

-- so does what is computed of them alone, wherever the box is
pub outline_enclosed_is_wholly : {e : Edges} {q : Rectangle} → Outline e → HasArea q
    → EnclosedAt (row_edges e q.top q.bottom) q.left q.right ↔ Wholly (triangle (starts e)) q
outline_enclosed_is_wholly {e} {q} o area =
    subst (λ (d : Edges). EnclosedAt (row_edges d q.top q.bottom) q.left q.right ↔ Wholly (triangle (starts e)) q) (sym o.is) (
      (λ h. (enclosed_is_wholly (triangle (starts e)) area).0 (record { ab = h.ab; bc = h.bc; ca = h.ca })),
      λ w. let h = (enclosed_is_wholly (triangle (starts e)) area).1 w in record { ab = h.ab; bc = h.bc; ca = h.ca },
    )

-- ---- a shape covers as the triangle of its three vertices does

pub point_as_triangle : (shape : Shape) {x y : ℤ} → HasPoint shape x y ↔ HasPoint (triangle (three shape)) x y
point_as_triangle shape = (
  λ h. (point_is_touched (triangle (three shape))).1 ((touches_as_triangle shape).0 ((point_is_touched shape).0 h)),
  λ h. (point_is_touched shape).1 ((touches_as_triangle shape).1 ((point_is_touched (triangle (three shape))).0 h)),
)

pub wholly_as_triangle : (shape : Shape) {q : Rectangle} → Wholly shape q ↔ Wholly (triangle (three shape)) q
wholly_as_triangle shape = (wholly_by_points (λ x y. (point_as_triangle shape).0), wholly_by_points (λ x y. (point_as_triangle shape).1))

-- the row's answer for the triangle is the answer for the shape
pub cover_as_triangle : (shape : Shape) (q : Rectangle) (r : answer.Cover) → CoverSays r (triangle (three shape)) q → CoverSays r shape q
cover_as_triangle shape q answer.TheVariants.Apart n = λ t. n ((touches_as_triangle shape).0 t)
cover_as_triangle shape q answer.TheVariants.Partly h = ((touches_as_triangle shape).1 h.0, λ w. h.1 ((wholly_as_triangle shape).0 w))
cover_as_triangle shape q answer.TheVariants.Wholly w = (wholly_as_triangle shape).1 w

-- ---- one answer only

pub one_cover : (shape : Shape) {q : Rectangle} → Proper q → (r s : answer.Cover) → CoverSays r shape q → CoverSays s shape q → r ≡ s
one_cover shape ok answer.TheVariants.Apart answer.TheVariants.Apart h k = refl
one_cover shape ok answer.TheVariants.Apart answer.TheVariants.Partly h k = absurd (h k.0)
one_cover shape ok answer.TheVariants.Apart answer.TheVariants.Wholly h k = absurd (h (wholly_touches ok k))
one_cover shape ok answer.TheVariants.Partly answer.TheVariants.Apart h k = absurd (k h.0)
one_cover shape ok answer.TheVariants.Partly answer.TheVariants.Partly h k = refl
one_cover shape ok answer.TheVariants.Partly answer.TheVariants.Wholly h k = absurd (h.1 k)
one_cover shape ok answer.TheVariants.Wholly answer.TheVariants.Apart h k = absurd (k (wholly_touches ok h))
one_cover shape ok answer.TheVariants.Wholly answer.TheVariants.Partly h k = absurd (k.1 h)
one_cover shape ok answer.TheVariants.Wholly answer.TheVariants.Wholly h k = refl
