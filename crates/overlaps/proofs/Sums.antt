-- The totals as computed numbers: they are what the definition says, they fit their types, and how a shape changes them.
use mathlib.Core.Path.{◌≡◌, refl, sym, ap, subst, ◌∙◌}
use mathlib.Core.Bool.{Bool, true, false, not, cond, ◌||◌}
use mathlib.Core.Logic.{⊎_elim}
use Prim.Native.Nat.{ℕ, suc, ◌+◌, ◌≤◌, ◌<◌}
use native.Mathlib.Omega.{arith}
use lib.Dec.{eqb, ltb}
use Rattle.numbers.specs.Says.{Says}
use Rattle.numbers.specs.Sum.{sum_to, one}
use Rattle.numbers.proofs.Says.{says_not, says_true, says_false}
use Rattle.numbers.proofs.Deciding.{says_lt, says_eq}
use Rattle.numbers.proofs.Ceil.{lt_or_ge, below_or_last}
use Rattle.numbers.proofs.Sum.{sum_to_all, sum_to_most, sum_to_part}
use Rattle.screen.specs.declared.Screen.{Screen}
use Rattle.screen.specs.Screen.{Allowed, tiles}
use Rattle.shape.specs.declared.Shape.{Shape}
use Rattle.shape.specs.Shape.{InRange, in_range}
use Rattle.shape.proofs.Range.{in_range_test}
use Rattle.overlaps.specs.declared.Totals.{Totals}
use Rattle.overlaps.specs.HowMany.{HowMany, TilesByBox, TilesByTouching}
use Rattle.overlaps.specs.Totals.{OfEach, Largest, none, some, TotalsOf}
use Rattle.overlaps.specs.Adding.{no_totals, with_shape, with_other, With, counted, other, Bounded}
use Rattle.overlaps.proofs.Counting.{counts_once, counts≤}
use Rattle.overlaps.proofs.Tiles.{box_tiles, touched_tiles, box_counts, touched-counts, touched≤box}

module _ (d : Screen) (shape : ℕ → Shape) where
  unfoldable pub inside : ℕ → Bool
  inside i = in_range (shape i)

  inside_says : (i : ℕ) → Says (inside i) (InRange (shape i))
  unfolding inside
  inside_says i = in_range_test (shape i)

  abbrev pub boxes : ℕ → ℕ
  boxes i = cond (inside i) (box_tiles d (shape i)) 0

  abbrev pub touches : ℕ → ℕ
  touches i = cond (inside i) (touched_tiles d (shape i)) 0

  -- the totals of the first n shapes
  pub record Sums (n : ℕ) (t : Totals) : Type 0 where
    pub shapes : t.shapes ≡ sum_to n (λ i. one (inside i))
    pub others : t.out_of_range ≡ sum_to n (λ i. one (not (inside i)))
    pub boxed : t.box_tiles ≡ sum_to n boxes
    pub touched : t.touched_tiles ≡ sum_to n touches
    pub difference : t.difference + t.touched_tiles ≡ t.box_tiles
    pub largest : Largest shape n touches t.largest t.place

  pub sums_none : Sums 0 no_totals
  sums_none = record { shapes = refl; others = refl; boxed = refl; touched = refl; difference = refl; largest = none (λ i l. absurd (omega arith)) refl refl }

  -- ---- the definitions hold of the computed numbers

  each : (Is : Shape → ℕ → Type 0) (g : Shape → ℕ) (n : ℕ) → ((s : Shape) → Is s (g s)) → OfEach Is shape n (λ i. cond (inside i) (g (shape i)) 0)
  each Is g n is =
      record {
        in_range = λ i l r. rw (says_true (inside_says i) r) (is (shape i));
        out_of_range = λ i l r. rw (says_false (inside_says i) r) refl;
      }

  pub sums_totals : Allowed d → {n : ℕ} {t : Totals} → Sums n t → TotalsOf d shape n t
  sums_totals a {n} h =
      record {
        boxes = boxes;
        touches = touches;
        boxes_are = each (TilesByBox d) (box_tiles d) n (box_counts d);
        touches_are = each (TilesByTouching d) (touched_tiles d) n (λ s. touched-counts d s a);
        shapes_is = record { test = inside; says = λ i l. inside_says i; sum = h.shapes };
        out_of_range_is = record { test = λ i. not (inside i); says = λ i l. says_not (inside_says i); sum = h.others };
        box_tiles_is = h.boxed;
        touched_tiles_is = h.touched;
        difference_is = h.difference;
        largest_is = h.largest;
      }

  -- ---- how large they are

  few_tiles : Allowed d → {c : ℕ} {P : ℕ → Type 0} → HowMany (tiles d) P c → (b : Bool) → cond b c 0 ≤ 4096
  few_tiles a h true = let t = a.tiles≤ in omega (arith, counts≤ h)
  few_tiles a h false = omega arith

  pub sums_bounded : Allowed d → {n : ℕ} {t : Totals} → Sums n t → Bounded n t
  sums_bounded a {n} {t} h =
      let b = sum_to_most n 4096 boxes (λ i l. few_tiles a (box_counts d (shape i)) (inside i)) in
      let u = sum_to_most n 4096 touches (λ i l. few_tiles a (touched-counts d (shape i) a) (inside i)) in
      let boxed = h.boxed in
      let touched = h.touched in
      let difference = h.difference in
      record {
        shapes≤ = counts≤ (sums_totals a h).shapes_is;
        out_of_range≤ = counts≤ (sums_totals a h).out_of_range_is;
        box_tiles≤ = omega arith;
        touched_tiles≤ = omega arith;
        difference≤ = omega arith;
      }

  -- ---- a shape more

  module _ (a : Allowed d) {n : ℕ} {t : Totals} (h : Sums n t) where
    -- no shape is in range exactly where their number is 0
    none_inside : t.shapes ≡ 0 → (i : ℕ) → i < n → InRange (shape i) → ⊥
    none_inside e i l r =
        let s = h.shapes in
        omega (arith, sum_to_part n (λ j. one (inside j)) i l, ap one (says_true (inside_says i) r))

    shapes_none : ((i : ℕ) → i < n → InRange (shape i) → ⊥) → t.shapes ≡ 0
    shapes_none f = h.shapes ∙ (omega (arith, sum_to_all n 0 (λ i. one (inside i)) (λ i l. ap one (says_false (inside_says i) (f i l)))))

    module _ (out : InRange (shape n) → ⊥) where
      outside : inside n ≡ false
      outside = says_false (inside_says n) out

      still : Largest shape n touches t.largest t.place → Largest shape (suc n) touches t.largest t.place
      still (none f e g) = none (λ i l r. ⊎_elim (λ (u : i < n). f i u r) (λ (u : i ≡ n). out (subst (λ (j : ℕ). InRange (shape j)) u r)) (below_or_last i n l)) e g
      still (some p r e f g) =
          some (omega arith) r e
          (λ i l q. ⊎_elim (λ (u : i < n). f i u q) (λ (u : i ≡ n). absurd (out (subst (λ (j : ℕ). InRange (shape j)) u q))) (below_or_last i n l))
          g

      pub sums_other : Sums (suc n) (with_other t)
      sums_other =
          let s = h.shapes in
          let o = h.others in
          let b = h.boxed in
          let u = h.touched in
          record {
            shapes = rw (outside) (omega arith);
            others = rw (outside) (omega arith);
            boxed = rw (outside) (omega arith);
            touched = rw (outside) (omega arith);
            difference = h.difference;
            largest = still h.largest;
          }

    module _ (r : InRange (shape n)) where
      abbrev b : ℕ
      b = box_tiles d (shape n)

      abbrev u : ℕ
      u = touched_tiles d (shape n)

      inside-n : inside n ≡ true
      inside-n = says_true (inside_says n) r

      touches-n : touches n ≡ u
      touches-n = ap (λ (z : Bool). cond z u 0) inside-n

      abbrev Grown : (z : Bool) → Type 0
      Grown z = Largest shape (suc n) touches (cond z u t.largest) (cond z n t.place)

      -- the new shape leads: each before it touches fewer tiles, or there is none
      lead : ((i : ℕ) → i < n → InRange (shape i) → touches i < u) → Largest shape (suc n) touches u n
      lead f =
          some (omega arith) r touches-n
          (λ i l q. ⊎_elim (λ (w : i < n). let k = f i w q in omega arith) (λ (w : i ≡ n). rw (w, touches-n) (omega arith)) (below_or_last i n l))
          f

      grown : Largest shape n touches t.largest t.place → (y z : Bool) → Says y (t.shapes ≡ 0) → Says z (t.largest < u) → Grown (y || z)
      grown m true z y-is z-is = lead (λ i l q. absurd (none_inside (y-is.yes refl) i l q))
      grown (none f e g) false z y-is z-is = absurd (y-is.no refl (shapes_none f))
      grown (some p q e f g) false true y-is z-is = lead (λ i l q. let w = f i l q in let k = z-is.yes refl in omega arith)
      grown (some p q e f g) false false y-is z-is =
          some (omega arith) q e
          (λ i l v. ⊎_elim (λ (w : i < n). f i w v) (λ (w : i ≡ n). rw (w, touches-n) (not_less (z-is.no refl))) (below_or_last i n l))
          g
        where
          not_less : (t.largest < u → ⊥) → u ≤ t.largest
          not_less k = ⊎_elim (λ (w : t.largest < u). absurd (k w)) (λ (w : u ≤ t.largest). w) (lt_or_ge t.largest u)

      pub sums_shape : Sums (suc n) (with_shape t n b u)
      sums_shape =
          let s = h.shapes in
          let o = h.others in
          let x = h.boxed in
          let y = h.touched in
          let e = h.difference in
          let fewer : u ≤ b = touched≤box d (shape n) (box_counts d (shape n)) (touched-counts d (shape n) a) in
          record {
            shapes = rw (inside-n) (omega arith);
            others = rw (inside-n) (omega arith);
            boxed = rw (inside-n) (omega arith);
            touched = rw (inside-n) (omega arith);
            difference = omega arith;
            largest = grown h.largest (eqb t.shapes 0) (ltb t.largest u) (says_eq t.shapes 0) (says_lt t.largest u);
          }

    pub sums_more : {e : Totals} → With d (shape n) n t e → Sums (suc n) e
    sums_more (other out e) = subst (Sums (suc n)) (sym e) (sums_other out)
    sums_more (counted r boxed touched x y e) =
        subst (Sums (suc n)) (sym (e ∙ (λ i. with_shape t n (counts_once x (box_counts d (shape n)) i) (counts_once y (touched-counts d (shape n) a) i)))) (sums_shape r)
