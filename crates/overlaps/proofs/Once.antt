-- There is one answer only: two totals of the same shapes are equal in every field.
use mathlib.Core.Path.{◌≡◌, refl, sym, ◌∙◌}
use mathlib.Core.Bool.{Bool, true, false}
use mathlib.Core.Logic.{⊎_elim}
use Prim.Native.Nat.{ℕ, ◌≤◌, ◌<◌}
use native.Mathlib.Omega.{arith}
use Rattle.numbers.specs.Says.{Says}
use Rattle.numbers.proofs.Ceil.{lt_or_ge}
use Rattle.numbers.proofs.Sum.{sum_to_same}
use Rattle.screen.specs.declared.Screen.{Screen}
use Rattle.shape.specs.declared.Shape.{Shape}
use Rattle.shape.specs.Shape.{InRange, in_range}
use Rattle.shape.proofs.Range.{in_range_test}
use Rattle.overlaps.specs.declared.Totals.{Totals}
use Rattle.overlaps.specs.HowMany.{TilesByBox, TilesByTouching}
use Rattle.overlaps.specs.Totals.{OfEach, Largest, none, some, TotalsOf}
use Rattle.overlaps.proofs.Counting.{counts_once}

module _ (d : Screen) (shape : ℕ → Shape) (n : ℕ) where
  each_once : (Is : Shape → ℕ → Type 0) {f g : ℕ → ℕ} → ((s : Shape) (x y : ℕ) → Is s x → Is s y → x ≡ y)
      → OfEach Is shape n f → OfEach Is shape n g → (i : ℕ) → i < n → f i ≡ g i
  each_once Is {f} {g} once h k i l = go (in_range (shape i)) (in_range_test (shape i))
    where
      go : (b : Bool) → Says b (InRange (shape i)) → f i ≡ g i
      go true s = once (shape i) (f i) (g i) (h.in_range i l (s.yes refl)) (k.in_range i l (s.yes refl))
      go false s = h.out_of_range i l (s.no refl) ∙ sym (k.out_of_range i l (s.no refl))

  -- where the number at p is the largest, the first place is not after p
  not_after : (g : ℕ → ℕ) {m p first : ℕ} → InRange (shape p) → g p ≡ m → ((i : ℕ) → i < first → InRange (shape i) → g i < m) → first ≤ p
  not_after g {m} {p} {first} r e below =
      ⊎_elim (λ (w : p < first). let y = below p w r in absurd (omega arith)) (λ (w : first ≤ p). w) (lt_or_ge p first)

  largest_once : {f g : ℕ → ℕ} {m p m' p' : ℕ} → ((i : ℕ) → i < n → f i ≡ g i) → Largest shape n f m p → Largest shape n g m' p' → (m ≡ m') × (p ≡ p')
  largest_once same (none z e k) (none z' e' k') = (e ∙ sym e', k ∙ sym k')
  largest_once same (none z e k) (some l' r' e' f' k') = absurd (z _ l' r')
  largest_once same (some l r e f k) (none z' e' k') = absurd (z' _ l r)
  largest_once {f} {g} {m} {p} {m'} {p'} same (some l r e most first) (some l' r' e' most' first') =
      let s = same p l in
      let s' = same p' l' in
      let x = most p' l' r' in
      let x' = most' p l r in
      let equal : m ≡ m' = omega arith in
      (equal, omega (arith, not_after f r' (s' ∙ e' ∙ sym equal) first, not_after g r (sym s ∙ e ∙ equal) first'))

  pub totals_once : {t u : Totals} → TotalsOf d shape n t → TotalsOf d shape n u → t ≡ u
  totals_once {t} {u} h k =
      let boxes = each_once (TilesByBox d) (λ s x y. counts_once) h.boxes_are k.boxes_are in
      let touches = each_once (TilesByTouching d) (λ s x y. counts_once) h.touches_are k.touches_are in
      let shapes = counts_once h.shapes_is k.shapes_is in
      let others = counts_once h.out_of_range_is k.out_of_range_is in
      let boxed = h.box_tiles_is ∙ sum_to_same n h.boxes k.boxes boxes ∙ sym k.box_tiles_is in
      let touched = h.touched_tiles_is ∙ sum_to_same n h.touches k.touches touches ∙ sym k.touched_tiles_is in
      let e = h.difference_is in
      let f = k.difference_is in
      let difference : t.difference ≡ u.difference = omega arith in
      let largest = largest_once touches h.largest_is k.largest_is in
      (λ i.
      record {
        shapes = shapes i;
        out_of_range = others i;
        box_tiles = boxed i;
        touched_tiles = touched i;
        difference = difference i;
        largest = largest.0 i;
        place = largest.1 i;
      })
