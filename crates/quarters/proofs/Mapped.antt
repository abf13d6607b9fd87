-- The map: the square that holds the grid, with ones for its touched tiles over zeros, is the map. A map says exactly which tiles are touched, agrees with the
-- walk, and admits one outcome only.
use mathlib.Core.Path.{◌≡◌, refl, sym, subst, ◌∙◌}
use mathlib.Core.Bool.{Bool, true, false}
use mathlib.Core.Logic.{◌↔◌, ◌⊎◌, inl, inr, ⊎_elim}
use mathlib.Core.List.{List}
use Prim.Native.Nat.{ℕ, ◌≤◌, ◌<◌}
use native.Mathlib.Omega.{arith}
use lib.ListN.{length, get_or}
use lib.Seq.{ext_get_or}
use Rattle.numbers.specs.Says.{Says}
use Rattle.numbers.proofs.Ceil.{lt_or_ge}
use Rattle.screen.specs.declared.Screen.{Screen}
use Rattle.screen.specs.Screen.{Allowed, tiles}
use Rattle.screen.specs.Rectangle.{rectangle}
use Rattle.screen.proofs.Laws.{rectangle_proper, column<, row<}
use Rattle.shape.specs.declared.Shape.{Shape}
use Rattle.touch.specs.Touches.{Touches}
use Rattle.touch.proofs.Answers.{corner, corner_says_touching}
use Rattle.walk.specs.Touched.{TouchedTiles}
use Rattle.quarters.specs.declared.Square.{Square}
use Rattle.quarters.specs.Square.{TouchedIn, HoldsGrid}
use Rattle.quarters.specs.Map.{Mapped, BytesSet, WithOnes}

module _ (d : Screen) (a : Allowed d) (shape : Shape) where
  pub mapped : {q : Square} {old mid new : List ℕ} → HoldsGrid d q → BytesSet 0 0 (tiles d) old mid → WithOnes (TouchedIn d shape q) mid new
      → Mapped d shape old new
  mapped g c f =
      let x = g.column in
      let y = g.row in
      record {
        size = f.size ∙ c.size;
        touched = λ t l h. f.ones t (
          record {
            on_grid = l;
            column≥ = omega arith;
            column< = let w = column< d a t in let k = g.smallest.first in omega arith;
            row≥ = omega arith;
            row< = let w = row< d a t l in let k = g.smallest.second in omega arith;
          },
          h,
        );
        apart = λ t l n. f.rest t (λ h. n h.1) ∙ c.within t (omega arith) l;
        rest = λ i l. f.rest i (λ h. let k = h.0.on_grid in omega arith) ∙ c.over i (omega arith) l;
      }

  -- touching a tile is decided
  pub decided : (t : ℕ) → t < tiles d → Touches shape (rectangle d t) ⊎ (Touches shape (rectangle d t) → ⊥)
  decided t l = answer (corner shape (rectangle d t)) (corner_says_touching shape (rectangle d t) (rectangle_proper d a (column< d a t) (row< d a t l)))
    where
      answer : (r : Bool) → Says r (Touches shape (rectangle d t)) → Touches shape (rectangle d t) ⊎ (Touches shape (rectangle d t) → ⊥)
      answer true s = inl (s.yes refl)
      answer false s = inr (s.no refl)

  -- byte t is 1 exactly if tile t is touched
  pub map_says : {old new : List ℕ} → Mapped d shape old new → (t : ℕ) → t < tiles d → get_or new t 0 ≡ 1 ↔ Touches shape (rectangle d t)
  map_says m t l = (
    λ e. ⊎_elim (λ h. h) (λ n. absurd (let z = m.apart t l n in omega arith)) (decided t l),
    m.touched t l,
  )

  -- the map agrees with the walk: byte t is 1 exactly if t is among the tiles that the walk lists
  pub agrees_with_the_walk : {old new ts : List ℕ} → Mapped d shape old new → TouchedTiles d shape ts
      → (t : ℕ) → t < tiles d → get_or new t 0 ≡ 1 ↔ ((i : ℕ) × (i < length ts) × (get_or ts i 0 ≡ t))
  agrees_with_the_walk {old} {new} {ts} m w t l = (
    λ e. w.all t l ((map_says m t l).0 e),
    λ p. m.touched t l (subst (λ (k : ℕ). Touches shape (rectangle d k)) p.2 (w.touched p.0 p.1).1),
  )

  -- two maps of one shape over the same bytes are one
  pub one_map : {old p q : List ℕ} → Mapped d shape old p → Mapped d shape old q → p ≡ q
  one_map {old} {p} {q} m n =
      ext_get_or 0 p q (m.size ∙ sym n.size)
      (λ i h. ⊎_elim
      (λ (l : i < tiles d). ⊎_elim (λ t. m.touched i l t ∙ sym (n.touched i l t)) (λ t. m.apart i l t ∙ sym (n.apart i l t)) (decided i l))
      (λ (l : tiles d ≤ i). m.rest i l ∙ sym (n.rest i l))
      (lt_or_ge i (tiles d)))
