-- The touched tiles of a shape as a list: a tile of the screen stands in it exactly if the shape touches it.
use mathlib.Core.Path.{◌≡◌, subst}
use mathlib.Core.Logic.{⊎_elim}
use mathlib.Core.List.{List}
use Prim.Native.Nat.{ℕ, ◌<◌}
use native.Mathlib.Nat.{eq-zero-or-pos}
use Rattle.screen.specs.declared.Screen.{Screen}
use Rattle.screen.specs.Screen.{Allowed, tiles}
use Rattle.screen.specs.Rectangle.{rectangle, Proper}
use Rattle.screen.proofs.Laws.{rectangle_proper, column<, row<}
use Rattle.shape.specs.declared.Shape.{Shape}
use Rattle.touch.specs.Touches.{Touches}
use Rattle.walk.specs.Touched.{TouchedTiles}
use Rattle.pool.specs.State.{times}
use Rattle.lists.proofs.Named.{place_named, named_place}

-- the rectangle of a tile of the screen
pub tile_proper : (d : Screen) → Allowed d → (t : ℕ) → t < tiles d → Proper (rectangle d t)
tile_proper d a t h = rectangle_proper d a (column< d a t) (row< d a t h)

module _ {d : Screen} {shape : Shape} {ts : List ℕ} (T : TouchedTiles d shape ts) where
  pub in_touched : (t : ℕ) → 0 < times t ts → (t < tiles d) × Touches shape (rectangle d t)
  in_touched t h =
      let r = named_place ts t h in
      subst (λ (u : ℕ). (u < tiles d) × Touches shape (rectangle d u)) r.2 (T.touched r.0 r.1)

  pub touched_in : (t : ℕ) → t < tiles d → Touches shape (rectangle d t) → 0 < times t ts
  touched_in t h k =
      let r = T.all t h k in
      subst (λ (u : ℕ). 0 < times u ts) r.2 (place_named ts r.0 r.1)

  pub untouched_in : (t : ℕ) → t < tiles d → (Touches shape (rectangle d t) → ⊥) → times t ts ≡ 0
  untouched_in t h n =
      ⊎_elim (λ (z : times t ts ≡ 0). z) (λ (k : 0 < times t ts). absurd (n (in_touched t k).1)) (eq-zero-or-pos (times t ts))
