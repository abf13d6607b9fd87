-- A shape is listed in some tile exactly if it has a point on the glass.
use mathlib.Core.List.{List}
use mathlib.Core.Logic.{◌↔◌}
use Prim.Native.Nat.{ℕ, ◌<◌}
use native.Mathlib.Omega.{arith}
use lib.ListN.{length, get_or}
use Rattle.screen.specs.declared.Screen.{Screen}
use Rattle.screen.specs.Screen.{Allowed}
use Rattle.screen.specs.Rectangle.{glass}
use Rattle.shape.specs.declared.Shape.{Shape}
use Rattle.touch.specs.Touches.{Touches}
use Rattle.touch.proofs.Glass.{on_the_glass}
use Rattle.walk.specs.Touched.{TouchedTiles}

pub listed_on_the_glass : (d : Screen) → Allowed d → (shape : Shape) {ts : List ℕ} → TouchedTiles d shape ts → (0 < length ts) ↔ Touches shape (glass d)
listed_on_the_glass d a shape {ts} w = (
  (λ h. let f = w.touched 0 h in (on_the_glass d a shape).1 (get_or ts 0 0, f.0, f.1)),
  (λ h.
      let t = (on_the_glass d a shape).0 h in
      let f = w.all t.0 t.1 t.2 in
      let l = f.1 in
      omega arith),
)
