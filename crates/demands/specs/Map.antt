-- The map of a shape, which is lent no pool: demand 1 of it, and that it agrees with the walk and with what a bin lists.
use Rattle.std.specs.Prelude.{◌≡◌, ◌≢◌, ◌⊎◌, ◌↔◌, List, [], ◌∷◌, ℕ, ◌+◌, ◌<◌, length, get_or}
use Rattle.screen.specs.declared.Screen.{Screen}
use Rattle.screen.specs.Screen.{tiles}
use Rattle.shape.specs.declared.Shape.{Shape}
use Rattle.walk.specs.Touched.{TouchedTiles}
use Rattle.quarters.specs.Map.{MapSays}
use Rattle.pool.specs.Words.{layout_of}
use Rattle.pool.specs.Sound.{Sound, screen_of, tiles_of}
use Rattle.calls.specs.Told.{Binned}
use Rattle.calls.specs.Tables.{list_in, BinSays}
use Rattle.demands.specs.Demand1.{Among, Outside}

-- a refusal gives one of its numbers and leaves every byte; an accepted call writes a 0 or a 1 for each tile, and no byte past the tiles
pub record Demand1Map (d : Screen) (p : List ℕ) (number : ℕ) (q : List ℕ) : Type 0 where
  pub number_is : (number ≡ 0) ⊎ Among number (1 ∷ 7 ∷ 11 ∷ [])
  pub refused : number ≢ 0 → q ≡ p
  pub outside : number ≡ 0 → Outside (tiles d) p q
  pub bytes : number ≡ 0 → (t : ℕ) → t < tiles d → Among (get_or q t 0) (0 ∷ 1 ∷ [])

-- on every shape: byte t is 1 exactly if tile t is in the list of touched tiles, which is what either walk lists
abbrev pub AgreesWithTheWalk : Type 0
AgreesWithTheWalk =
    (d : Screen) (shape : Shape) (p q : List ℕ) → MapSays d shape p 0 q → (ts : List ℕ) → TouchedTiles d shape ts
    → (t : ℕ) → t < tiles d → get_or q t 0 ≡ 1 ↔ ((i : ℕ) × (i < length ts) × (get_or ts i 0 ≡ t))

-- an accepted bin of the shape on a pool of that screen: the list of tile t gains as many entries as byte t says
abbrev pub AgreesWithTheBin : Type 0
AgreesWithTheBin =
    (p : List ℕ) → Sound (layout_of p) p → (shape : Shape) (id : ℕ) (a : Binned) (q : List ℕ) → BinSays p shape id a q → a.number ≡ 0
    → (old new : List ℕ) → MapSays (screen_of p) shape old 0 new
    → (t : ℕ) → t < tiles_of p → length (list_in q t) ≡ length (list_in p t) + get_or new t 0
