-- A look at a rectangle, edge by edge: on which side of an edge it lies, and of which edges it is known to lie on the inner side.
use Rattle.std.specs.Prelude.{◌≡◌, Bool, true, cond, Option, Some, None}
use Rattle.numbers.specs.Says.{Says}
use Rattle.screen.specs.declared.Rectangle.{Rectangle}
use Rattle.touch.specs.declared.Edge.{Edge}
use Rattle.touch.specs.declared.Edges.{Edges}
use Rattle.touch.specs.declared.Inward.{Inward}
use Rattle.touch.specs.declared.Cover as answer
use Rattle.touch.specs.Touches.{Touches}
use Rattle.touch.specs.Corner.{triangle}
use Rattle.touch.specs.Edges.{starts, row_edge, ApartAt}
use Rattle.touch.specs.Inner.{AllOnSide, corners_at}

-- the edge has all four corners of the rectangle on the side of the third vertex
abbrev pub OnSideOf : Edge → Rectangle → Type 0
OnSideOf e q = AllOnSide e.third (corners_at (row_edge e q.top q.bottom) q.left q.right)

-- it has them strictly on a side on which the third vertex does not lie
abbrev pub ApartOf : Edge → Rectangle → Type 0
ApartOf e q = ApartAt (row_edge e q.top q.bottom) q.left q.right

-- whether the edge has it on its inner side, and nothing where the edge separates it
abbrev pub SideSays : Option Bool → Edge → Rectangle → Type 0
SideSays None e q = ApartOf e q
SideSays (Some on_side) e q = (ApartOf e q → ⊥) × Says on_side (OnSideOf e q)

-- the edges that are named have the rectangle on their inner side
pub record InwardOf (w : Inward) (e : Edges) (q : Rectangle) : Type 0 where
  pub ab : w.ab ≡ true → OnSideOf e.ab q
  pub bc : w.bc ≡ true → OnSideOf e.bc q
  pub ca : w.ca ≡ true → OnSideOf e.ca q

-- which edges have it on their inner side, and nothing where their shape does not touch it
abbrev pub InwardSays : Option Inward → Edges → Rectangle → Type 0
InwardSays None e q = Touches (triangle (starts e)) q → ⊥
InwardSays (Some w) e q =
    Touches (triangle (starts e)) q × Says w.ab (OnSideOf e.ab q) × Says w.bc (OnSideOf e.bc q) × Says w.ca (OnSideOf e.ca q)

abbrev pub whole_or_part : Bool → answer.Cover
whole_or_part whole = cond whole answer.TheVariants.Wholly answer.TheVariants.Partly
