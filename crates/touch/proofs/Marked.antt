-- The twelve marked cases, and those of the screen that ends inside its last column, hold of the definition of touching: the corner test is computed at every tile.
-- So is the test for covering, for the tiles that some of them cover wholly.
use Prim.Native.Nat.{ℕ, zero, suc, ◌≤◌, ◌<◌}
use mathlib.Core.Path.{◌≡◌, refl, subst}
use mathlib.Core.Bool.{Bool, true, false, ◌&&◌}
use mathlib.Core.List.{List, [], ◌∷◌}
use native.Mathlib.Omega.{arith}
use native.Mathlib.Decide.{dec_le}
use lib.Dec.{T}
use lib.IntN.{pos}
use mir.Facts.{and_yes}
use Rattle.numbers.specs.Says.{Says}
use Rattle.screen.specs.declared.Rectangle.{Rectangle}
use Rattle.screen.specs.declared.Screen.{Screen}
use Rattle.screen.specs.Screen.{Allowed, across, tiles}
use Rattle.screen.specs.Rectangle.{near, far, rectangle}
use Rattle.screen.proofs.Laws.{rectangle_proper, rectangle_has_area, column<, row<}
use Rattle.shape.specs.declared.Shape.{Shape}
use Rattle.shape.specs.declared.Shape.TheVariants.{Point}
use Rattle.touch.specs.Corner.{bounds, Box}
use Rattle.touch.specs.Touches.{Touches}
use Rattle.touch.specs.Cover.{Wholly}
use Rattle.touch.specs.Marked.{listed, TouchesOnly, CoversOnly, screen64, screen60, at, Case, M9, M11, table, covers, to_the_end, one_less, EachCase}
use Rattle.touch.proofs.Answers.{corner, corner_says_touching, overlap_says, enclosed, enclosed_says_wholly}

-- ---- a test of all numbers below n, and of all cases of a table

same : Bool → Bool → Bool
same true true = true
same true false = false
same false true = false
same false false = true

same_eq : (a b : Bool) → T (same a b) → a ≡ b
unfolding same
same_eq true true h = refl
same_eq true false h = absurd h
same_eq false true h = absurd h
same_eq false false h = refl

below : (ℕ → Bool) → ℕ → Bool
below f zero = true
below f (suc n) = f n && below f n

last_or_before : (f : ℕ → Bool) (n t : ℕ) → t < suc n → T (f n) → (t < n → T (f t)) → Dec (n ≤ t) → T (f t)
last_or_before f n t l h g (yes p) = subst (λ (k : ℕ). T (f k)) (omega arith) h
last_or_before f n t l h g (no p) = g (omega arith)

below_at : (f : ℕ → Bool) (n t : ℕ) → T (below f n) → t < n → T (f t)
unfolding below
below_at f zero t h l = absurd (omega arith)
below_at f (suc n) t h l =
    let g = and_yes (f n) (below f n) h in
    last_or_before f n t l g.0 (λ k. below_at f n t g.1 k) (dec_le n t)

right : (Shape → Rectangle → Bool) → Screen → Shape → List ℕ → ℕ → Bool
right test d shape ts t = same (test shape (rectangle d t)) (listed t ts)

all : (Shape → Rectangle → Bool) → List Case → Bool
all test [] = true
all test (m ∷ ms) = below (right test screen64 m.shape m.tiles) (tiles screen64) && all test ms

-- what a test finds of a shape on a screen, where it says at each tile whether P holds
only : (test : Shape → Rectangle → Bool) (P : Shape → Rectangle → Type 0) (d : Screen) (shape : Shape) (ts : List ℕ)
    → ((t : ℕ) → t < tiles d → Says (test shape (rectangle d t)) (P shape (rectangle d t)))
    → T (below (right test d shape ts) (tiles d)) → (t : ℕ) → t < tiles d → Says (listed t ts) (P shape (rectangle d t))
unfolding right
only test P d shape ts says h t l =
    subst (λ (r : Bool). Says r (P shape (rectangle d t)))
    (same_eq (test shape (rectangle d t)) (listed t ts) (below_at (right test d shape ts) (tiles d) t h l))
    (says t l)

touches_only : (d : Screen) → Allowed d → (shape : Shape) (ts : List ℕ) → T (below (right corner d shape ts) (tiles d)) → TouchesOnly d shape ts
touches_only d a shape ts =
    only corner Touches d shape ts (λ t l. corner_says_touching shape (rectangle d t) (rectangle_proper d a (column< d a t) (row< d a t l)))

covers_only : (d : Screen) → Allowed d → (shape : Shape) (ts : List ℕ) → T (below (right enclosed d shape ts) (tiles d)) → CoversOnly d shape ts
covers_only d a shape ts =
    only enclosed Wholly d shape ts (λ t l. enclosed_says_wholly shape (rectangle d t) (rectangle_has_area d a (column< d a t) (row< d a t l)))

allowed64 : Allowed screen64
unfolding across
allowed64 = record { width≥ = omega arith; width≤ = omega arith; height≥ = omega arith; height≤ = omega arith; s≥ = omega arith; s≤ = omega arith; tiles≤ = omega arith }

allowed60 : Allowed screen60
unfolding across
allowed60 = record { width≥ = omega arith; width≤ = omega arith; height≥ = omega arith; height≤ = omega arith; s≥ = omega arith; s≤ = omega arith; tiles≤ = omega arith }

each : (test : Shape → Rectangle → Bool) (P : Shape → List ℕ → Type 0)
    → ((shape : Shape) (ts : List ℕ) → T (below (right test screen64 shape ts) (tiles screen64)) → P shape ts)
    → (ms : List Case) → T (all test ms) → EachCase (λ m. P m.shape m.tiles) ms
unfolding all
each test P f [] h = tt
each test P f (m ∷ ms) h =
    let g = and_yes (below (right test screen64 m.shape m.tiles) (tiles screen64)) (all test ms) h in
    (f m.shape m.tiles g.0, each test P f ms g.1)

-- M1 to M12, at all eight tiles
pub marked_cases : EachCase (λ m. TouchesOnly screen64 m.shape m.tiles) table
unfolding all below right same bounds across near far
marked_cases = each corner (TouchesOnly screen64) (touches_only screen64 allowed64) table tt

-- what M8 to M12 cover wholly, at all eight tiles
pub covered_cases : EachCase (λ m. CoversOnly screen64 m.shape m.tiles) covers
unfolding all below right same across near far
covered_cases = each enclosed (CoversOnly screen64) (covers_only screen64 allowed64) covers tt

-- on a screen of 60 by 32 a point at (1000, 10) is listed in no tile, and one at (960, 10) in tile 3
pub past_the_glass : TouchesOnly screen60 (Point (at (pos 1000) (pos 10))) []
unfolding below right same bounds across near far
past_the_glass = touches_only screen60 allowed60 (Point (at (pos 1000) (pos 10))) [] tt

pub at_the_glass : TouchesOnly screen60 (Point (at (pos 960) (pos 10))) (3 ∷ [])
unfolding below right same bounds across near far
at_the_glass = touches_only screen60 allowed60 (Point (at (pos 960) (pos 10))) (3 ∷ []) tt

-- the first covers every tile wholly, the last one too, whose full square it does not cover; the second covers the last tile no more
pub to_the_end_of_the_glass : CoversOnly screen60 to_the_end.shape to_the_end.tiles
unfolding below right same across near far
to_the_end_of_the_glass = covers_only screen60 allowed60 to_the_end.shape to_the_end.tiles tt

pub one_unit_less : CoversOnly screen60 one_less.shape one_less.tiles
unfolding below right same across near far
one_unit_less = covers_only screen60 allowed60 one_less.shape one_less.tiles tt

-- the box of M9 has tile 7 too, and that of M11 tile 6
pub box_of_M9 : Box M9 (rectangle screen64 7)
unfolding bounds across near far
box_of_M9 = (overlap_says _ _).yes refl

pub box_of_M11 : Box M11 (rectangle screen64 6)
unfolding bounds across near far
box_of_M11 = (overlap_says _ _).yes refl
