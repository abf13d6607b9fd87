-- A lent list of shapes: so many words to a shape, of which the first seven are its kind and six coordinates.
use Rattle.std.specs.Prelude.{◌≡◌, cond, List, Result, Ok, Err, ℕ, ◌+◌, ◌*◌, ◌/◌, ◌%◌, ◌≤◌, ◌<◌, length, get_or, ℤ, pos}
use Rattle.std.specs.Int.Signed.{le_z}
use Rattle.numbers.specs.declared.Refusal.{Refusal}
use Rattle.numbers.specs.declared.Refusal.TheVariants as why
use Rattle.shape.specs.declared.Vertex.{Vertex}
use Rattle.shape.specs.declared.Shape.{Shape}
use Rattle.shape.specs.declared.Shape.TheVariants.{Point, Line, Triangle}

-- ---- the words of one shape, counted from 0

-- the words from a place of the list on
abbrev pub words_from : List ℤ → (at : ℕ) → (ℕ → ℤ)
words_from ws at k = get_or ws (at + k) (pos 0)

-- word 0 is the kind, 1 for a point, 2 for a line, 3 for a triangle; words 1 to 6 are x and y of three vertices, and those of a vertex that the kind does not have are 0
pub record RightWords (w : ℕ → ℤ) : Type 0 where
  pub kind : ℕ
  pub kind_is : w 0 ≡ pos kind
  pub least : 1 ≤ kind
  pub most : kind ≤ 3
  pub unused : (k : ℕ) → 2 * kind < k → k ≤ 6 → w k ≡ pos 0

abbrev pub vertex_from : (ℕ → ℤ) → (x y : ℕ) → Vertex
vertex_from w x y = record { x = w x; y = w y }

-- the shape of right words: by their kind, which is 1, 2 or 3, a point, a line or a triangle
unfoldable pub shape_from : (ℕ → ℤ) → Shape
shape_from w =
    cond (le_z (w 0) (pos 1)) (Point (vertex_from w 1 2))
    (cond (le_z (w 0) (pos 2)) (Line (vertex_from w 1 2) (vertex_from w 3 4)) (Triangle (vertex_from w 1 2) (vertex_from w 3 4) (vertex_from w 5 6)))

-- ---- the list, of `size` words to a shape

-- how many whole shapes there are
abbrev pub count_of : (size : ℕ) → List ℤ → ℕ
count_of size ws = length ws / size

-- the words of the shape at a place, places counted from 0
abbrev pub words_at : (size : ℕ) → List ℤ → (place : ℕ) → (ℕ → ℤ)
words_at size ws place = words_from ws (place * size)

abbrev pub shape_at : (size : ℕ) → List ℤ → (place : ℕ) → Shape
shape_at size ws place = shape_from (words_at size ws place)

-- whole shapes, at most 1,048,576 of them, each with right words: number 15 is given exactly where this fails
pub record RightList (size : ℕ) (ws : List ℤ) : Type 0 where
  pub whole : length ws % size ≡ 0
  pub few : count_of size ws ≤ 1048576
  pub each : (place : ℕ) → place < count_of size ws → RightWords (words_at size ws place)

-- the answer of the check: how many shapes there are, or why the list is refused
abbrev pub CheckSays : (size : ℕ) → List ℤ → Result ℕ Refusal → Type 0
CheckSays size ws (Ok count) = RightList size ws × (count ≡ count_of size ws)
CheckSays size ws (Err r) = (RightList size ws → ⊥) × (r ≡ why.BadList)
