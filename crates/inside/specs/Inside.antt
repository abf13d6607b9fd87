-- What is meant by a shape inside another, and the table of the question whether one is.
use Rattle.std.specs.Prelude.{◌≡◌, Bool, false, List, ℕ, ℤ, Result, Ok, Err}
use Rattle.numbers.specs.declared.Refusal.{Refusal}
use Rattle.numbers.specs.Refusal.{number_of}
use Rattle.numbers.specs.Says.{Says}
use Rattle.shape.specs.declared.Shape.{Shape}
use Rattle.shape.specs.Shape.{vertices, Every, InRange}
use Rattle.touch.specs.Cover.{HasPoint}
use Rattle.shapes.specs.Shapes.{RightList, count_of, shape_at}

-- every vertex of the first shape is a point of the second: some weighted mean, by whole weights, of the second's vertices
abbrev pub Inside : (first second : Shape) → Type 0
Inside first second = Every (λ v. HasPoint second v.x v.y) (vertices first)

-- ---- the question, of two lists of one shape each

-- a right list, of seven words to a shape, that has one shape; and that shape
pub record OneShape (ws : List ℤ) : Type 0 where
  pub right : RightList 7 ws
  pub one : count_of 7 ws ≡ 1

abbrev pub the_shape : List ℤ → Shape
the_shape ws = shape_at 7 ws 0

-- what the answer tells: its number, and whether the one lies inside the other
pub record Nested : Type 0 where
  pub number : ℕ
  pub inside : Bool

abbrev pub not_nested : (number : ℕ) → Nested
not_nested n = record { number = n; inside = false }

-- 0 and the answer, or the number of the refusal and no
abbrev pub nested : Result Bool Refusal → Nested
nested (Ok inside) = record { number = 0; inside = inside }
nested (Err refusal) = record { number = number_of refusal; inside = false }

-- A row for each number in the order in which it is given: 15, 7. A row has its cause, with no earlier one applying, and then the whole answer a.
pub data InsideSays (first second : List ℤ) (a : Nested) : Type 0 where
  bad_list : (OneShape first × OneShape second → ⊥) → a ≡ not_nested 15 → InsideSays first second a
  out_of_range : OneShape first → OneShape second → (InRange (the_shape first) × InRange (the_shape second) → ⊥) → a ≡ not_nested 7 → InsideSays first second a
  done : OneShape first → OneShape second → InRange (the_shape first) → InRange (the_shape second)
      → (r : Bool) → Says r (Inside (the_shape first) (the_shape second)) → a ≡ record { number = 0; inside = r } → InsideSays first second a
