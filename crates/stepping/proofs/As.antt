-- A walk of the triangle of a shape's three vertices is a walk of the shape: they touch the same rectangles, and start and end in the same tiles.
use Prim.Native.Nat.{ℕ}
use mathlib.Core.List.{List}
use Rattle.numbers.proofs.Says.{says_iff}
use Rattle.screen.specs.declared.Screen.{Screen}
use Rattle.screen.specs.declared.Span.{Span}
use Rattle.shape.specs.declared.Shape.{Shape}
use Rattle.touch.specs.Corner.{three, triangle}
use Rattle.touch.proofs.Covering.{wholly_as_triangle}
use Rattle.touch.proofs.Weights.{touches_as_triangle}
use Rattle.stepping.specs.declared.Stepped.{Stepped}
use Rattle.stepping.specs.Stepped.{TestsSay, WalkedThrough}
use Rattle.stepping.specs.Stepping.{OnScreen, Right, Left, Find, InRow, Steps, Walk}
use Rattle.stepping.proofs.Points.{triangle_on_screen}

module _ (d : Screen) (shape : Shape) where
  abbrev S : Shape
  S = triangle (three shape)

  module _ {row : ℕ} where
    right_as : {column end : ℕ} {ts : List ℕ} → Right d S row column end ts → Right d shape row column end ts
    right_as (Right.edge e) = Right.edge e
    right_as (Right.miss l f) = Right.miss l (λ h. f ((touches_as_triangle shape).0 h))
    right_as (Right.hit l h t) = Right.hit l ((touches_as_triangle shape).1 h) (right_as t)

    left_as : {column first : ℕ} {ts : List ℕ} → Left d S row column first ts → Left d shape row column first ts
    left_as Left.edge = Left.edge
    left_as (Left.miss f) = Left.miss (λ h. f ((touches_as_triangle shape).0 h))
    left_as (Left.hit h t) = Left.hit ((touches_as_triangle shape).1 h) (left_as t)

    find_as : {end column found : ℕ} {ts : List ℕ} → Find d S row end column found ts → Find d shape row end column found ts
    find_as (Find.hit l h) = Find.hit l ((touches_as_triangle shape).1 h)
    find_as (Find.miss l f t) = Find.miss l (λ h. f ((touches_as_triangle shape).0 h)) (find_as t)

    row_as : {start : ℕ} {run : Span} {ts : List ℕ} → InRow d S row start run ts → InRow d shape row start run ts
    row_as (InRow.both r l) = InRow.both (right_as r) (left_as l)

  steps_as : {row : ℕ} {run : Span} {listed tested : List ℕ} → Steps d S row run listed tested → Steps d shape row run listed tested
  steps_as (Steps.start r) = Steps.start (row_as r)
  steps_as (Steps.next p f r) = Steps.next (steps_as p) (find_as f) (row_as r)

  walk_as : {listed tested : List ℕ} → Walk d S listed tested → Walk d shape listed tested
  walk_as w =
      record {
        row = w.row;
        last = record { within = w.last.within; meets = w.last.meets; last = w.last.last };
        run = w.run;
        steps = steps_as w.steps;
      }

  -- so it takes as many tests
  tests_as : OnScreen d shape → {tests : ℕ} → TestsSay d S tests → TestsSay d shape tests
  tests_as on (TestsSay.on_screen h us ts w e) = TestsSay.on_screen on us ts (walk_as w) e
  tests_as on (TestsSay.off_screen off e) = absurd (off (triangle_on_screen d shape on))

  -- and what is answered of the triangle is answered of the shape
  pub walked_as : OnScreen d shape → {answer : Stepped} {old new : List ℕ} → WalkedThrough d S answer old new → WalkedThrough d shape answer old new
  walked_as on s =
      let w = s.walked in
      let t = w.touched in
      record {
        walked =
            record {
              touched =
                  record {
                    rising = t.rising;
                    touched = λ i l. let p = t.touched i l in (p.0, (touches_as_triangle shape).1 p.1);
                    all = λ k l h. t.all k l ((touches_as_triangle shape).0 h);
                  };
              flags = λ i l. says_iff (wholly_as_triangle shape).1 (wholly_as_triangle shape).0 (w.flags i l);
              few = w.few;
              size = w.size;
              rest = w.rest;
            };
        tests = tests_as on s.tests;
      }
