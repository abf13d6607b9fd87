-- The walk while it goes on: after each row the steps so far are those of the definition, and the touched tiles of the rows so far are listed.
use Prim.Native.Nat.{ℕ, suc, ◌+◌, ◌*◌, ◌-◌, ◌≤◌, ◌<◌}
use mathlib.Core.Path.{◌≡◌, refl, sym, ap, subst, ◌∙◌}
use mathlib.Core.List.{List, ◌++◌}
use native.Mathlib.Omega.{arith}
use lib.ListN.{length, length-append}
use lib.Signed.{◌≤ℤ◌}
use Rattle.numbers.specs.Flag.{is_flagged, plains}
use Rattle.numbers.specs.Says.{Says}
use Rattle.numbers.proofs.Says.{says_iff}
use Rattle.screen.specs.declared.Rectangle.{Rectangle}
use Rattle.screen.specs.declared.Screen.{Screen}
use Rattle.screen.specs.declared.Span.{Span}
use Rattle.screen.specs.Screen.{Allowed, columns, rows, tiles, row_of}
use Rattle.screen.specs.Rectangle.{near, rectangle, In}
use Rattle.screen.proofs.Laws.{row<}
use Rattle.shape.specs.declared.Shape.{Shape}
use Rattle.touch.specs.declared.Edges.{Edges}
use Rattle.touch.specs.Corner.{three, bounds}
use Rattle.touch.specs.Cover.{Wholly}
use Rattle.touch.proofs.Theorem.{touching_meets_box}
use Rattle.walk.specs.Lists.{IsTouched, Flagged, Below, Lists, Words, Before}
use Rattle.walk.specs.Row.{Run, outlined, MeetingColumns, MeetingRows, MeetsRow}
use Rattle.walk.proofs.Grid.{tile_rectangle}
use Rattle.walk.proofs.Lists.{lists_few, words_none, words_then, words_map}
use Rattle.walk.proofs.Touched.{lists_walked}
use Rattle.stepping.specs.declared.Step.{Step}
use Rattle.stepping.specs.Stepping.{OnScreen, Hit, InRow, Steps, start_row, start_column}
use Rattle.stepping.specs.Row.{HitIn, WholeIn, Named, FromAbove}
use Rattle.stepping.specs.Stepped.{TestsSay, WalkedThrough}
use Rattle.stepping.proofs.Runs.{find_found}
use Rattle.stepping.proofs.Points.{start_row<, start_column<, start-touched}
use Rattle.stepping.proofs.Rows.{columns≤, rows≤, WholeRun, row_tests, row_end≤, one_row_more, steps_whole, steps_below, steps_few, steps_price, none_before, none_after}

-- the rows before a row are walked, in so many tests with that of the start tile; the last run is that of the row before it
pub record Going (d : Screen) (shape : Shape) (row : ℕ) (run : Span) (tests count : ℕ) (old new : List ℕ) : Type 0 where
  pub before : ℕ
  pub next : row ≡ suc before
  pub within : before < rows d
  pub listed : List ℕ
  pub tested : List ℕ
  pub steps : Steps d shape before run listed tested
  pub many : tests ≡ length tested + 1
  pub lists : Before d shape row count old new

-- the flags of a run's words say which of its tiles are wholly covered
named_flagged : (d : Screen) → Allowed d → (shape : Shape) (row : ℕ) {run whole : Span} → run.end ≤ columns d → WholeIn d shape row run whole
    → (w : ℕ) → Named (row * columns d) run whole w → Flagged d shape w
named_flagged d ok shape row within whole w n =
    let i = n.inside.before in
    let same = whole n.column n.inside in
    subst (λ (q : Rectangle). Says (is_flagged w) (Wholly shape q)) (sym (ap (rectangle d) n.number ∙ tile_rectangle d ok n.column row (omega arith)))
    (says_iff same.0 same.1 n.says)

module _ (d : Screen) (ok : Allowed d) (e : Edges) (on : OnScreen d (outlined e)) where
  abbrev shape : Shape
  shape = outlined e

  -- the start row is one of those that meet the box
  pub start_row_inside : {span : Span} → MeetingRows d e span → In span (start_row d shape)
  start_row_inside c =
      let b = touching_meets_box (start-touched d ok shape on) in
      c.whole (start_row d shape) (start_row< d ok shape on) (record { from = b.top; to = b.bottom })

  -- and the start column one of those
  start_column_inside : {span : Span} → MeetingColumns d e span → In span (start_column d shape)
  start_column_inside c =
      let b = touching_meets_box (start-touched d ok shape on) in
      c.whole (start_column d shape) (start_column< d ok shape on) (record { from = b.left; to = b.right })

  -- the words of a run after those of the rows before it
  run_flagged : (row : ℕ) (step : Step) {from count n : ℕ} {Q : ℕ → Type 0} {old mid new : List ℕ} → step.run.end ≤ columns d
      → WholeIn d shape row step.run step.whole → from ≤ count
      → Run Q (row * columns d) step.run.start step.run.end count n (plains mid) (plains new)
      → Words (Named (row * columns d) step.run step.whole) count n mid new
      → Words (Flagged d shape) from count old mid → Words (Flagged d shape) from n old new
  run_flagged row step within whole le r w k =
      let a = r.as_many in
      let b = r.from≤ in
      words_then le (omega arith) k (words_map (Flagged d shape) (named_flagged d ok shape row within whole) w)

  -- the first row, in which the start tile is the one that is found, and is not counted
  going_from_start : (step : Step) {tested : List ℕ} {tests n : ℕ} {Q : ℕ → Type 0} {old new : List ℕ}
      → InRow d shape (start_row d shape) (start_column d shape) step.run tested
      → tests ≡ length tested + 1 → WholeIn d shape (start_row d shape) step.run step.whole
      → Run Q (start_row d shape * columns d) step.run.start step.run.end 0 n (plains old) (plains new)
      → Words (Named (start_row d shape * columns d) step.run step.whole) 0 n old new → Going d shape (start_row d shape + 1) step.run tests n old new
  going_from_start step {tested} {tests} {n} {old = old} {new = new} f e whole r w =
      let s = Steps.start f in
      let l = start_row< d ok shape on in
      record {
        before = start_row d shape;
        next = omega arith;
        within = l;
        listed = _;
        tested = tested;
        steps = s;
        many = e;
        lists = (
          subst (λ (m : ℕ). Lists (Below m (IsTouched d shape)) n (plains old) (plains new)) (omega arith)
              (one_row_more d ok shape {run = step.run} (steps_whole d ok shape on s) l (none_before d ok shape on (plains old)) r),
          run_flagged (start_row d shape) step (row_end≤ d ok shape f) whole (omega arith) r w (words_none 0 old),
        );
      }

  going_first : {first column columns' n : ℕ} {step : Step} {Q : ℕ → Type 0} {old new : List ℕ} → first ≡ start_row d shape
      → column ≡ start_column d shape → columns' ≡ columns d
      → FromAbove d shape first (record { start = column; end = column + 1 }) step → Run Q (first * columns') step.run.start step.run.end 0 n (plains old) (plains new)
      → Words (Named (first * columns') step.run step.whole) 0 n old new → Going d shape (first + 1) step.run step.tests n old new
  going_first {first} {column} {columns'} {n} {step} {Q} {old} {new} a b c f r w =
      let x = find_found d shape first f.find in
      let u = x.before in
      let v = x.from in
      let y = x.many in
      let m = f.many in
      let same : f.found ≡ start_column d shape = omega arith in
      subst (λ (k : ℕ). Going d shape (k + 1) step.run step.tests n old new) (sym a)
      (going_from_start step (subst (λ (P : Type 0). P) (λ i. InRow d shape (a i) (same i) step.run f.beside) f.row_tests) (omega arith)
      (subst (λ (k : ℕ). WholeIn d shape k step.run step.whole) a f.whole)
      (subst (λ (k : ℕ). Run Q k step.run.start step.run.end 0 n (plains old) (plains new)) (λ i. a i * c i) r)
      (subst (λ (k : ℕ). Words (Named k step.run step.whole) 0 n old new) (λ i. a i * c i) w))

  -- few enough tests to count
  pub above_few : {row : ℕ} {run : Span} {step : Step} → run.end ≤ columns d → FromAbove d shape row run step → step.tests ≤ 8194
  above_few {row} {run} {step} w f =
      let c = columns≤ d ok in
      let x = find_found d shape row f.find in
      let a = x.before in
      let b = x.many in
      let m = f.many in
      let y = row_tests d ok shape f.row_tests in
      let z = row_end≤ d ok shape f.row_tests in
      omega arith

  module _ {row tests count : ℕ} {run : Span} {old mid : List ℕ} (g : Going d shape row run tests count old mid) where
    whole : WholeRun d shape g.before run
    whole = steps_whole d ok shape on g.steps

    going_on : {columns' : ℕ} {step : Step} {Q : ℕ → Type 0} {n : ℕ} {new : List ℕ} → columns' ≡ columns d → row < rows d → FromAbove d shape row run step
        → Run Q (row * columns') step.run.start step.run.end count n (plains mid) (plains new)
        → Words (Named (row * columns') step.run step.whole) count n mid new → Going d shape (row + 1) step.run (tests + step.tests) n old new
    going_on {columns'} {step} {Q} {n} {new} e row< f r' w' =
        let r = subst (λ (k : ℕ). Run Q (row * k) step.run.start step.run.end count n (plains mid) (plains new)) e r' in
        let v = subst (λ (k : ℕ). Words (Named (row * k) step.run step.whole) count n mid new) e w' in
        let a : FromAbove d shape (suc g.before) run step = subst (λ (k : ℕ). FromAbove d shape k run step) g.next f in
        let s = Steps.next g.steps a.find a.row_tests in
        let m = g.many in
        let t = a.many in
        let nx = g.next in
        let w : WholeRun d shape row step.run = subst (λ (k : ℕ). WholeRun d shape k step.run) (sym g.next) (steps_whole d ok shape on s) in
        let x = length-append g.tested (a.below ++ a.beside) in
        let y = length-append a.below a.beside in
        record {
          before = suc g.before;
          next = omega arith;
          within = omega arith;
          listed = _;
          tested = g.tested ++ (a.below ++ a.beside);
          steps = s;
          many = omega arith;
          lists = (
            subst (λ (k : ℕ). Lists (Below k (IsTouched d shape)) n (plains old) (plains new)) (omega arith)
                (one_row_more d ok shape {run = step.run} w row< g.lists.0 r),
            run_flagged row step (row_end≤ d ok shape f.row_tests) f.whole (omega arith) r v g.lists.1,
          );
        }

    -- few enough tests to count
    going_few : tests ≤ 12289
    going_few =
        let p = steps_price d ok shape on g.steps in
        let f = steps_few d ok shape on g.steps g.within in
        let some = whole.some in
        let t = ok.tiles≤ in
        let u = p.tests≤ in
        let m = g.many in
        let w = g.within in
        let c = rows≤ d ok in
        omega arith

    going_count : count ≤ row * columns d
    going_count = lists_few count g.lists.0 (λ t p. p.0)

    going_start≤ : start_row d shape < row
    going_start≤ = let p = (steps_price d ok shape on g.steps).rows≥ in let n = g.next in omega arith

    -- the run stands in the columns that meet the box
    going_inside : {span : Span} → MeetingColumns d e span → (span.start ≤ run.start) × (run.end ≤ span.end)
    going_inside {span} c =
        let some = whole.some in
        let within = whole.within in
        let a = inside c run.start (omega arith) (whole.all run.start (omega arith) some) in
        let b = inside c (run.end - 1) (omega arith) (whole.all (run.end - 1) (omega arith) (omega arith)) in
        let f = a.from in
        let u = b.before in
        (f, omega arith)
      where
        inside : {span : Span} → MeetingColumns d e span → (k : ℕ) → k < columns d → Hit d shape g.before k → In span k
        inside c k k< h = let b = touching_meets_box h in c.whole k k< (record { from = b.left; to = b.right })

    -- below it there is a touched tile
    going_below : row < rows d → MeetsRow d e row → HitIn d shape row run
    going_below row< m =
        let n : g.before + 1 ≡ row = let x = g.next in omega arith in
        subst (λ (k : ℕ). HitIn d shape k run) n
        (steps_below d ok shape on g.steps (omega arith) (subst (λ (k : ℕ). near d.height d.s k ≤ℤ (bounds (three shape)).bottom) (sym n) m.from))

    -- after the last row of the box the walk is whole
    going_ends : (span : Span) → MeetingRows d e span → row ≡ span.end → tiles d ≤ length old → WalkedThrough d shape (record { count = count; tests = tests - 1 }) old mid
    going_ends span c end room =
        let n = g.next in
        let q : row * columns d ≡ suc g.before * columns d = ap (λ (k : ℕ). k * columns d) g.next in
        let f = (start_row_inside c).from in
        let s = going_start≤ in
        record {
          walked =
              lists_walked room
              (none_after d ok shape on {row = g.before}
              (λ t p.
              let b = touching_meets_box p.1 in
              let u = (c.whole (row_of d t) (row< d ok t p.0) (record { from = b.top; to = b.bottom })).before in
              omega arith)
              (subst (λ (k : ℕ). Lists (Below k (IsTouched d shape)) count (plains old) (plains mid)) (omega arith) g.lists.0))
              g.lists.1;
          tests =
              TestsSay.on_screen on g.listed g.tested
              (record {
                row = g.before;
                last =
                    record {
                      within = g.within;
                      meets = c.sound g.before (record { from = omega arith; before = omega arith });
                      last = λ k k< m. let u = (c.whole k k< m).before in omega arith;
                    };
                run = run;
                steps = g.steps;
              })
              (let m = g.many in omega arith);
        }

-- ---- the walk from its start tile

-- before a row: nothing is walked yet, and what counts as the run above is the start tile; or the rows before it are walked
pub data Walking (d : Screen) (shape : Shape) (row : ℕ) (run : Span) (tests count : ℕ) (old new : List ℕ) : Type 0 where
  begins : row ≡ start_row d shape → run ≡ record { start = start_column d shape; end = start_column d shape + 1 } → tests ≡ 0 → count ≡ 0 → new ≡ old
      → Walking d shape row run tests count old new
  goes : Going d shape row run tests count old new → Walking d shape row run tests count old new

module _ (d : Screen) (ok : Allowed d) (e : Edges) (on : OnScreen d (outlined e)) {row tests count : ℕ} {run : Span} {old mid : List ℕ} where
  -- the row is not before the start row, and the list is as long as it was
  pub walking_from : Walking d (outlined e) row run tests count old mid → start_row d (outlined e) ≤ row
  walking_from (Walking.begins a b t n m) = omega arith
  walking_from (Walking.goes g) = let l = going_start≤ d ok e on g in omega arith

  pub walking_size : Walking d (outlined e) row run tests count old mid → length mid ≡ length old
  walking_size (Walking.begins a b t n m) = ap length m
  walking_size (Walking.goes g) = g.lists.1.size

  -- the run stands in the columns that meet the box
  pub walking_inside : {span : Span} → MeetingColumns d e span → Walking d (outlined e) row run tests count old mid
      → (span.start ≤ run.start) × (run.end ≤ span.end)
  walking_inside c (Walking.begins a b t n m) =
      let i = start_column_inside d ok e on c in
      let f = i.from in
      let u = i.before in
      let x = ap (λ (r : Span). r.start) b in
      let y = ap (λ (r : Span). r.end) b in
      (omega arith, omega arith)
  walking_inside c (Walking.goes g) = going_inside d ok e on g c

  -- below it there is a touched tile
  pub walking_below : row < rows d → MeetsRow d e row → Walking d (outlined e) row run tests count old mid → HitIn d (outlined e) row run
  walking_below row< m (Walking.begins a b t n w) =
      let x = ap (λ (r : Span). r.start) b in
      let y = ap (λ (r : Span). r.end) b in
      record {
        column = start_column d (outlined e);
        inside = record { from = omega arith; before = omega arith };
        hit = subst (λ (k : ℕ). Hit d (outlined e) k (start_column d (outlined e))) (sym a) (start-touched d ok (outlined e) on);
      }
  walking_below row< m (Walking.goes g) = going_below d ok e on g row< m

  -- few enough tiles and tests to count
  pub walking_count : Walking d (outlined e) row run tests count old mid → count ≤ row * columns d
  walking_count (Walking.begins a b t n m) = omega arith
  walking_count (Walking.goes g) = going_count d ok e on g

  pub walking_few : Walking d (outlined e) row run tests count old mid → tests ≤ 12289
  walking_few (Walking.begins a b t n m) = omega arith
  walking_few (Walking.goes g) = going_few d ok e on g

  -- a row more
  pub walking_on : {columns' n : ℕ} {step : Step} {Q : ℕ → Type 0} {new : List ℕ} → columns' ≡ columns d → row < rows d → FromAbove d (outlined e) row run step
      → Run Q (row * columns') step.run.start step.run.end count n (plains mid) (plains new)
      → Words (Named (row * columns') step.run step.whole) count n mid new → Walking d (outlined e) row run tests count old mid
      → Walking d (outlined e) (row + 1) step.run (tests + step.tests) n old new
  walking_on {columns'} {n} {step} {Q} {new} c row< f r w (Walking.begins a b t z m) =
      Walking.goes
      (subst (λ (k : ℕ). Going d (outlined e) (row + 1) step.run k n old new) (omega arith)
      (going_first d ok e on a refl c (subst (λ (s : Span). FromAbove d (outlined e) row s step) b f)
      (subst (λ (P : Type 0). P) (λ i. Run Q (row * columns') step.run.start step.run.end (z i) n (plains (m i)) (plains new)) r)
      (subst (λ (P : Type 0). P) (λ i. Words (Named (row * columns') step.run step.whole) (z i) n (m i) new) w)))
  walking_on c row< f r w (Walking.goes g) = Walking.goes (going_on d ok e on g c row< f r w)

  -- after the last row of the box the start tile is counted, and the walk is whole
  pub walking_counted : (span : Span) → MeetingRows d e span → row ≡ span.end → Walking d (outlined e) row run tests count old mid → 1 ≤ tests
  walking_counted span c end (Walking.begins a b t n m) = let i = (start_row_inside d ok e on c).before in absurd (omega arith)
  walking_counted span c end (Walking.goes g) = let m = g.many in omega arith

  pub walking_ends : (span : Span) → MeetingRows d e span → row ≡ span.end → tiles d ≤ length old → Walking d (outlined e) row run tests count old mid
      → WalkedThrough d (outlined e) (record { count = count; tests = tests - 1 }) old mid
  walking_ends span c end room (Walking.begins a b t n m) = let i = (start_row_inside d ok e on c).before in absurd (omega arith)
  walking_ends span c end room (Walking.goes g) = going_ends d ok e on g span c end room
