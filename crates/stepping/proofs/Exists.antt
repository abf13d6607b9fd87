-- There is a walk of every shape on the screen, so every shape has its number of tests: what a test answers is decided, and while the bounding box reaches the
-- next row there is a touched tile below the run.
use Prim.Native.Nat.{ℕ, zero, suc, ◌+◌, ◌*◌, ◌-◌, ◌≤◌, ◌<◌}
use mathlib.Core.Path.{◌≡◌, refl, subst}
use mathlib.Core.Bool.{Bool, true, false, ◌&&◌}
use mathlib.Core.List.{List, [], ◌∷◌, ◌++◌}
use mathlib.Core.Logic.{◌⊎◌, inl, inr, ⊎_elim}
use native.Mathlib.Numerals.{add-one}
use native.Mathlib.Omega.{arith}
use lib.IntN.{ℤ, pos}
use lib.ListN.{length}
use lib.Signed.{◌≤ℤ◌, le_z}
use Rattle.numbers.specs.Says.{Says}
use Rattle.numbers.proofs.Ceil.{lt_or_ge}
use Rattle.numbers.proofs.Deciding.{says_leℤ}
use Rattle.numbers.proofs.Diff.{≤ℤ_trans}
use Rattle.numbers.proofs.Says.{says_yes, says_iff, says_and}
use Rattle.screen.specs.declared.Screen.{Screen}
use Rattle.screen.specs.declared.Span.{Span}
use Rattle.screen.specs.Screen.{Allowed, columns, rows, tile_at}
use Rattle.screen.specs.Rectangle.{near, rectangle_at}
use Rattle.screen.proofs.Laws.{near_rises, rectangle_proper}
use Rattle.shape.specs.declared.Vertex.{Vertex}
use Rattle.shape.specs.declared.Shape.{Shape}
use Rattle.shape.specs.Shape.{vertices, Every}
use Rattle.touch.specs.Corner.{three, bounds}
use Rattle.touch.proofs.Answers.{corner_says_touching}
use Rattle.touch.proofs.Theorem.{touching_meets_box}
use Rattle.stepping.specs.Stepping.{OnAxis, OnGlass, OnScreen, start_row, start_column, LastRow, Hit, Right, Left, Find, InRow, Steps, Walk, run_tiles}
use Rattle.stepping.specs.Stepped.{TestsSay}
use Rattle.stepping.proofs.Points.{start_column<, start_row<}
use Rattle.stepping.proofs.Rows.{steps_whole, steps_below}

decided : {P : Type 0} {r : Bool} → Says r P → P ⊎ (P → ⊥)
decided {r = true} h = inl (h.yes refl)
decided {r = false} h = inr (h.no refl)

-- ---- on the screen or not

axis_test : (extent : ℕ) (z : ℤ) → Says (le_z (pos 0) z && le_z z (pos (16 * extent))) (OnAxis extent z)
axis_test extent z =
    says_iff (λ h. record { from = h.0; to = h.1 }) (λ h. (h.from, h.to)) (says_and (says_leℤ (pos 0) z) (says_leℤ z (pos (16 * extent))))

every-test : (d : Screen) (vs : List Vertex) → (r : Bool) × Says r (Every (OnGlass d) vs)
every-test d [] = (true, says_yes tt)
every-test d (v ∷ vs) =
    let glass : Says _ (OnGlass d v)
    = says_iff (λ h. record { x = h.0; y = h.1 }) (λ h. (h.x, h.y)) (says_and (axis_test d.width v.x) (axis_test d.height v.y)) in
    (_, says_and glass (every-test d vs).1)

-- a shape lies on the screen or it does not
pub on_screen_decided : (d : Screen) (shape : Shape) → OnScreen d shape ⊎ (OnScreen d shape → ⊥)
on_screen_decided d shape = decided (every-test d (vertices shape)).1

module _ (d : Screen) (ok : Allowed d) (shape : Shape) where
  -- ---- the tests of a row

  module _ (row : ℕ) (row< : row < rows d) where
    test : (column : ℕ) → column < columns d → Hit d shape row column ⊎ (Hit d shape row column → ⊥)
    test column l = decided (corner_says_touching shape (rectangle_at d column row) (rectangle_proper d ok l row<))

    right : (after column : ℕ) → column + after ≡ columns d → (end : ℕ) × (ts : List ℕ) × Right d shape row column end ts
    right zero column e = (column, [], Right.edge {c = column} (omega arith))
    right (suc after) column e =
        ⊎_elim (λ h. let t = right after (suc column) (omega arith) in (t.0, tile_at d column row ∷ t.1, Right.hit {c = column} (omega arith) h t.2))
        (λ n. (column, tile_at d column row ∷ [], Right.miss {c = column} (omega arith) n)) (test column (omega arith))

    left : (column : ℕ) → column ≤ columns d → (first : ℕ) × (ts : List ℕ) × Left d shape row column first ts
    left zero l = (0, [], Left.edge)
    left (suc column) l =
        ⊎_elim (λ h. let t = left column (omega arith) in (t.0, tile_at d column row ∷ t.1, Left.hit h t.2))
        (λ n. (suc column, tile_at d column row ∷ [], Left.miss n)) (test column l)

    in_row : (start : ℕ) → start < columns d → (run : Span) × (ts : List ℕ) × InRow d shape row start run ts
    in_row start l =
        let r = right (columns d - suc start) (suc start) (omega arith) in
        let t = left start (omega arith) in
        (record { start = t.0; end = r.0 }, r.1 ++ t.1, InRow.both r.2 t.2)

    -- where a column is touched, one is found before the end
    find : {end touched : ℕ} → end ≤ columns d → touched < end → Hit d shape row touched → (gap column : ℕ) → column + gap ≡ touched
        → (found : ℕ) × (ts : List ℕ) × Find d shape row end column found ts × (found < columns d)
    find w l h zero column e = (column, tile_at d column row ∷ [], Find.hit {c = column} (omega arith) (subst (Hit d shape row) (omega arith) h), omega arith)
    find w l h (suc gap) column e =
        ⊎_elim (λ g. (column, tile_at d column row ∷ [], Find.hit {c = column} (omega arith) g, omega arith))
        (λ n. let t = find w l h gap (suc column) (omega arith) in (t.0, tile_at d column row ∷ t.1, Find.miss {c = column} (omega arith) n t.2, t.3))
        (test column (omega arith))

  -- ---- the rows

  module _ (on : OnScreen d shape) where
    -- a row that is walked meets the box; it is the last where the box reaches no later one
    ends : {row : ℕ} {run : Span} {us ts : List ℕ} → Steps d shape row run us ts → row < rows d
        → ((k : ℕ) → k < rows d → near d.height d.s k ≤ℤ (bounds (three shape)).bottom → k ≤ row) → (us ts : List ℕ) × Walk d shape us ts
    ends {row} {run} {us} {ts} s row< last =
        let w = steps_whole d ok shape on s in
        let b = touching_meets_box (w.all run.start (omega arith) w.some) in
        let l : LastRow d shape row = record { within = row<; meets = record { from = b.top; to = b.bottom }; last = λ k k< m. last k k< m.from } in
        (us, ts, record { row = row; last = l; run = run; steps = s })

    -- while the box reaches the next row, there is a touched tile below the run
    down : (after : ℕ) {row : ℕ} {run : Span} {us ts : List ℕ} → suc row + after ≡ rows d → Steps d shape row run us ts → (us ts : List ℕ) × Walk d shape us ts
    down zero e s = ends s (omega arith) (λ k k< m. omega arith)
    down (suc after) {row} {run} {us} {ts} e s =
        ⊎_elim
        (λ reaches.
        let b = steps_below d ok shape on s (omega arith) reaches in
        let w = (steps_whole d ok shape on s).within in
        let f = find (suc row) (omega arith) w b.inside.before (rw add-one at b.hit) (b.column - run.start) run.start (omega arith) in
        let r = in_row (suc row) (omega arith) f.0 f.3 in
        down after {run = r.0} {us = us ++ run_tiles d (suc row) r.0} {ts = ts ++ (f.1 ++ r.1)} (omega arith)
        (Steps.next {found = f.0} {run' = r.0} {below = f.1} {beside = r.1} s f.2 r.2))
        (λ n.
        ends s (omega arith)
        (λ k k< m. ⊎_elim (λ (l : row < k). absurd (n (≤ℤ_trans (near_rises d.height d.s (omega arith)) m))) (λ (l : k ≤ row). l) (lt_or_ge row k)))
        (decided (says_leℤ (near d.height d.s (row + 1)) (bounds (three shape)).bottom))

    -- there is a walk of every shape on the screen
    pub walk_exists : (listed : List ℕ) × (tested : List ℕ) × Walk d shape listed tested
    walk_exists =
        let l = start_row< d ok shape on in
        down (rows d - suc (start_row d shape)) (omega arith) (Steps.start (in_row (start_row d shape) l (start_column d shape) (start_column< d ok shape on)).2)

  -- so every shape has its number of tests
  pub tests_exist : (tests : ℕ) × TestsSay d shape tests
  tests_exist =
      ⊎_elim (λ (on : OnScreen d shape). let w = walk_exists on in (length w.1, TestsSay.on_screen on w.0 w.1 w.2 refl))
      (λ n. (0, TestsSay.off_screen n refl)) (on_screen_decided d shape)
