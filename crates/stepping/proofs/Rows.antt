-- Theorems of the walk's definition: each run has the touched columns of its row and no other, so the tiles listed are the touched tiles; and the tests are
-- at most twice the tiles listed and the rows listed.
use Prim.Native.Nat.{ℕ, zero, suc, ◌+◌, ◌*◌, ◌-◌, ◌≤◌, ◌<◌}
use mathlib.Core.Path.{◌≡◌, refl, sym, ap, subst, ◌∙◌}
use mathlib.Core.List.{List, [], ◌++◌, append-nil, append_assoc}
use mathlib.Core.Logic.{◌⊎◌, ⊎_elim}
use native.Mathlib.Omega.{arith}
use native.Mathlib.Nat.{mul-le-mul_left}
use lib.ListN.{length, get_or, length-append, get_or-append}
use lib.Seq.{get_or-append-add}
use lib.Signed.{◌≤ℤ◌}
use Rattle.numbers.proofs.Ceil.{lt_or_ge}
use Rattle.numbers.proofs.Diff.{≤ℤ_trans}
use Rattle.screen.specs.declared.Screen.{Screen}
use Rattle.screen.specs.declared.Span.{Span}
use Rattle.screen.specs.Screen.{Allowed, columns, rows, tiles, row_of, tile_at}
use Rattle.screen.specs.Rectangle.{near, rectangle, In}
use Rattle.screen.proofs.Laws.{columns≥, rows≥, column_row, column<, row<, tile<}
use Rattle.screen.proofs.Held.{up_least}
use Rattle.shape.specs.declared.Shape.{Shape}
use Rattle.touch.specs.Touches.{Touches}
use Rattle.touch.specs.Corner.{three, bounds}
use Rattle.touch.proofs.Gaps.{row_of_tiles_has_no_gap}
use Rattle.touch.proofs.Theorem.{touching_meets_box}
use Rattle.walk.specs.Lists.{IsTouched, Below, Lists}
use Rattle.walk.specs.Row.{Run}
use Rattle.walk.specs.Touched.{TouchedTiles}
use Rattle.walk.proofs.Grid.{tile_rectangle}
use Rattle.walk.proofs.Lists.{lists_none, lists_iff, lists_run, lists_skip, lists_few}
use Rattle.stepping.specs.Stepping.{OnScreen, Hit, InRow, Steps, Walk, start_row, numbers_from, run_tiles}
use Rattle.stepping.specs.Row.{Reach, Back, HitIn}
use Rattle.stepping.proofs.Runs.{right_reach, left_back, find_found}
use Rattle.stepping.proofs.Points.{topmost_on_glass, topmost_highest, start_column<, start-touched, below_is_touched}

-- ---- the tiles of a run, as a list

pub numbers_length : (t n : ℕ) → length (numbers_from t n) ≡ n
numbers_length t zero = refl
numbers_length t (suc n) = ap suc (numbers_length (suc t) n)

pub numbers_at : (t n i : ℕ) → i < n → get_or (numbers_from t n) i 0 ≡ t + i
numbers_at t zero i h = absurd (omega arith)
numbers_at t (suc n) zero h = omega arith
numbers_at t (suc n) (suc i) h = let e = numbers_at (suc t) n i (omega arith) in omega arith

-- a row has no more tiles than the screen
pub columns≤ : (d : Screen) → Allowed d → columns d ≤ 4096
columns≤ d ok = let r = rows≥ d ok in let t = ok.tiles≤ in omega (arith, mul-le-mul_left (columns d) r)

pub rows≤ : (d : Screen) → Allowed d → rows d ≤ 4096
rows≤ d ok = let r = columns≥ d ok in let t = ok.tiles≤ in omega (arith, mul-le-mul_left (rows d) r)

-- ---- a run that has the touched columns of its row and no other

pub record WholeRun (d : Screen) (shape : Shape) (row : ℕ) (run : Span) : Type 0 where
  pub some : run.start < run.end
  pub within : run.end ≤ columns d
  pub all : (k : ℕ) → run.start ≤ k → k < run.end → Hit d shape row k
  pub only : (k : ℕ) → k < columns d → Hit d shape row k → In run k

module _ (d : Screen) (ok : Allowed d) (shape : Shape) where
  module _ (row start : ℕ) (start< : start < columns d) (h : Hit d shape row start) {run : Span} (r : Reach (Hit d shape row) (columns d) (suc start) run.end) (l : Back (Hit d shape row) 0 start run.start) where
    inside : (k : ℕ) → run.start ≤ k → k < run.end → (k < start) ⊎ (start ≤ k) → (start < k) ⊎ (k ≤ start) → Hit d shape row k
    inside k u v =
        ⊎_elim (λ (w : k < start) x. l.all k u w)
        (λ (w : start ≤ k). ⊎_elim (λ (x : start < k). r.all k x v) (λ (x : k ≤ start). subst (Hit d shape row) (omega arith) h))

    from_start : (k : ℕ) → k < columns d → Hit d shape row k → (k < run.start) ⊎ (run.start ≤ k) → run.start ≤ k
    from_start k k< t =
        ⊎_elim
        (λ (u : k < run.start).
        let to = l.to in
        let m : ℕ = run.start - 1 in
        absurd (l.ends m (omega arith) (omega arith) (row_of_tiles_has_no_gap d ok shape row {c₁ = k} {c₂ = m} {c₃ = start} (omega arith) (omega arith) start< t h)))
        (λ (u : run.start ≤ k). u)

    to_end : (k : ℕ) → k < columns d → Hit d shape row k → (k < run.end) ⊎ (run.end ≤ k) → k < run.end
    to_end k k< t =
        ⊎_elim (λ (u : k < run.end). u)
        (λ (u : run.end ≤ k).
        let f = r.from in
        absurd (r.ends (omega arith) (row_of_tiles_has_no_gap d ok shape row {c₁ = start} {c₂ = run.end} {c₃ = k} (omega arith) u k< h t)))

    whole_run : WholeRun d shape row run
    whole_run =
        record {
          some = let f = r.from in let t = l.to in omega arith;
          within = r.within;
          all = λ k u v. inside k u v (lt_or_ge k start) (lt_or_ge start k);
          only = λ k k< t. record { from = from_start k k< t (lt_or_ge k run.start); before = to_end k k< t (lt_or_ge k run.end) };
        }

  pub row_is_whole : {row start : ℕ} {run : Span} {ts : List ℕ} → start < columns d → Hit d shape row start → InRow d shape row start run ts
      → WholeRun d shape row run
  row_is_whole {row} {start} l h (InRow.both r t) = whole_run row start l h (right_reach d shape row r).0 (left_back d shape row t).0

  -- a row takes at most one test more than it has tiles
  pub row_tests : {row start : ℕ} {run : Span} {ts : List ℕ} → InRow d shape row start run ts → length ts + run.start ≤ run.end + 1
  row_tests {row} {start} (InRow.both {right = right} {left = left} r t) =
      let a = (right_reach d shape row r).1 in
      let b = (left_back d shape row t).1 in
      let e = length-append right left in
      omega arith

  pub row_end≤ : {row start : ℕ} {run : Span} {ts : List ℕ} → InRow d shape row start run ts → run.end ≤ columns d
  row_end≤ {row} (InRow.both r t) = (right_reach d shape row r).0.within

  pub row_some : {row start : ℕ} {run : Span} {ts : List ℕ} → InRow d shape row start run ts → run.start < run.end
  row_some {row} (InRow.both r t) = let a = (right_reach d shape row r).0.from in let b = (left_back d shape row t).0.to in omega arith

  -- ---- touched tiles, by row and column

  pub hit_touched : (row column : ℕ) → row < rows d → column < columns d → Hit d shape row column → IsTouched d shape (tile_at d column row)
  hit_touched row column r l h = (tile< d ok l r, subst (Touches shape) (sym (tile_rectangle d ok column row l)) h)

  touched_hit : (row t : ℕ) → row * columns d ≤ t → t < row * columns d + columns d → IsTouched d shape t → Hit d shape row (t - row * columns d)
  touched_hit row t l u p =
      let e : t ≡ tile_at d (t - row * columns d) row = omega arith in
      subst (Touches shape) (ap (rectangle d) e ∙ tile_rectangle d ok (t - row * columns d) row (omega arith)) p.1

  -- a whole run after the touched tiles of the rows before it
  pub one_row_more : {row : ℕ} {run : Span} {Q : ℕ → Type 0} {count n : ℕ} {old mid new : List ℕ} → WholeRun d shape row run → row < rows d
      → Lists (Below (row * columns d) (IsTouched d shape)) count old mid → Run Q (row * columns d) run.start run.end count n mid new
      → Lists (Below (row * columns d + columns d) (IsTouched d shape)) n old new
  one_row_more {row} {run} {Q} {count} {n} {old} {mid} {new} w r< g r =
      let within = w.within in
      lists_skip P (omega arith) (λ t u v p. none_after t u v p (only t u v p)) (lists_run P before r (λ k u v. hit_touched row k r< (omega arith) (w.all k u v)))
    where
      P : ℕ → Type 0
      P = IsTouched d shape

      only : (t : ℕ) → row * columns d + run.end ≤ t → t < row * columns d + columns d → IsTouched d shape t → In run (t - row * columns d)
      only t u v p = w.only (t - row * columns d) (omega arith) (touched_hit row t (omega arith) v p)

      none_after : (t : ℕ) → row * columns d + run.end ≤ t → t < row * columns d + columns d → IsTouched d shape t → In run (t - row * columns d) → ⊥
      none_after t u v p i = let b = i.before in omega arith

      before : Lists (Below (row * columns d + run.start) (IsTouched d shape)) count old mid
      before =
          let some = w.some in
          let within = w.within in
          lists_skip (IsTouched d shape) (omega arith)
          (λ t u v p.
          let i = w.only (t - row * columns d) (omega arith) (touched_hit row t u (omega arith) p) in
          let f = i.from in
          omega arith)
          g

  -- the tiles of a run after other tiles
  run_listed : {row : ℕ} {run : Span} → WholeRun d shape row run → (us ys : List ℕ)
      → Run (Hit d shape row) (row * columns d) run.start run.end (length us) (length us + length (run_tiles d row run))
      (us ++ (run_tiles d row run ++ ys)) (us ++ (run_tiles d row run ++ ys))
  run_listed {row} {run} w us ys =
      let some = w.some in
      let e = numbers_length (tile_at d run.start row) (run.end - run.start) in
      record {
        size = refl;
        from≤ = omega arith;
        as_many = omega arith;
        all = w.all;
        written = λ i l h. written i l h;
        under = λ i l. refl;
        over = λ i l. refl;
      }
    where
      written : (i : ℕ) → length us ≤ i → i < length us + length (run_tiles d row run)
          → get_or (us ++ (run_tiles d row run ++ ys)) i 0 + length us ≡ row * columns d + run.start + i
      written i l h =
          let j : ℕ = i - length us in
          let e : length us + j ≡ i = omega arith in
          let m = numbers_length (tile_at d run.start row) (run.end - run.start) in
          let a = get_or-append-add us (run_tiles d row run ++ ys) j 0 in
          let b = get_or-append (run_tiles d row run) ys 0 j (omega arith) in
          let c = numbers_at (tile_at d run.start row) (run.end - run.start) j (omega arith) in
          let f = subst (λ (k : ℕ). get_or (us ++ (run_tiles d row run ++ ys)) k 0 ≡ get_or (run_tiles d row run ++ ys) j 0) e a in
          omega arith

module _ (d : Screen) (ok : Allowed d) (shape : Shape) (on : OnScreen d shape) where
  -- each run of the walk is whole
  pub steps_whole : {row : ℕ} {run : Span} {listed tested : List ℕ} → Steps d shape row run listed tested → WholeRun d shape row run
  steps_whole (Steps.start r) = row_is_whole d ok shape (start_column< d ok shape on) (start-touched d ok shape on) r
  steps_whole (Steps.next {row} {found} {run} p f r) =
      let w = (steps_whole p).within in
      let g = find_found d shape (suc row) f in
      let b = g.before in
      row_is_whole d ok shape (omega arith) g.touched r

  -- below each run of the walk there is a touched tile, where the shape reaches the next row
  pub steps_below : {row : ℕ} {run : Span} {listed tested : List ℕ} → Steps d shape row run listed tested → row + 1 < rows d
      → near d.height d.s (row + 1) ≤ℤ (bounds (three shape)).bottom → HitIn d shape (row + 1) run
  steps_below {row} {run} p r reaches =
      let w = steps_whole p in
      let some = w.some in
      below_is_touched d ok shape on row run some w.within (w.all run.start (omega arith) some) w.only r reaches

  -- no tile of a row before the start row is touched
  pub touched_from_start : (t : ℕ) → IsTouched d shape t → start_row d shape ≤ row_of d t
  touched_from_start t p =
      let b = touching_meets_box p.1 in
      let g = topmost_on_glass d ok shape on in
      up_least d.height d.s ok.height≥ g.y.from g.y.to (row_of d t) (≤ℤ_trans (topmost_highest (three shape)) b.bottom)

  pub none_before : (old : List ℕ) → Lists (Below (start_row d shape * columns d) (IsTouched d shape)) 0 old old
  none_before old =
      lists_none (Below (start_row d shape * columns d) (IsTouched d shape)) old
      (λ t p.
      let l = touched_from_start t p.1 in
      let n = column_row d ok t in
      let h = p.0 in
      omega (arith, mul-le-mul_left (columns d) l))

  -- the tiles listed so far are the touched tiles of the rows so far
  pub steps_listed : {row : ℕ} {run : Span} {listed tested : List ℕ} → Steps d shape row run listed tested → row < rows d → (ys : List ℕ)
      → Lists (Below (row * columns d + columns d) (IsTouched d shape)) (length listed) (listed ++ ys) (listed ++ ys)
  steps_listed (Steps.start {run} r) l ys =
      let w = steps_whole (Steps.start r) in
      let us : List ℕ = run_tiles d (start_row d shape) run in
      subst (λ (n : ℕ). Lists (Below (start_row d shape * columns d + columns d) (IsTouched d shape)) n (us ++ ys) (us ++ ys)) (omega arith)
      (one_row_more d ok shape w l (none_before (us ++ ys)) (run_listed d ok shape w [] ys))
  steps_listed (Steps.next {row} {run' = run} {listed = us} p f r) l ys =
      let w = steps_whole (Steps.next p f r) in
      let e : length (us ++ run_tiles d (suc row) run) ≡ length us + length (run_tiles d (suc row) run) = length-append us (run_tiles d (suc row) run) in
      let a : (us ++ run_tiles d (suc row) run) ++ ys ≡ us ++ (run_tiles d (suc row) run ++ ys) = append_assoc us (run_tiles d (suc row) run) ys in
      let b = steps_listed p (omega arith) (run_tiles d (suc row) run ++ ys) in
      let m : row * columns d + columns d ≡ suc row * columns d = omega arith in
      subst (λ (P : Type 0). P)
      (λ i. Lists (Below (suc row * columns d + columns d) (IsTouched d shape)) (sym e i) (sym a i) (sym a i))
      (one_row_more d ok shape w l
      (subst (λ (k : ℕ). Lists (Below k (IsTouched d shape)) (length us) (us ++ (run_tiles d (suc row) run ++ ys)) (us ++ (run_tiles d (suc row) run ++ ys))) m b)
      (run_listed d ok shape w us ys))

  -- there are no more of them than the screen has tiles
  pub steps_few : {row : ℕ} {run : Span} {listed tested : List ℕ} → Steps d shape row run listed tested → row < rows d → length listed ≤ tiles d
  steps_few {listed = listed} p l = lists_few (length listed) (steps_listed p l []) (λ t q. q.1.0)

  -- no tile of a row after the last is touched
  pub none_after : {row n : ℕ} {old new : List ℕ} → ((t : ℕ) → IsTouched d shape t → row_of d t ≤ row)
      → Lists (Below (row * columns d + columns d) (IsTouched d shape)) n old new → Lists (IsTouched d shape) n old new
  none_after {row} last l =
      lists_iff (Below (row * columns d + columns d) (IsTouched d shape)) (IsTouched d shape) (λ t p. p.1)
      (λ t p.
      let k = last t p in
      let c< = column< d ok t in
      let n = column_row d ok t in
      (omega (arith, mul-le-mul_left (columns d) k), p))
      l

  pub walk_last : {listed tested : List ℕ} (w : Walk d shape listed tested) (t : ℕ) → IsTouched d shape t → row_of d t ≤ w.row
  walk_last w t p = let b = touching_meets_box p.1 in w.last.last (row_of d t) (row< d ok t p.0) (record { from = b.top; to = b.bottom })

  -- the tiles that the walk lists are the touched tiles, once each, in rising number
  pub walk_lists : {listed tested : List ℕ} → Walk d shape listed tested → TouchedTiles d shape listed
  walk_lists {listed} w =
      let l : Lists (IsTouched d shape) (length listed) listed listed
      = subst (λ (us : List ℕ). Lists (IsTouched d shape) (length listed) us us) (append-nil listed)
      (none_after (walk_last w) (steps_listed w.steps w.last.within [])) in
      record {
        rising = λ i h. l.rising i (suc i) (omega arith) h;
        touched = l.sound;
        all = λ t h p. let x = l.whole t (h, p) in (x.index, x.before, x.there);
      }

  -- ---- the price

  pub record Price (row : ℕ) (run : Span) (listed tested : List ℕ) : Type 0 where
    pub rows≥ : start_row d shape ≤ row
    pub tests≤ : length tested + run.end + start_row d shape ≤ 2 * length listed + run.start + row + 1

  pub steps_price : {row : ℕ} {run : Span} {listed tested : List ℕ} → Steps d shape row run listed tested → Price row run listed tested
  steps_price (Steps.start {run} {tested} r) =
      let some = (steps_whole (Steps.start r)).some in
      let e = numbers_length (tile_at d run.start (start_row d shape)) (run.end - run.start) in
      let t = row_tests d ok shape r in
      record { rows≥ = omega arith; tests≤ = omega arith }
  steps_price (Steps.next {row} {found} {run} {run'} {listed} {tested} {below} {beside} p f r) =
      let some = (steps_whole (Steps.next p f r)).some in
      let e = numbers_length (tile_at d run'.start (suc row)) (run'.end - run'.start) in
      let t = row_tests d ok shape r in
      let g = find_found d shape (suc row) f in
      let b = g.before in
      let m = g.many in
      let q = steps_price p in
      let u = q.tests≤ in
      let v = q.rows≥ in
      let x = length-append tested (below ++ beside) in
      let y = length-append below beside in
      let z = length-append listed (run_tiles d (suc row) run') in
      record { rows≥ = omega arith; tests≤ = omega arith }

  -- the tests are at most twice the tiles listed and the rows listed
  pub walk_price : {listed tested : List ℕ} (w : Walk d shape listed tested) → length tested ≤ 2 * length listed + (w.row + 1 - start_row d shape)
  walk_price w =
      let q = steps_price w.steps in
      let some = (steps_whole w.steps).some in
      let u = q.tests≤ in
      let v = q.rows≥ in
      omega arith
