-- The price of a walk: its tests are at most twice the tiles listed and the rows listed, since the rows listed are those from the start row to the last.
use Prim.Native.Nat.{ℕ, suc, ◌+◌, ◌*◌, ◌-◌, ◌≤◌, ◌<◌}
use mathlib.Core.Path.{◌≡◌, refl, sym, ap, subst, ◌∙◌}
use mathlib.Core.List.{List}
use mathlib.Core.Logic.{⊎_elim}
use native.Mathlib.Omega.{arith}
use lib.ListN.{length, get_or}
use Rattle.numbers.proofs.Ceil.{lt_or_ge}
use Rattle.screen.specs.declared.Screen.{Screen}
use Rattle.screen.specs.declared.Span.{Span}
use Rattle.screen.specs.Screen.{Allowed, columns, rows, row_of, tile_at}
use Rattle.screen.proofs.Laws.{row_is}
use Rattle.shape.specs.declared.Shape.{Shape}
use Rattle.walk.specs.Lists.{Lists}
use Rattle.walk.specs.Touched.{TouchedTiles}
use Rattle.walk.proofs.Lists.{lists_as_long}
use Rattle.walk.proofs.Touched.{rises_throughout, touched_tiles_unique}
use Rattle.stepping.specs.Stepping.{OnScreen, Hit, Steps, Walk, start_row, numbers_from}
use Rattle.stepping.specs.Stepped.{TestsSay, RowsOf}
use Rattle.stepping.proofs.Exists.{walk_exists}
use Rattle.stepping.proofs.Rows.{numbers_length, numbers_at, hit_touched, steps_whole, touched_from_start, walk_last, walk_lists, walk_price}

-- a column of the row is touched
pub record Touched (d : Screen) (shape : Shape) (row : ℕ) : Type 0 where
  pub column : ℕ
  pub within : column < columns d
  pub hit : Hit d shape row column

module _ (d : Screen) (ok : Allowed d) (shape : Shape) (on : OnScreen d shape) where
  -- each row from the start row on that was walked has a touched tile
  of_run : {row : ℕ} {run : Span} {us ts : List ℕ} → Steps d shape row run us ts → (k : ℕ) → k ≡ row → Touched d shape k
  of_run {run = run} s k e =
      let w = steps_whole d ok shape on s in
      let within = w.within in
      let some = w.some in
      record { column = run.start; within = omega arith; hit = subst (λ (r : ℕ). Hit d shape r run.start) (sym e) (w.all run.start (omega arith) some) }

  pub row-touched : {row : ℕ} {run : Span} {us ts : List ℕ} → Steps d shape row run us ts → (k : ℕ) → start_row d shape ≤ k → k ≤ row → Touched d shape k
  row-touched (Steps.start r) k l h = of_run (Steps.start r) k (omega arith)
  row-touched (Steps.next {row} p f r) k l h =
      ⊎_elim (λ (u : k < suc row). row-touched p k l (omega arith)) (λ (u : suc row ≤ k). of_run (Steps.next p f r) k (omega arith)) (lt_or_ge k (suc row))

  module _ {listed tested : List ℕ} (w : Walk d shape listed tested) where
    -- from the start row to the last
    abbrev Rows : ℕ → Type 0
    Rows k = (start_row d shape ≤ k) × (k ≤ w.row)

    abbrev many : ℕ
    many = w.row + 1 - start_row d shape

    all_rows : Lists Rows many (numbers_from (start_row d shape) many) (numbers_from (start_row d shape) many)
    all_rows =
        record {
          size = refl;
          rest = λ i l. refl;
          rising = λ i j l h. omega (arith, numbers_at (start_row d shape) many i (omega arith), numbers_at (start_row d shape) many j h);
          sound = λ i h. let e = numbers_at (start_row d shape) many i h in (omega arith, omega arith);
          whole =
              λ k p.
              let l = p.0 in
              let h = p.1 in
              record {
                index = k - start_row d shape;
                before = omega arith;
                there = omega (arith, numbers_at (start_row d shape) many (k - start_row d shape) (omega arith));
              };
        }

    -- and these are the rows in which the touched tiles stand
    walked_rows : {ts : List ℕ} → TouchedTiles d shape ts → RowsOf d ts (numbers_from (start_row d shape) many)
    walked_rows {ts} T =
        record {
          rising =
              λ i h.
              omega
              (arith, numbers_at (start_row d shape) many i (omega (arith, long)), numbers_at (start_row d shape) many (suc i) (omega (arith, long)));
          row =
              λ i h.
              let k : ℕ = start_row d shape + i in
              let k≤ : k ≤ w.row = omega (arith, long) in
              let c = row-touched w.steps k (omega arith) k≤ in
              let k< : k < rows d = let a = w.last.within in omega arith in
              let t = hit_touched d ok shape k c.column k< c.within c.hit in
              let j = T.all (tile_at d c.column k) t.0 t.1 in
              (j.0, j.1, ap (row_of d) j.2 ∙ row_is d ok c.column k c.within ∙ sym (numbers_at (start_row d shape) many i (omega (arith, long))));
          all =
              λ j h.
              let p = T.touched j h in
              let a = touched_from_start d ok shape on _ p in
              let b = walk_last d ok shape on w _ p in
              let i : ℕ = row_of d (get_or ts j 0) - start_row d shape in
              (i, omega (arith, long), omega (arith, numbers_at (start_row d shape) many i (omega arith)));
        }
      where
        long : length (numbers_from (start_row d shape) many) ≡ many
        long = numbers_length (start_row d shape) many

    module _ {ts rs : List ℕ} (T : TouchedTiles d shape ts) (R : RowsOf d ts rs) where
      listed-rows : Lists Rows (length rs) rs rs
      listed-rows =
          record {
            size = refl;
            rest = λ i l. refl;
            rising = rises_throughout rs R.rising;
            sound =
                λ i h.
                let r = R.row i h in
                let p = T.touched r.0 r.1 in
                subst Rows r.2 (touched_from_start d ok shape on _ p, walk_last d ok shape on w _ p);
            whole =
                λ k p.
                let c = row-touched w.steps k p.0 p.1 in
                let k< : k < rows d = let a = w.last.within in let b = p.1 in omega arith in
                let t = hit_touched d ok shape k c.column k< c.within c.hit in
                let j = T.all (tile_at d c.column k) t.0 t.1 in
                let i = R.all j.0 j.1 in
                record { index = i.0; before = i.1; there = i.2 ∙ ap (row_of d) j.2 ∙ row_is d ok c.column k c.within };
          }

      -- at most twice the tiles and the rows
      walk_price_by_rows : length tested ≤ 2 * length ts + length rs
      walk_price_by_rows =
          omega
          (arith, walk_price d ok shape on w, lists_as_long listed-rows all_rows, ap length (touched_tiles_unique (walk_lists d ok shape on w) T))

-- so of any shape: the tests of a bin are at most twice the tiles listed and the rows listed
pub tests_price : (d : Screen) → Allowed d → (shape : Shape) {tests : ℕ} {ts rs : List ℕ} → TestsSay d shape tests → TouchedTiles d shape ts → RowsOf d ts rs
    → tests ≤ 2 * length ts + length rs
tests_price d ok shape (TestsSay.on_screen on us vs w e) T R = omega (arith, e, walk_price_by_rows d ok shape on w T R)
tests_price d ok shape (TestsSay.off_screen off e) T R = omega arith

-- and there are such rows
pub rows_exist : (d : Screen) → Allowed d → (shape : Shape) → OnScreen d shape → {ts : List ℕ} → TouchedTiles d shape ts → (rs : List ℕ) × RowsOf d ts rs
rows_exist d ok shape on T = (_, walked_rows d ok shape on (walk_exists d ok shape on).2 T)
