-- A row of the walk: what its columns' tests say of its tiles, and how its run adds the touched tiles of the row to those of the rows before it.
use Prim.Native.Nat.{ℕ, ◌+◌, ◌*◌, ◌-◌, ◌≤◌, ◌<◌}
use mathlib.Core.Path.{◌≡◌, sym, ap, subst, ◌∙◌}
use mathlib.Core.Bool.{Bool}
use mathlib.Core.List.{List}
use mathlib.Core.Logic.{◌↔◌}
use native.Mathlib.Omega.{arith}
use native.Mathlib.Nat.{mul-le-mul_left}
use lib.ListN.{length, set}
use Rattle.numbers.proofs.Diff.{≤ℤ_trans}
use Rattle.numbers.specs.Flag.{flag, flagged, is_flagged, plains}
use Rattle.numbers.proofs.Flag.{plain-flagged, is_flagged_lem, set-plains, length-plains}
use Rattle.numbers.specs.Says.{Says}
use Rattle.numbers.proofs.Says.{says_iff}
use Rattle.screen.specs.declared.Screen.{Screen}
use Rattle.screen.specs.declared.Rectangle.{Rectangle}
use Rattle.screen.specs.declared.Span.{Span}
use Rattle.screen.specs.Screen.{Allowed, across, columns, rows, row_of}
use Rattle.screen.specs.Rectangle.{near, far, rectangle_at, rectangle, In}
use Rattle.screen.proofs.Laws.{near≥, near-far, far≤, rectangle_proper, rectangle_has_area, column_row, column<, row<, row_is, column_is, tile<}
use Rattle.touch.specs.declared.Edges.{Edges}
use Rattle.touch.specs.declared.RowEdges.{RowEdges}
use Rattle.touch.specs.Touches.{Touches}
use Rattle.touch.specs.Cover.{Wholly}
use Rattle.touch.specs.Edges.{Outline, row_edges, Within}
use Rattle.touch.proofs.Covering.{outline_enclosed_is_wholly}
use Rattle.touch.proofs.Gaps.{row_of_tiles_has_no_gap}
use Rattle.touch.proofs.Sizes.{side_within}
use Rattle.touch.proofs.Theorem.{touching_meets_box, outline_clear_is_touching}
use Rattle.walk.specs.Lists.{IsTouched, Flagged, Below, Lists, ListsBefore, Words, Before}
use Rattle.walk.specs.Row.{ClearIn, EnclosedIn, Tested, First, Run, RunIn, outlined, MeetingColumns, MeetingRows, MeetsRow}
use Rattle.walk.proofs.Lists.{lists_none, lists_iff, lists_run, lists_skip, run_none, run_more, words_none, words_more, words_then, words_map}

-- ---- the sides of a tile are of a size that the test takes

module _ (extent s : ℕ) (e≤ : extent ≤ 4096) (s≥ : 3 ≤ s) (s≤ : s ≤ 6) {k : ℕ} (k< : k < across extent s) where
  pub near_within : Within 524288 (near extent s k)
  near_within = side_within (near≥ extent s e≤ s≥ s≤ k<) (≤ℤ_trans (near-far extent s e≤ s≥ s≤ k<) (far≤ extent s e≤ s≥ s≤ k<))

  pub far_within : Within 524288 (far extent s k)
  far_within = side_within (≤ℤ_trans (near≥ extent s e≤ s≥ s≤ k<) (near-far extent s e≤ s≥ s≤ k<)) (far≤ extent s e≤ s≥ s≤ k<)

-- ---- the word of a tile

-- it names the tile, with the flag that its test gave
pub tested : (d : Screen) (e : RowEdges) {base column : ℕ} {whole : Bool} → base + column < flag → column < columns d → Says whole (EnclosedIn d e column)
    → Tested d e base (flagged (base + column) whole)
tested d e {base} {column} {whole} h k s = record {
  column = column;
  within = k;
  number = plain-flagged (base + column) h whole;
  says = subst (λ (r : Bool). Says r (EnclosedIn d e column)) (sym (is_flagged_lem (base + column) h whole)) s;
}

-- and goes on with a run
pub run_named : (Q : ℕ → Type 0) {base from stop count n : ℕ} (old new : List ℕ) → Run Q base from stop count n (plains old) (plains new) → Q stop
    → n < length new → base + stop < flag → (whole : Bool) → Run Q base from (stop + 1) count (n + 1) (plains old) (plains (set new n (flagged (base + stop) whole)))
run_named Q {base} {from} {stop} {count} {n} old new r q h k whole =
    subst (λ (xs : List ℕ). Run Q base from (stop + 1) count (n + 1) (plains old) xs)
    (sym (set-plains new n (flagged (base + stop) whole) ∙ ap (set (plains new) n) (plain-flagged (base + stop) k whole)))
    (run_more Q base r q (rw (length-plains new) h))

-- ---- the tiles of a row

module _ (d : Screen) (a : Allowed d) where
  -- there is room for the tiles of a row and of those before it
  pub row_room : {row : ℕ} → row < rows d → row * columns d + columns d ≤ 4096
  row_room {row} h = let t = a.tiles≤ in let w : columns d * (row + 1) ≤ columns d * rows d = mul-le-mul_left (columns d) (omega arith) in omega arith

  -- the tile in a column and a row has their rectangle
  pub tile_rectangle : (column row : ℕ) → column < columns d → rectangle d (row * columns d + column) ≡ rectangle_at d column row
  tile_rectangle column row h = λ i. rectangle_at d (column_is d a column row h i) (row_is d a column row h i)

module _ (d : Screen) (a : Allowed d) (e : Edges) (o : Outline e) (row : ℕ) (r< : row < rows d) (m : MeetsRow d e row) (span : Span) (c : MeetingColumns d e span) where
  abbrev P : ℕ → Type 0
  P t = IsTouched d (outlined e) t

  abbrev E : RowEdges
  E = row_edges e (near d.height d.s row) (far d.height d.s row)

  abbrev Q : ℕ → Type 0
  Q column = ClearIn d E column

  abbrev base : ℕ
  base = row * columns d

  in_columns : {k : ℕ} → In span k → k < columns d
  in_columns i = let b = i.before in let w = c.within in omega arith

  test : {k : ℕ} → In span k → Q k ↔ Touches (outlined e) (rectangle_at d k row)
  test {k} i =
      let n = c.sound k i in
      outline_clear_is_touching o (rectangle_proper d a (in_columns i) r<)
      (record { left = n.from; right = n.to; top = m.from; bottom = m.to })

  clear_touched : {k : ℕ} → In span k → Q k → P (base + k)
  clear_touched {k} i q = (tile< d a (in_columns i) r<, subst (Touches (outlined e)) (sym (tile_rectangle d a k row (in_columns i))) ((test i).0 q))

  -- the flag of a word that names a tile of the row
  pub tested_flagged : (w : ℕ) → Tested d E base w → Flagged d (outlined e) w
  tested_flagged w h =
      let same = outline_enclosed_is_wholly o (rectangle_has_area d a h.within r<) in
      subst (λ (q : Rectangle). Says (is_flagged w) (Wholly (outlined e) q))
      (sym (ap (rectangle d) h.number ∙ tile_rectangle d a h.column row h.within))
      (says_iff same.0 same.1 h.says)

  record Column (t : ℕ) : Type 0 where
    k : ℕ
    number : t ≡ base + k
    inside : In span k
    touches : Touches (outlined e) (rectangle_at d k row)
    clear : Q k

  -- a touched tile of the row stands in the span, and its column is clear
  touched_clear : (t : ℕ) → base ≤ t → t < base + columns d → P t → Column t
  touched_clear t l h p =
      let k : ℕ = t - base in
      let n : t ≡ base + k = omega arith in
      let k< : k < columns d = omega arith in
      let q : Touches (outlined e) (rectangle_at d k row)
      = subst (Touches (outlined e)) (ap (rectangle d) n ∙ tile_rectangle d a k row k<) p.1 in
      let i : In span k = c.whole k k< (let b = touching_meets_box q in record { from = b.left; to = b.right }) in
      record { k = k; number = n; inside = i; touches = q; clear = (test i).1 q }

  next_row : (row + 1) * columns d ≡ base + columns d
  next_row = omega arith

  -- no column of the span is clear
  pub row_without : {first n : ℕ} {old new : List ℕ} → First Q span first → span.end ≤ first
      → ListsBefore d (outlined e) row n old new → ListsBefore d (outlined e) (row + 1) n old new
  row_without {first} {n} {old} {new} f l g =
      subst (λ (m : ℕ). Lists (Below m P) n old new) (sym next_row)
      (lists_skip P (omega arith)
      (λ t u h p.
      let w = touched_clear t u h p in
      let i = w.inside in
      f.none w.k i.from (let b = i.before in omega arith) w.clear)
      g)

  -- the run from the first clear column on
  pub row_with : {first count n : ℕ} {old mid new : List ℕ} → First Q span first → first < span.end → count < length mid
      → RunIn Q base (record { start = first + 1; end = span.end }) (count + 1) n (set mid count (base + first)) new
      → ListsBefore d (outlined e) row count old mid → ListsBefore d (outlined e) (row + 1) n old new
  row_with {first} {count} {n} {old} {mid} {new} f l room r g =
      subst (λ (m : ℕ). Lists (Below m P) n old new) (sym next_row)
      (lists_skip P after≤ after (lists_run P second r.run (λ k u h. clear_touched (record { from = in_from k u; before = in_before k h }) (r.run.all k u h))))
    where
      here : In span first
      here = record { from = f.from; before = l }

      in_from : (k : ℕ) → first + 1 ≤ k → span.start ≤ k
      in_from k u = let s = f.from in omega arith

      in_before : (k : ℕ) → k < r.stop → k < span.end
      in_before k h = let w = r.within in omega arith

      before : Lists (Below (base + first) P) count old mid
      before =
          lists_skip P (omega arith)
          (λ t u h p.
          let c< = in_columns here in
          let w = touched_clear t u (omega arith) p in
          let n = w.number in
          f.none w.k w.inside.from (omega arith) w.clear)
          g

      second : Lists (Below (base + (first + 1)) P) (count + 1) old (set mid count (base + first))
      second =
          lists_run P before (run_more Q base (run_none Q base first count mid) (f.first l) room)
          (λ k u h. subst (λ (j : ℕ). P (base + j)) (omega arith) (clear_touched here (f.first l)))

      after≤ : base + r.stop ≤ base + columns d
      after≤ = let w = r.within in let c≤ = c.within in omega arith

      -- a touched tile after the run would close a gap
      after : (t : ℕ) → base + r.stop ≤ t → t < base + columns d → P t → ⊥
      after t u h p =
          let b = r.run.from≤ in
          let w = touched_clear t (omega arith) h p in
          let num = w.number in
          let stop≤ : r.stop ≤ w.k = omega arith in
          let i = w.inside in
          let i< = i.before in
          let stop< : r.stop < span.end = omega arith in
          let s = f.from in
          let at : In span r.stop = record { from = omega arith; before = stop< } in
          let g = row_of_tiles_has_no_gap d a (outlined e) row {c₁ = first} {c₂ = r.stop} {c₃ = w.k} (omega arith) stop≤ (in_columns i)
          ((test here).0 (f.first l)) w.touches in
          r.ends stop< ((test at).1 g)

  -- with the words that name it
  pub row_named : {first count n : ℕ} {whole : Bool} (old mid new : List ℕ) → First Q span first → first < span.end → Says whole (EnclosedIn d E first)
      → count < length mid
      → RunIn Q base (record { start = first + 1; end = span.end }) (count + 1) n (plains (set mid count (flagged (base + first) whole))) (plains new)
      → Words (Tested d E base) (count + 1) n (set mid count (flagged (base + first) whole)) new
      → Before d (outlined e) row count old mid → Before d (outlined e) (row + 1) n old new
  row_named {first} {count} {n} {whole} old mid new f l says room r ws g =
      let first< : first < columns d = in_columns (record { from = f.from; before = l }) in
      let small : base + first < flag = omega (arith, row_room d a r<) in
      let as_many = r.run.as_many in
      let from≤ = r.run.from≤ in
      let w = flagged (base + first) whole in (
        row_with f l (rw (length-plains mid) room)
            (subst (λ (xs : List ℕ). RunIn Q base (record { start = first + 1; end = span.end }) (count + 1) n xs (plains new))
            (set-plains mid count w ∙ ap (set (plains mid) count) (plain-flagged (base + first) small whole)) r)
            g.0,
        words_then (omega arith) (omega arith) g.1
            (words_map (Flagged d (outlined e)) tested_flagged
            (words_then (omega arith) (omega arith) (words_more (omega arith) (words_none count mid) w (tested d E small first< says) room) ws)),
      )

-- ---- the rows of the walk

module _ (d : Screen) (a : Allowed d) (e : Edges) (span : Span) (c : MeetingRows d e span) where
  -- a touched tile stands in a row of the span
  touched-row : (t : ℕ) → IsTouched d (outlined e) t → In span (row_of d t)
  touched-row t p =
      c.whole (row_of d t) (row< d a t p.0) (let b = touching_meets_box p.1 in record { from = b.top; to = b.bottom })

  -- before the first row nothing is touched
  pub rows_none : (old : List ℕ) → ListsBefore d (outlined e) span.start 0 old old
  rows_none old =
      lists_none (Below (span.start * columns d) (IsTouched d (outlined e))) old
      (λ t p.
      let i = (touched-row t p.1).from in
      let n = column_row d a t in
      let h = p.0 in
      omega (arith, mul-le-mul_left (columns d) i))

  -- after the last there is nothing more
  pub rows_all : {row n : ℕ} {old new : List ℕ} → span.end ≤ row → ListsBefore d (outlined e) row n old new → Lists (IsTouched d (outlined e)) n old new
  rows_all {row} {n} {old} {new} h l =
      lists_iff (Below (row * columns d) (IsTouched d (outlined e))) (IsTouched d (outlined e)) (λ t p. p.1)
      (λ t p.
      let i = (touched-row t p).before in
      let c< = column< d a t in
      let n = column_row d a t in
      let k : row_of d t + 1 ≤ row = omega arith in
      (omega (arith, mul-le-mul_left (columns d) k), p))
      l
