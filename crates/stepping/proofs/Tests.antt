-- In a row that meets the bounding box the columns of the box and the edges say which tiles are touched; so what the functions find of a row are the tests
-- that the definition makes.
use Prim.Native.Nat.{ℕ, suc, ◌+◌, ◌-◌, ◌≤◌, ◌<◌}
use mathlib.Core.Path.{◌≡◌, refl, sym, subst}
use mathlib.Core.Bool.{Bool, true, false}
use mathlib.Core.List.{◌++◌}
use mathlib.Core.Logic.{◌⊎◌, inl, inr, ⊎_elim, ◌↔◌}
use native.Mathlib.Omega.{arith}
use lib.Dec.{ltb}
use lib.ListN.{length, length-append}
use mir.Val.{bool_byte}
use Rattle.numbers.specs.Says.{Says}
use Rattle.numbers.proofs.Ceil.{lt_or_ge}
use Rattle.numbers.proofs.Deciding.{says_lt}
use Rattle.screen.specs.declared.Screen.{Screen}
use Rattle.screen.specs.declared.Span.{Span}
use Rattle.screen.specs.Screen.{Allowed, columns, rows}
use Rattle.screen.specs.Rectangle.{In}
use Rattle.screen.proofs.Laws.{rectangle_proper, rectangle_has_area}
use Rattle.touch.specs.declared.Edges.{Edges}
use Rattle.touch.specs.declared.RowEdges.{RowEdges}
use Rattle.touch.specs.Edges.{Outline}
use Rattle.touch.proofs.Covering.{outline_enclosed_is_wholly}
use Rattle.touch.proofs.Theorem.{touching_meets_box, outline_clear_is_touching}
use Rattle.walk.specs.Row.{ClearIn, EnclosedIn, First, InTheRow, outlined, MeetingColumns, MeetsRow}
use Rattle.stepping.specs.Stepping.{Hit, InRow}
use Rattle.stepping.specs.Row.{Reach, Back, Hull, WholeIn, HitIn, FromAbove}
use Rattle.stepping.proofs.Hulls.{hull_is_enclosed}
use Rattle.stepping.proofs.Runs.{right_tests, left_tests, find_tests}

-- a miss, or none: what a flag adds to a number
abbrev Miss : Type 0 → ℕ → Type 0
Miss P m = (P × (m ≡ 1)) ⊎ ((P → ⊥) × (m ≡ 0))

miss : (x y : ℕ) → Miss (x < y) (bool_byte (ltb x y))
miss x y = of (ltb x y) (says_lt x y)
  where
    of : (r : Bool) → Says r (x < y) → Miss (x < y) (bool_byte r)
    of true s = inl (s.yes refl, refl)
    of false s = inr (s.no refl, refl)

module _ (d : Screen) (ok : Allowed d) (e : Edges) (o : Outline e) (span : Span) (c : MeetingColumns d e span) (row : ℕ) (r< : row < rows d) (m : MeetsRow d e row)
    {in_row : RowEdges} (is : InTheRow d e row in_row) where
  abbrev H : ℕ → Type 0
  H = Hit d (outlined e) row

  clear_hit : (k : ℕ) → k < columns d → In span k → ClearIn d in_row k → H k
  clear_hit k k< i q =
      let n = c.sound k i in
      (outline_clear_is_touching o (rectangle_proper d ok k< r<) (record { left = n.from; right = n.to; top = m.from; bottom = m.to })).0
      (subst (λ (r : RowEdges). ClearIn d r k) is.is q)

  hit_inside : (k : ℕ) → k < columns d → H k → In span k
  hit_inside k k< h = let b = touching_meets_box h in c.whole k k< (record { from = b.left; to = b.right })

  hit_clear : (k : ℕ) → k < columns d → H k → ClearIn d in_row k
  hit_clear k k< h =
      let n = c.sound k (hit_inside k k< h) in
      subst (λ (r : RowEdges). ClearIn d r k) (sym is.is)
      ((outline_clear_is_touching o (rectangle_proper d ok k< r<) (record { left = n.from; right = n.to; top = m.from; bottom = m.to })).1 h)

  -- the hull of the enclosed columns has those of the wholly covered tiles
  hull_whole : {n : ℕ} {run whole : Span} → n ≤ columns d → run.end ≤ n → Hull (EnclosedIn d in_row) n run.start run.end whole
      → WholeIn d (outlined e) row run whole
  hull_whole {n} {run} {whole} n≤ within h k i =
      let a = i.from in
      let b = i.before in
      let q = subst (λ (r : RowEdges). In whole k ↔ EnclosedIn d r k) is.is (hull_is_enclosed d in_row h k a b (omega arith)) in
      let w = outline_enclosed_is_wholly o (rectangle_has_area d ok {column = k} {row = row} (omega arith) r<) in
      ((λ x. w.0 (q.0 x)), (λ x. q.1 (w.1 x)))

  -- the row from the first touched tile below the run above
  module _ (above : Span) (from : span.start ≤ above.start) (within : above.end ≤ span.end) (h : HitIn d (outlined e) row above) (column : ℕ) (f : First (ClearIn d in_row) above column) where
    pub found_before : column < above.end
    found_before =
        ⊎_elim (λ (u : column < above.end). u)
        (λ (u : above.end ≤ column).
        let i = h.inside in
        let b = i.before in
        let s = c.within in
        absurd (f.none h.column i.from (omega arith) (hit_clear h.column (omega arith) h.hit)))
        (lt_or_ge column above.end)

    found_hit : H column
    found_hit =
        let b = found_before in
        let a = f.from in
        let s = c.within in
        clear_hit column (omega arith) (record { from = omega arith; before = omega arith }) (f.first b)

    -- what the functions find to the right and to the left, by touching
    right_hit : {end : ℕ} → Reach (ClearIn d in_row) span.end (column + 1) end → Reach H (columns d) (suc column) end
    right_hit {end} r =
        let a = f.from in
        let s = c.within in
        let u = r.from in
        let w = r.within in
        record {
          from = omega arith;
          within = omega arith;
          all = λ k l v. clear_hit k (omega arith) (record { from = omega arith; before = omega arith }) (r.all k (omega arith) v);
          ends = λ l p. r.ends (hit_inside end l p).before (hit_clear end l p);
        }

    -- the column before `low` is missed: it is outside the box, or was tested before
    left_hit : {low start : ℕ} → ((above.start < column) × (low ≡ column)) ⊎ ((column ≤ above.start) × (low ≡ span.start))
        → Back (ClearIn d in_row) low column start → Back H 0 column start
    left_hit {low} {start} known b =
        let a = f.from in
        let s = c.within in
        let g = found_before in
        let w = b.within in
        let t = b.to in
        let low≥ : span.start ≤ low = ⊎_elim (λ u. let x = u.1 in omega arith) (λ u. let x = u.1 in omega arith) known in
        record {
          within = omega arith;
          to = t;
          all = λ k l v. clear_hit k (omega arith) (record { from = omega arith; before = omega arith }) (b.all k l v);
          ends =
              λ k e z p.
              let k< : k < columns d = omega arith in
              ⊎_elim (λ (u : k < low). edge k k< e u p known) (λ (u : low ≤ k). b.ends k e u (hit_clear k k< p)) (lt_or_ge k low);
        }
      where
        edge : (k : ℕ) → k < columns d → suc k ≡ start → k < low → H k
            → ((above.start < column) × (low ≡ column)) ⊎ ((column ≤ above.start) × (low ≡ span.start)) → ⊥
        edge k k< e u p =
            ⊎_elim (λ v. let w = b.within in let x = v.1 in let y = v.0 in let t = b.to in f.none k (omega arith) (omega arith) (hit_clear k k< p))
            (λ v. let i = (hit_inside k k< p).from in let x = v.1 in omega arith)

    pub row_found : {start end low : ℕ} {whole : Span} → Reach (ClearIn d in_row) span.end (column + 1) end
        → ((above.start < column) × (low ≡ column)) ⊎ ((column ≤ above.start) × (low ≡ span.start)) → Back (ClearIn d in_row) low column start
        → Hull (EnclosedIn d in_row) span.end start end whole
        → FromAbove d (outlined e) row above
        (record {
          run = record { start = start; end = end };
          whole = whole;
          tests = column - above.start + (end - start) + bool_byte (ltb end (columns d)) + bool_byte (ltb 0 start);
        })
    row_found {start} {end} {low} {whole} reach known back hull =
        let r = right_hit reach in
        let b = left_hit known back in
        let a = f.from in
        let g = found_before in
        let z = c.within in
        let u = r.from in
        let to = b.to in
        let right = right_tests d (outlined e) row (end - suc column) {column = suc column} {stop = end} (omega arith) r in
        let left = left_tests d (outlined e) row (column - start) {column = column} {first = start} (omega arith) b in
        let t = find_tests d (outlined e) row (column - above.start) {end = above.end} {column = above.start} {found = column} (omega arith) g
        (λ k l v x. f.none k l v (hit_clear k (omega arith) x)) found_hit in
        let n : length right.tested + suc column ≡ end + bool_byte (ltb end (columns d))
        = ⊎_elim (λ w. let x = right.to_miss w.0 in let y = w.1 in omega arith)
        (λ w. let x = right.to_edge (let v = w.0 in omega arith) in let y = w.1 in omega arith)
        (miss end (columns d)) in
        let l : length left.tested + start ≡ column + bool_byte (ltb 0 start)
        = ⊎_elim (λ w. let x = left.to_miss w.0 in let y = w.1 in omega arith)
        (λ w. let x = left.to_edge (let v = w.0 in omega arith) in let y = w.1 in omega arith)
        (miss 0 start) in
        let m = t.many in
        let s = length-append right.tested left.tested in
        record {
          found = column;
          below = t.tested;
          beside = right.tested ++ left.tested;
          find = t.find;
          row_tests = InRow.both right.right left.left;
          many = omega arith;
          whole = hull_whole z reach.within hull;
        }
