-- There is one walk of a shape at most: the definition decides which tiles are listed and which are tested, and so how many tests there are.
use Prim.Native.Nat.{ℕ, suc, ◌≤◌}
use mathlib.Core.Path.{◌≡◌, refl, sym, ap, subst, ◌∙◌}
use mathlib.Core.List.{List, ◌∷◌, ◌++◌}
use native.Mathlib.Omega.{arith}
use lib.ListN.{length}
use Rattle.screen.specs.declared.Screen.{Screen}
use Rattle.screen.specs.declared.Span.{Span}
use Rattle.screen.specs.Screen.{tile_at}
use Rattle.shape.specs.declared.Shape.{Shape}
use Rattle.stepping.specs.Stepping.{Right, Left, Find, InRow, Steps, Walk, start_row, run_tiles}
use Rattle.stepping.specs.Stepped.{TestsSay}

module _ (d : Screen) (shape : Shape) where
  module _ {row : ℕ} where
    right_one : {column end end' : ℕ} {ts ts' : List ℕ} → Right d shape row column end ts → Right d shape row column end' ts' → (end ≡ end') × (ts ≡ ts')
    right_one (Right.edge e) (Right.edge e') = (refl, refl)
    right_one (Right.edge e) (Right.miss l f) = absurd (omega arith)
    right_one (Right.edge e) (Right.hit l h t) = absurd (omega arith)
    right_one (Right.miss l f) (Right.edge e) = absurd (omega arith)
    right_one (Right.miss l f) (Right.miss l' f') = (refl, refl)
    right_one (Right.miss l f) (Right.hit l' h t) = absurd (f h)
    right_one (Right.hit l h t) (Right.edge e) = absurd (omega arith)
    right_one (Right.hit l h t) (Right.miss l' f) = absurd (f h)
    right_one {column} (Right.hit l h t) (Right.hit l' h' t') = let w = right_one t t' in (w.0, ap (λ (us : List ℕ). tile_at d column row ∷ us) w.1)

    left_one : {column first first' : ℕ} {ts ts' : List ℕ} → Left d shape row column first ts → Left d shape row column first' ts'
        → (first ≡ first') × (ts ≡ ts')
    left_one Left.edge Left.edge = (refl, refl)
    left_one (Left.miss f) (Left.miss f') = (refl, refl)
    left_one (Left.miss f) (Left.hit h t) = absurd (f h)
    left_one (Left.hit h t) (Left.miss f) = absurd (f h)
    left_one (Left.hit {c} h t) (Left.hit h' t') = let w = left_one t t' in (w.0, ap (λ (us : List ℕ). tile_at d c row ∷ us) w.1)

    find_one : {end column found found' : ℕ} {ts ts' : List ℕ} → Find d shape row end column found ts → Find d shape row end column found' ts'
        → (found ≡ found') × (ts ≡ ts')
    find_one (Find.hit l h) (Find.hit l' h') = (refl, refl)
    find_one (Find.hit l h) (Find.miss l' f t) = absurd (f h)
    find_one (Find.miss l f t) (Find.hit l' h) = absurd (f h)
    find_one {column = column} (Find.miss l f t) (Find.miss l' f' t') = let w = find_one t t' in (w.0, ap (λ (us : List ℕ). tile_at d column row ∷ us) w.1)

    row_one : {start : ℕ} {run run' : Span} {ts ts' : List ℕ} → InRow d shape row start run ts → InRow d shape row start run' ts' → (run ≡ run') × (ts ≡ ts')
    row_one (InRow.both r l) (InRow.both r' l') =
        let a = right_one r r' in
        let b = left_one l l' in
        ((λ i. record { start = b.0 i; end = a.0 i }), (λ i. a.1 i ++ b.1 i))

  record Same (r r' : Span) (us us' ts ts' : List ℕ) : Type 0 where
    run : r ≡ r'
    listed : us ≡ us'
    tested : ts ≡ ts'

  from_start_row : {row : ℕ} {run : Span} {us ts : List ℕ} → Steps d shape row run us ts → start_row d shape ≤ row
  from_start_row (Steps.start r) = omega arith
  from_start_row (Steps.next p f r) = let l = from_start_row p in omega arith

  steps_one : {row row' : ℕ} {run run' : Span} {us us' ts ts' : List ℕ} → row ≡ row' → Steps d shape row run us ts → Steps d shape row' run' us' ts'
      → Same run run' us us' ts ts'
  steps_one e (Steps.start r) (Steps.start r') =
      let a = row_one r r' in
      record { run = a.0; listed = ap (run_tiles d (start_row d shape)) a.0; tested = a.1 }
  steps_one e (Steps.start r) (Steps.next p f r') = let l = from_start_row p in absurd (omega arith)
  steps_one e (Steps.next p f r) (Steps.start r') = let l = from_start_row p in absurd (omega arith)
  steps_one e (Steps.next {row} {found} p f r) (Steps.next {row = row'} {found = found'} {run = above} {run' = run'} {below = below} {beside = beside} p' f' r') =
      let q : row ≡ row' = omega arith in
      let s = steps_one q p p' in
      let w = s.run in
      let g = find_one f (subst (λ (P : Type 0). P) (λ i. Find d shape (suc (sym q i)) (sym w i).end (sym w i).start found' below) f') in
      let h = row_one r (subst (λ (P : Type 0). P) (λ i. InRow d shape (suc (sym q i)) (sym g.0 i) run' beside) r') in
      record {
        run = h.0;
        listed = (λ i. s.listed i ++ run_tiles d (suc (q i)) (h.0 i));
        tested = (λ i. s.tested i ++ (g.1 i ++ h.1 i));
      }

  -- the definition has one outcome
  pub walk_one : {us us' ts ts' : List ℕ} → Walk d shape us ts → Walk d shape us' ts' → (us ≡ us') × (ts ≡ ts')
  walk_one w w' =
      let a = w.last.last w'.row w'.last.within w'.last.meets in
      let b = w'.last.last w.row w.last.within w.last.meets in
      let s = steps_one (omega arith) w.steps w'.steps in
      (s.listed, s.tested)

  -- and so has what is said of the tests
  pub tests_say_one : {tests tests' : ℕ} → TestsSay d shape tests → TestsSay d shape tests' → tests ≡ tests'
  tests_say_one (TestsSay.on_screen on us ts w e) (TestsSay.on_screen on' us' ts' w' e') = e ∙ ap length (walk_one w w').1 ∙ sym e'
  tests_say_one (TestsSay.on_screen on us ts w e) (TestsSay.off_screen off' e') = absurd (off' on)
  tests_say_one (TestsSay.off_screen off e) (TestsSay.on_screen on' us' ts' w' e') = absurd (off on')
  tests_say_one (TestsSay.off_screen off e) (TestsSay.off_screen off' e') = e ∙ sym e'
