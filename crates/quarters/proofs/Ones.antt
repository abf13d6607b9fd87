-- How ones are written to a map: no tile, a row of a square's tiles after another, a quarter of a square after another.
use mathlib.Core.Path.{◌≡◌, refl, sym, ap, subst, ◌∙◌}
use mathlib.Core.Logic.{◌≢◌, ◌⊎◌, inl, inr, ⊎_elim}
use mathlib.Core.List.{List}
use Prim.Native.Nat.{ℕ, ◌+◌, ◌-◌, ◌*◌, ◌/◌, ◌%◌, ◌^◌, ◌≤◌, ◌<◌, max}
use native.Mathlib.Nat.{mul-le-mul_right}
use native.Mathlib.Omega.{arith}
use lib.ListN.{length, get_or, set, length-set}
use lib.Pow.{pow-add}
use lib.Seq.{get_or-set_same, get_or-set_other}
use Rattle.numbers.proofs.Ceil.{lt_or_ge, eq_or_ne}
use Rattle.screen.specs.declared.Screen.{Screen}
use Rattle.screen.specs.Screen.{Allowed, columns, rows, column_of, row_of, tile_at}
use Rattle.screen.proofs.Laws.{column_row, column<, column_is, row_is, tile<}
use Rattle.shape.specs.declared.Shape.{Shape}
use Rattle.quarters.specs.declared.Square.{Square}
use Rattle.quarters.specs.Square.{InSquare, TouchedIn, past_of, beside_of, first_quarter, TouchedInFirst, Small}
use Rattle.quarters.specs.Map.{BytesSet, RowSet, WithOnes}

-- ---- bytes, one after another

pub bytes_none : {v from : ℕ} (old : List ℕ) → BytesSet v from from old old
bytes_none old = record { size = refl; within = λ i l h. absurd (omega arith); under = λ i l. refl; over = λ i l h. refl }

pub bytes_more : {v from to : ℕ} {old new : List ℕ} → from ≤ to → to < length old → BytesSet v from to old new → BytesSet v from (to + 1) old (set new to v)
bytes_more {v} {from} {to} {old} {new} f l b =
    record {
      size = length-set new to v ∙ b.size;
      within = λ i h k. ⊎_elim
          (λ (e : i ≡ to). subst (λ (n : ℕ). get_or (set new to v) n 0 ≡ v) (sym e) (get_or-set_same new to v 0 (let s = b.size in omega arith)))
          (λ (e : i ≢ to). get_or-set_other new to i v 0 e ∙ b.within i h (omega arith))
          (eq_or_ne i to);
      under = λ i h. get_or-set_other new to i v 0 (λ e. omega arith) ∙ b.under i h;
      over = λ i h k. get_or-set_other new to i v 0 (λ e. omega arith) ∙ b.over i h (omega arith);
    }

-- and no more where the end is reached, or lies before the start
pub bytes_end : {v from i to : ℕ} {old new : List ℕ} → to ≤ i → i ≤ max from to → BytesSet v from i old new → BytesSet v from to old new
bytes_end l h b = record { size = b.size; within = λ k f u. b.within k f (omega arith); under = b.under; over = λ k f u. b.over k f (omega arith) }

-- ---- ones, one part after another

pub ones_none : {P : ℕ → Type 0} {old : List ℕ} → ((t : ℕ) → P t → ⊥) → WithOnes P old old
ones_none n = record { size = refl; ones = λ t p. absurd (n t p); kept = λ t e. e; rest = λ t m. refl }

pub ones_then : {P Q : ℕ → Type 0} {a b c : List ℕ} → WithOnes P a b → WithOnes Q b c → WithOnes (λ t. P t ⊎ Q t) a c
ones_then f g =
    record {
      size = g.size ∙ f.size;
      ones = λ t h. ⊎_elim (λ p. g.kept t (f.ones t p)) (λ q. g.ones t q) h;
      kept = λ t e. g.kept t (f.kept t e);
      rest = λ t n. g.rest t (λ q. n (inr q)) ∙ f.rest t (λ p. n (inl p));
    }

pub ones_iff : {P Q : ℕ → Type 0} {a b : List ℕ} → ((t : ℕ) → P t → Q t) → ((t : ℕ) → Q t → P t) → WithOnes P a b → WithOnes Q a b
ones_iff to from f = record { size = f.size; ones = λ t q. f.ones t (from t q); kept = f.kept; rest = λ t n. f.rest t (λ p. n (to t p)) }

-- bytes that are set to 1
ones_of_bytes : {from to : ℕ} {a b : List ℕ} → BytesSet 1 from to a b → WithOnes (λ t. (from ≤ t) × (t < to)) a b
ones_of_bytes {from} {to} s =
    record {
      size = s.size;
      ones = λ t h. s.within t h.0 h.1;
      kept = λ t e. ⊎_elim
          (λ (u : t < from). s.under t u ∙ e)
          (λ (u : from ≤ t). ⊎_elim (λ (v : t < to). s.within t u v) (λ (v : to ≤ t). s.over t u v ∙ e) (lt_or_ge t to))
          (lt_or_ge t from);
      rest = λ t n. ⊎_elim
          (λ (u : t < from). s.under t u)
          (λ (u : from ≤ t). ⊎_elim (λ (v : t < to). absurd (n (u, v))) (λ (v : to ≤ t). s.over t u v) (lt_or_ge t to))
          (lt_or_ge t from);
    }

-- ---- the tiles of a square, row by row

-- those before a row
abbrev pub RowsBefore : Screen → Square → (row : ℕ) → ℕ → Type 0
RowsBefore d q row t = InSquare d q t × (row_of d t < row)

module _ (d : Screen) (a : Allowed d) (q : Square) where
  abbrev past : ℕ
  past = past_of (columns d) q.column q.exponent

  abbrev end : ℕ
  end = past_of (rows d) q.row q.exponent

  module _ (row : ℕ) (r≥ : q.row ≤ row) (r< : row < end) where
    -- the numbers of a row's tiles
    abbrev OfRow : ℕ → Type 0
    OfRow t = (row * columns d + q.column ≤ t) × (t < row * columns d + past)

    tile_of_row : (t : ℕ) → OfRow t → RowsBefore d q (row + 1) t
    tile_of_row t h =
        let c : ℕ = t - row * columns d in
        let f = h.0 in
        let l = h.1 in
        let c< : c < columns d = omega arith in
        let e : tile_at d c row ≡ t = omega arith in
        let ec : column_of d t ≡ c = subst (λ (k : ℕ). column_of d k ≡ c) e (column_is d a c row c<) in
        let er : row_of d t ≡ row = subst (λ (k : ℕ). row_of d k ≡ row) e (row_is d a c row c<) in
        let g : tile_at d c row < columns d * rows d = tile< d a c< (omega arith) in
        (record { on_grid = omega arith; column≥ = omega arith; column< = omega arith; row≥ = omega arith; row< = omega arith }, omega arith)

    row_of_tile : (t : ℕ) → InSquare d q t → row_of d t ≡ row → OfRow t
    row_of_tile t h e =
        let n : row * columns d + column_of d t ≡ t = ap (λ (k : ℕ). k * columns d + column_of d t) (sym e) ∙ column_row d a t in
        let c = column< d a t in
        (omega arith, omega arith)

    pub row_more : {m n o : List ℕ} → WithOnes (RowsBefore d q row) m n → RowSet d q row n o
        → WithOnes (RowsBefore d q (row + 1)) m o
    row_more w b = ones_iff to from (ones_then w (ones_of_bytes b))
      where
        to : (t : ℕ) → RowsBefore d q row t ⊎ OfRow t → RowsBefore d q (row + 1) t
        to t (inl h) = let l = h.1 in (h.0, omega arith)
        to t (inr h) = tile_of_row t h

        from : (t : ℕ) → RowsBefore d q (row + 1) t → RowsBefore d q row t ⊎ OfRow t
        from t h =
            let l = h.1 in
            ⊎_elim (λ (k : row_of d t < row). inl (h.0, k)) (λ (k : row ≤ row_of d t). inr (row_of_tile t h.0 (omega arith))) (lt_or_ge (row_of d t) row)

-- ---- the four quarters of a square

-- a bit times a number is at most the number
pub bit≤ : (b h : ℕ) → b ≤ 1 → b * h ≤ h
bit≤ b h l = let w : b * h ≤ 1 * h = mul-le-mul_right h l in omega arith

module _ (d : Screen) (shape : Shape) (q : Square) where
  pub square_more : {k : ℕ} {m o p : List ℕ} → WithOnes (TouchedInFirst d shape q k) m o → WithOnes (TouchedIn d shape (beside_of q k)) o p
      → WithOnes (TouchedInFirst d shape q (k + 1)) m p
  square_more {k} w v = ones_iff to from (ones_then w v)
    where
      to : (t : ℕ) → TouchedInFirst d shape q k t ⊎ TouchedIn d shape (beside_of q k) t → TouchedInFirst d shape q (k + 1) t
      to t (inl (j, l, g)) = (j, omega arith, g)
      to t (inr g) = (k, omega arith, g)

      from : (t : ℕ) → TouchedInFirst d shape q (k + 1) t → TouchedInFirst d shape q k t ⊎ TouchedIn d shape (beside_of q k) t
      from t (j, l, g) =
          ⊎_elim (λ (e : j ≡ k). inr (subst (λ (i : ℕ). TouchedIn d shape (beside_of q i) t) e g)) (λ (e : j ≢ k). inl (j, omega arith, g)) (eq_or_ne j k)

  -- the first alone
  pub first_alone : beside_of q 0 ≡ q
  first_alone = λ i. record { column = column i; row = row i; exponent = q.exponent }
    where
      column : q.column + 0 % 2 * 2 ^ q.exponent ≡ q.column
      column = omega arith

      row : q.row + 0 / 2 * 2 ^ q.exponent ≡ q.row
      row = omega arith

  pub one_square : {m o : List ℕ} → WithOnes (TouchedInFirst d shape q 1) m o → WithOnes (TouchedIn d shape q) m o
  one_square =
      ones_iff (λ t g. let l = g.1 in let e : g.0 ≡ 0 = omega arith in subst (λ (r : Square). TouchedIn d shape r t) (ap (beside_of q) e ∙ first_alone) g.2)
      (λ t g. (0, omega arith, subst (λ (r : Square). TouchedIn d shape r t) (sym first_alone) g))

module _ (q : Square) (n : 0 < q.exponent) where
  abbrev h : ℕ
  h = 2 ^ (q.exponent - 1)

  pub halves : 2 ^ q.exponent ≡ h + h
  halves = let e : q.exponent ≡ q.exponent - 1 + 1 = omega arith in ap (λ (k : ℕ). 2 ^ k) e ∙ pow-add 2 (q.exponent - 1) 1 ∙ omega arith

  -- a quarter is as small as the square
  pub small_quarter : Small q → {k : ℕ} → k < 4 → Small (beside_of (first_quarter q) k)
  small_quarter s {k} l =
      let w = halves in
      let x = bit≤ (k % 2) h (omega arith) in
      let y = bit≤ (k / 2) h (omega arith) in
      record { exponent = let e = s.exponent in omega arith; column = let c = s.column in omega arith; row = let r = s.row in omega arith }

  module _ (d : Screen) (shape : Shape) where
    part : (t j : ℕ) → j < 4 → TouchedIn d shape (beside_of (first_quarter q) j) t → TouchedIn d shape q t
    part t j l g =
        let w = halves in
        let x = bit≤ (j % 2) h (omega arith) in
        let y = bit≤ (j / 2) h (omega arith) in
        let i = g.0 in
        (record { on_grid = i.on_grid; column≥ = omega arith; column< = omega arith; row≥ = omega arith; row< = omega arith }, g.1)

    parts : (t : ℕ) → TouchedIn d shape q t → TouchedInFirst d shape (first_quarter q) 4 t
    parts t g =
        let w = halves in
        let i = g.0 in
        ⊎_elim
        (λ (x : column_of d t < q.column + h). ⊎_elim
        (λ (y : row_of d t < q.row + h). at 0 (omega arith) (omega arith, omega arith) (omega arith, omega arith))
        (λ (y : q.row + h ≤ row_of d t). at 2 (omega arith) (omega arith, omega arith) (omega arith, omega arith))
        (lt_or_ge (row_of d t) (q.row + h)))
        (λ (x : q.column + h ≤ column_of d t). ⊎_elim
        (λ (y : row_of d t < q.row + h). at 1 (omega arith) (omega arith, omega arith) (omega arith, omega arith))
        (λ (y : q.row + h ≤ row_of d t). at 3 (omega arith) (omega arith, omega arith) (omega arith, omega arith))
        (lt_or_ge (row_of d t) (q.row + h)))
        (lt_or_ge (column_of d t) (q.column + h))
      where
        -- the tile stands in quarter k
        at : (k : ℕ) → k < 4 → (q.column + k % 2 * h ≤ column_of d t) × (column_of d t < q.column + k % 2 * h + h)
            → (q.row + k / 2 * h ≤ row_of d t) × (row_of d t < q.row + k / 2 * h + h) → TouchedInFirst d shape (first_quarter q) 4 t
        at k l x y = (k, l, (record { on_grid = g.0.on_grid; column≥ = x.0; column< = x.1; row≥ = y.0; row< = y.1 }, g.1))

    pub all_quarters : {m o : List ℕ} → WithOnes (TouchedInFirst d shape (first_quarter q) 4) m o → WithOnes (TouchedIn d shape q) m o
    all_quarters = ones_iff (λ t g. part t g.0 g.1 g.2) parts
