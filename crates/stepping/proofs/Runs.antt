-- The tests of a row: from what the functions find to the tests that the definition makes, and back, with how many they are.
use Prim.Native.Nat.{ℕ, zero, suc, ◌+◌, ◌≤◌, ◌<◌}
use mathlib.Core.Path.{◌≡◌, refl, sym, subst}
use mathlib.Core.List.{List, [], ◌∷◌}
use mathlib.Core.Logic.{◌⊎◌, ⊎_elim}
use native.Mathlib.Omega.{arith}
use lib.ListN.{length}
use Rattle.numbers.proofs.Ceil.{lt_or_ge}
use Rattle.screen.specs.declared.Screen.{Screen}
use Rattle.screen.specs.Screen.{columns, tile_at}
use Rattle.shape.specs.declared.Shape.{Shape}
use Rattle.walk.proofs.Lists.{up_to}
use Rattle.stepping.specs.Stepping.{Hit, Right, Left, Find}
use Rattle.stepping.specs.Row.{Reach, Back}

-- what holds from first on and before n, and of the one before first, holds from that one on
pub down_to : {P : ℕ → Type 0} {first before n : ℕ} → first ≡ before + 1 → ((k : ℕ) → first ≤ k → k < n → P k) → P before → (k : ℕ) → before ≤ k → k < n → P k
down_to {P} {first} {before} {n} e f p k l h = go (lt_or_ge k first)
  where
    go : (k < first) ⊎ (first ≤ k) → P k
    go = ⊎_elim (λ (u : k < first). subst P (omega arith) p) (λ (u : first ≤ k). f k u h)

-- the one before first is the only one before it
pub back_stop : (P : ℕ → Type 0) {first before : ℕ} → first ≡ before + 1 → (P before → ⊥) → (k : ℕ) → suc k ≡ first → P k → ⊥
back_stop P {first} {before} e f k d p = f (subst P (omega arith) p)

module _ (d : Screen) (shape : Shape) (row : ℕ) where
  -- ---- from what is found to the tests

  pub record RightTests (column stop : ℕ) : Type 0 where
    pub tested : List ℕ
    pub right : Right d shape row column stop tested
    pub to_miss : stop < columns d → length tested + column ≡ stop + 1
    pub to_edge : columns d ≤ stop → length tested + column ≡ stop

  stays : (column : ℕ) → Reach (Hit d shape row) (columns d) column column → RightTests column column
  stays column r =
      ⊎_elim
      (λ (h : column < columns d).
      record { tested = tile_at d column row ∷ []; right = Right.miss h (r.ends h); to_miss = λ l. omega arith; to_edge = λ l. absurd (omega arith) })
      (λ (h : columns d ≤ column).
      record { tested = []; right = Right.edge (let w = r.within in omega arith); to_miss = λ l. absurd (omega arith); to_edge = λ l. omega arith })
      (lt_or_ge column (columns d))

  pub right_tests : (n : ℕ) {column stop : ℕ} → column + n ≡ stop → Reach (Hit d shape row) (columns d) column stop → RightTests column stop
  right_tests zero {column} {stop} e r =
      let e' : column ≡ stop = omega arith in
      subst (λ (m : ℕ). RightTests column m) e' (stays column (subst (λ (m : ℕ). Reach (Hit d shape row) (columns d) column m) (sym e') r))
  right_tests (suc n) {column} {stop} e r =
      let w = r.within in
      let t = right_tests n {column = suc column} {stop = stop} (omega arith) (record { from = omega arith; within = w; all = λ k l h. r.all k (omega arith) h; ends = r.ends }) in
      record {
        tested = tile_at d column row ∷ t.tested;
        right = Right.hit {c = column} (omega arith) (r.all column (omega arith) (omega arith)) t.right;
        to_miss = λ l. let m = t.to_miss l in omega arith;
        to_edge = λ l. let m = t.to_edge l in omega arith;
      }

  pub record LeftTests (column first : ℕ) : Type 0 where
    pub tested : List ℕ
    pub left : Left d shape row column first tested
    pub to_miss : 0 < first → length tested + first ≡ column + 1
    pub to_edge : first ≡ 0 → length tested + first ≡ column

  rests : (first : ℕ) → Back (Hit d shape row) 0 first first → LeftTests first first
  rests zero b = record { tested = []; left = Left.edge; to_miss = λ l. absurd (omega arith); to_edge = λ l. omega arith }
  rests (suc k) b =
      record { tested = tile_at d k row ∷ []; left = Left.miss (b.ends k refl (omega arith)); to_miss = λ l. omega arith; to_edge = λ l. absurd (omega arith) }

  pub left_tests : (n : ℕ) {column first : ℕ} → first + n ≡ column → Back (Hit d shape row) 0 column first → LeftTests column first
  left_tests zero {column} {first} e b =
      let e' : first ≡ column = omega arith in
      subst (λ (m : ℕ). LeftTests m first) e' (rests first (subst (λ (m : ℕ). Back (Hit d shape row) 0 m first) (sym e') b))
  left_tests (suc n) {column} {first} e b =
      let c : ℕ = first + n in
      let e' : suc c ≡ column = omega arith in
      let t = left_tests n {column = c} {first = first} refl (record { within = omega arith; to = omega arith; all = λ k l h. b.all k l (omega arith); ends = b.ends }) in
      subst (λ (m : ℕ). LeftTests m first) e'
      (record {
        tested = tile_at d c row ∷ t.tested;
        left = Left.hit (b.all c (omega arith) (omega arith)) t.left;
        to_miss = λ l. let m = t.to_miss l in omega arith;
        to_edge = λ l. let m = t.to_edge l in omega arith;
      })

  pub record FindTests (end column found : ℕ) : Type 0 where
    pub tested : List ℕ
    pub find : Find d shape row end column found tested
    pub many : length tested + column ≡ found + 1

  pub find_tests : (n : ℕ) {end column found : ℕ} → column + n ≡ found → found < end → ((k : ℕ) → column ≤ k → k < found → Hit d shape row k → ⊥)
      → Hit d shape row found → FindTests end column found
  find_tests zero {end} {column} {found} e l none h =
      let e' : found ≡ column = omega arith in
      subst (λ (m : ℕ). FindTests end column m) (sym e')
      (record { tested = tile_at d column row ∷ []; find = Find.hit {c = column} (omega arith) (subst (Hit d shape row) e' h); many = omega arith })
  find_tests (suc n) {end} {column} {found} e l none h =
      let t = find_tests n {end = end} {column = suc column} {found = found} (omega arith) l (λ k u. none k (omega arith)) h in
      record {
        tested = tile_at d column row ∷ t.tested;
        find = Find.miss {c = column} (omega arith) (none column (omega arith) (omega arith)) t.find;
        many = let m = t.many in omega arith;
      }

  -- ---- and back

  pub right_reach : {column stop : ℕ} {ts : List ℕ} → Right d shape row column stop ts
      → Reach (Hit d shape row) (columns d) column stop × (length ts + column ≤ stop + 1)
  right_reach {column} (Right.edge e) =
      (record { from = omega arith; within = omega arith; all = λ k l h. absurd (omega arith); ends = λ l. absurd (omega arith) }, omega arith)
  right_reach {column} (Right.miss l f) =
      (record { from = omega arith; within = omega arith; all = λ k u h. absurd (omega arith); ends = λ u. f }, omega arith)
  right_reach {column} {stop} (Right.hit l h t) =
      let w = right_reach t in
      let r = w.0 in
      let f = r.from in
      let m = w.1 in
      (record { from = omega arith; within = r.within; all = down_to (omega arith) r.all h; ends = r.ends }, omega arith)

  pub left_back : {column first : ℕ} {ts : List ℕ} → Left d shape row column first ts → Back (Hit d shape row) 0 column first × (length ts + first ≤ column + 1)
  left_back Left.edge = (record { within = omega arith; to = omega arith; all = λ k l h. absurd (omega arith); ends = λ k e l. absurd (omega arith) }, omega arith)
  left_back (Left.miss {c} f) =
      (record { within = omega arith; to = omega arith; all = λ k l h. absurd (omega arith); ends = λ k e l. back_stop (Hit d shape row) {first = suc c} {before = c} (omega arith) f k e }, omega arith)
  left_back (Left.hit {c} {first} h t) =
      let w = left_back t in
      let b = w.0 in
      let u = b.to in
      let m = w.1 in
      (record { within = omega arith; to = omega arith; all = λ k l v. up_to b.all h k l (omega arith); ends = b.ends }, omega arith)

  pub record Found (end column found : ℕ) (ts : List ℕ) : Type 0 where
    pub before : found < end
    pub from : column ≤ found
    pub touched : Hit d shape row found
    pub many : length ts + column ≡ found + 1

  pub find_found : {end column found : ℕ} {ts : List ℕ} → Find d shape row end column found ts → Found end column found ts
  find_found (Find.hit l h) = record { before = l; from = omega arith; touched = h; many = omega arith }
  find_found (Find.miss l f t) =
      let w = find_found t in
      let u = w.from in
      let m = w.many in
      record { before = w.before; from = omega arith; touched = w.touched; many = omega arith }
