-- The wholly covered tiles of a run stand side by side: the span from the first that the tests found to the last has these and no other.
use Prim.Native.Nat.{ℕ, suc, ◌+◌, ◌-◌, ◌≤◌, ◌<◌, min, max}
use mathlib.Core.Path.{◌≡◌, refl, sym, subst}
use mathlib.Core.Bool.{Bool, ◌&&◌}
use mathlib.Core.Logic.{◌⊎◌, inl, inr, ⊎_elim, ◌↔◌}
use native.Mathlib.Omega.{arith}
use lib.Dec.{leb, ltb}
use Rattle.numbers.specs.Flag.{flag, flagged}
use Rattle.numbers.specs.Says.{Says}
use Rattle.numbers.proofs.Deciding.{says_le, says_lt}
use Rattle.numbers.proofs.Flag.{plain-flagged, is_flagged_lem}
use Rattle.numbers.proofs.Says.{says_iff, says_and}
use Rattle.numbers.proofs.Ceil.{lt_or_ge}
use Rattle.screen.specs.declared.Screen.{Screen}
use Rattle.screen.specs.declared.Span.{Span}
use Rattle.screen.specs.Rectangle.{In}
use Rattle.screen.proofs.Laws.{near_rises, far_rises}
use Rattle.touch.specs.declared.Cover as answer
use Rattle.touch.specs.declared.RowEdges.{RowEdges}
use Rattle.touch.specs.Cover.{is_whole}
use Rattle.touch.proofs.Enclosing.{enclosed_between}
use Rattle.walk.specs.Row.{EnclosedIn}
use Rattle.stepping.specs.Row.{Hull, joined, grown, Named}

-- ---- what is known of the start tile

module _ (P : ℕ → Type 0) (n column : ℕ) where
  pub hull_of_one : P column → Hull P n column (column + 1) (record { start = column; end = column + 1 })
  hull_of_one p =
      record {
        first = λ h. p;
        last = λ k e. subst P (omega arith) p;
        all = λ k l h q. record { from = l; before = h };
      }

  pub hull_of_none : (P column → ⊥) → Hull P n column (column + 1) (record { start = n; end = 0 })
  hull_of_none not =
      record {
        first = λ h. absurd (omega arith);
        last = λ k e. absurd (omega arith);
        all = λ k l h q. absurd (not (subst P (omega arith) q));
      }

-- ---- a column more

module _ (P : ℕ → Type 0) {n from to from' to' column : ℕ} {span : Span} (h : Hull P n from to span)
    (more : (k : ℕ) → from' ≤ k → k < to' → ((from ≤ k) × (k < to)) ⊎ (k ≡ column)) where
  hull_joined : P column → Hull P n from' to' (joined span column)
  hull_joined p =
      record {
        first = λ l. first l (lt_or_ge span.start column);
        last = λ k e. last k e (lt_or_ge column span.end);
        all = λ k l u q. all k q (more k l u);
      }
    where
      first : min span.start column < n → (span.start < column) ⊎ (column ≤ span.start) → P (min span.start column)
      first l =
          ⊎_elim
          (λ (u : span.start < column). let e : span.start ≡ min span.start column = omega arith in subst P e (h.first (omega arith)))
          (λ (u : column ≤ span.start). let e : column ≡ min span.start column = omega arith in subst P e p)

      last : (k : ℕ) → suc k ≡ max span.end (column + 1) → (column < span.end) ⊎ (span.end ≤ column) → P k
      last k e = ⊎_elim (λ (u : column < span.end). h.last k (omega arith)) (λ (u : span.end ≤ column). subst P (omega arith) p)

      all : (k : ℕ) → P k → ((from ≤ k) × (k < to)) ⊎ (k ≡ column) → In (joined span column) k
      all k q =
          ⊎_elim
          (λ (u : (from ≤ k) × (k < to)).
          let i = h.all k u.0 u.1 q in
          let a = i.from in
          let b = i.before in
          record { from = omega arith; before = omega arith })
          (λ (u : k ≡ column). record { from = omega arith; before = omega arith })

  hull_same : (P column → ⊥) → Hull P n from' to' span
  hull_same not =
      record {
        first = h.first;
        last = h.last;
        all = λ k l u q. ⊎_elim (λ (v : (from ≤ k) × (k < to)). h.all k v.0 v.1 q) (λ (v : k ≡ column). absurd (not (subst P v q))) (more k l u);
      }

  hull_grown : (r : answer.Cover) → Says (is_whole r) (P column) → Hull P n from' to' (grown span column r)
  hull_grown answer.TheVariants.Apart s = hull_same (s.no refl)
  hull_grown answer.TheVariants.Partly s = hull_same (s.no refl)
  hull_grown answer.TheVariants.Wholly s = hull_joined (s.yes refl)

module _ (P : ℕ → Type 0) {n from to : ℕ} {span : Span} (h : Hull P n from to span) (r : answer.Cover) where
  -- to the right
  pub hull_right : Says (is_whole r) (P to) → Hull P n from (to + 1) (grown span to r)
  hull_right s =
      hull_grown P h (λ k l u. ⊎_elim (λ (v : k < to). inl (l, v)) (λ (v : to ≤ k). inr (omega arith)) (lt_or_ge k to)) r s

  -- to the left
  pub hull_left : {column : ℕ} → from ≡ column + 1 → Says (is_whole r) (P column) → Hull P n column to (grown span column r)
  hull_left {column} e s =
      hull_grown P h (λ k l u. ⊎_elim (λ (v : k < from). inr (omega arith)) (λ (v : from ≤ k). inl (v, u)) (lt_or_ge k from)) r s

-- ---- the whole run

-- of the columns of a row, those between enclosed ones are enclosed
pub hull_is_enclosed : (d : Screen) (e : RowEdges) {n from to : ℕ} {span : Span} → Hull (EnclosedIn d e) n from to span
    → (k : ℕ) → from ≤ k → k < to → k < n → In span k ↔ EnclosedIn d e k
hull_is_enclosed d e {n} {from} {to} {span} h k l u k< = (
  λ i.
      let a = i.from in
      let b = i.before in
      let last : ℕ = span.end - 1 in
      let c : k ≤ last = omega arith in
      enclosed_between (near_rises d.width d.s a) (near_rises d.width d.s c) (far_rises d.width d.s a) (far_rises d.width d.s c)
      (h.first (omega arith)) (h.last last (omega arith)),
  h.all k l u,
)

-- ---- the words of a run

-- a number and whether its column is wholly covered, in one word
pub named : (run whole : Span) {base column : ℕ} → base + column < flag → run.start ≤ column → column < run.end
    → Named base run whole (flagged (base + column) (leb whole.start column && ltb column whole.end))
named run whole {base} {column} h l u =
    let covered : Bool = leb whole.start column && ltb column whole.end in
    record {
      column = column;
      inside = record { from = l; before = u };
      number = plain-flagged (base + column) h covered;
      says =
          subst (λ (r : Bool). Says r (In whole column)) (sym (is_flagged_lem (base + column) h covered))
          (says_iff (λ p. record { from = p.0; before = p.1 }) (λ i. (i.from, i.before)) (says_and (says_le whole.start column) (says_lt column whole.end)));
    }
