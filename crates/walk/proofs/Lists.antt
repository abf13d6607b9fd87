-- How a list of numbers grows: by nothing, by the next number, by a run of numbers; that it is as short as the numbers are few, and that it is the only one.
use Prim.Native.Nat.{ℕ, zero, suc, ◌+◌, ◌-◌, ◌≤◌, ◌<◌}
use mathlib.Core.Path.{◌≡◌, refl, sym, subst, ◌∙◌}
use mathlib.Core.List.{List}
use mathlib.Core.Logic.{◌⊎◌, ⊎_elim}
use native.Mathlib.Omega.{arith}
use lib.ListN.{length, get_or, set, length-set}
use lib.Seq.{get_or-set_same, get_or-set_other}
use Rattle.numbers.proofs.Ceil.{lt_or_ge}
use Rattle.walk.specs.Lists.{Below, Place, Lists, Words}
use Rattle.walk.specs.Row.{Run}

-- what holds from a number on and before n, and at n, holds before n + 1
pub up_to : {P : ℕ → Type 0} {from n : ℕ} → ((k : ℕ) → from ≤ k → k < n → P k) → P n → (k : ℕ) → from ≤ k → k < n + 1 → P k
up_to {P} {from} {n} f p k l h = go (lt_or_ge k n)
  where
    go : (k < n) ⊎ (n ≤ k) → P k
    go = ⊎_elim (λ (u : k < n). f k l u) (λ (u : n ≤ k). subst P (omega arith) p)

-- ---- growing

module _ (P : ℕ → Type 0) where
  -- where nothing satisfies P, nothing is listed
  pub lists_none : (old : List ℕ) → ((t : ℕ) → P t → ⊥) → Lists P 0 old old
  lists_none old h =
      record {
        size = refl;
        rest = λ i l. refl;
        rising = λ i j l k. absurd (omega arith);
        sound = λ i l. absurd (omega arith);
        whole = λ t p. absurd (h t p);
      }

  -- what lists P lists what P is by another name
  pub lists_iff : (Q : ℕ → Type 0) {n : ℕ} {old new : List ℕ} → ((t : ℕ) → P t → Q t) → ((t : ℕ) → Q t → P t) → Lists P n old new → Lists Q n old new
  lists_iff Q f g l =
      record {
        size = l.size;
        rest = l.rest;
        rising = l.rising;
        sound = λ i k. f _ (l.sound i k);
        whole = λ t q. l.whole t (g t q);
      }

  -- a run of numbers, all of which satisfy P, after those below
  pub lists_run : {Q : ℕ → Type 0} {base from stop count n : ℕ} {old mid new : List ℕ} → Lists (Below (base + from) P) count old mid
      → Run Q base from stop count n mid new → ((k : ℕ) → from ≤ k → k < stop → P (base + k)) → Lists (Below (base + stop) P) n old new
  lists_run {Q} {base} {from} {stop} {count} {n} {old} {mid} {new} l r p =
      let f = r.from≤ in
      let e = r.as_many in
      record {
        size = r.size ∙ l.size;
        rest = λ i h. r.over i h ∙ l.rest i (omega arith);
        rising = λ i j h k. rising i j h k (lt_or_ge i count) (lt_or_ge j count);
        sound = λ i h. sound i h (lt_or_ge i count);
        whole = λ t q. whole t q (lt_or_ge t (base + from));
      }
    where
      place : (i : ℕ) → count ≤ i → i < n → get_or new i 0 ≡ base + (from + (i - count))
      place i h k = let w = r.written i h k in omega arith

      sound : (i : ℕ) → i < n → (i < count) ⊎ (count ≤ i) → Below (base + stop) P (get_or new i 0)
      sound i h =
          let f = r.from≤ in
          let e = r.as_many in
          ⊎_elim
          (λ (u : i < count).
          let s = l.sound i u in
          let same = r.under i u in
          (omega arith, subst P (sym same) s.1))
          (λ (o : count ≤ i).
          let at = place i o h in
          (omega arith, subst P (sym at) (p (from + (i - count)) (omega arith) (omega arith))))

      rising : (i j : ℕ) → i < j → j < n → (i < count) ⊎ (count ≤ i) → (j < count) ⊎ (count ≤ j) → get_or new i 0 < get_or new j 0
      rising i j h k =
          ⊎_elim
          (λ (u : i < count).
          ⊎_elim
          (λ (v : j < count). let a = r.under i u in let b = r.under j v in let c = l.rising i j h v in omega arith)
          (λ (v : count ≤ j). let a = r.under i u in let b = r.written j v k in let c = (l.sound i u).0 in omega arith))
          (λ (u : count ≤ i).
          ⊎_elim (λ (v : j < count). absurd (omega arith))
          (λ (v : count ≤ j). let a = r.written i u (omega arith) in let b = r.written j v k in omega arith))

      whole : (t : ℕ) → Below (base + stop) P t → (t < base + from) ⊎ (base + from ≤ t) → Place new n t
      whole t q =
          let f = r.from≤ in
          let e = r.as_many in
          ⊎_elim
          (λ (u : t < base + from).
          let w = l.whole t (u, q.1) in
          let b = w.before in
          record { index = w.index; before = omega arith; there = r.under w.index b ∙ w.there })
          (λ (u : base + from ≤ t).
          let b = q.0 in
          let i : ℕ = count + (t - (base + from)) in
          let k : i < n = omega arith in
          let w = r.written i (omega arith) k in
          record { index = i; before = k; there = omega arith })

  -- where no number from m to m' satisfies P, those below m' are those below m
  pub lists_skip : {m m' n : ℕ} {old new : List ℕ} → m ≤ m' → ((t : ℕ) → m ≤ t → t < m' → P t → ⊥) → Lists (Below m P) n old new → Lists (Below m' P) n old new
  lists_skip {m} {m'} {n} {old} {new} h none l =
      record {
        size = l.size;
        rest = l.rest;
        rising = l.rising;
        sound = λ i k. let s = l.sound i k in (let b = s.0 in omega arith, s.1);
        whole = λ t q. whole t q (lt_or_ge t m);
      }
    where
      whole : (t : ℕ) → Below m' P t → (t < m) ⊎ (m ≤ t) → Place new n t
      whole t q = ⊎_elim (λ (u : t < m). l.whole t (u, q.1)) (λ (o : m ≤ t). absurd (none t o q.0 q.1))

-- ---- runs

module _ (Q : ℕ → Type 0) (base : ℕ) where
  pub run_none : (from count : ℕ) (old : List ℕ) → Run Q base from from count count old old
  run_none from count old =
      record {
        size = refl;
        from≤ = omega arith;
        as_many = omega arith;
        all = λ k l h. absurd (omega arith);
        written = λ i l h. absurd (omega arith);
        under = λ i l. refl;
        over = λ i l. refl;
      }

  pub run_more : {from stop count n : ℕ} {old new : List ℕ} → Run Q base from stop count n old new → Q stop → n < length new
      → Run Q base from (stop + 1) count (n + 1) old (set new n (base + stop))
  run_more {from} {stop} {count} {n} {old} {new} r q h =
      let f = r.from≤ in
      let e = r.as_many in
      record {
        size = length-set new n (base + stop) ∙ r.size;
        from≤ = omega arith;
        as_many = omega arith;
        all = up_to r.all q;
        written = λ i l g. written i l g (lt_or_ge i n);
        under = λ i l. get_or-set_other new n i (base + stop) 0 (λ d. omega arith) ∙ r.under i l;
        over = λ i l. get_or-set_other new n i (base + stop) 0 (λ d. omega arith) ∙ r.over i (omega arith);
      }
    where
      written : (i : ℕ) → count ≤ i → i < n + 1 → (i < n) ⊎ (n ≤ i) → get_or (set new n (base + stop)) i 0 + count ≡ base + from + i
      written i l g =
          ⊎_elim
          (λ (u : i < n). let s = get_or-set_other new n i (base + stop) 0 (λ d. omega arith) in let w = r.written i l u in omega arith)
          (λ (u : n ≤ i).
          let k : n ≡ i = omega arith in
          let s : get_or (set new n (base + stop)) i 0 ≡ base + stop
          = subst (λ (j : ℕ). get_or (set new n (base + stop)) j 0 ≡ base + stop) k (get_or-set_same new n (base + stop) 0 h) in
          let e = r.as_many in
          omega arith)

-- ---- words

module _ {F : ℕ → Type 0} where
  pub words_none : (n : ℕ) (old : List ℕ) → Words F n n old old
  words_none n old = record { size = refl; each = λ i l h. absurd (omega arith); under = λ i l. refl; over = λ i l. refl }

  pub words_more : {from n : ℕ} {old new : List ℕ} → from ≤ n → Words F from n old new → (w : ℕ) → F w → n < length new → Words F from (n + 1) old (set new n w)
  words_more {from} {n} {old} {new} le k w f h =
      record {
        size = length-set new n w ∙ k.size;
        each =
            up_to (λ i l g. subst F (sym (get_or-set_other new n i w 0 (λ d. omega arith))) (k.each i l g))
            (subst F (sym (get_or-set_same new n w 0 h)) f);
        under = λ i l. get_or-set_other new n i w 0 (λ d. omega arith) ∙ k.under i l;
        over = λ i l. get_or-set_other new n i w 0 (λ d. omega arith) ∙ k.over i (omega arith);
      }

  -- words after words
  pub words_then : {from m n : ℕ} {old mid new : List ℕ} → from ≤ m → m ≤ n → Words F from m old mid → Words F m n mid new → Words F from n old new
  words_then {from} {m} {n} {old} {mid} {new} le le' k l =
      record {
        size = l.size ∙ k.size;
        each =
            λ i a b.
            ⊎_elim (λ (u : i < m). subst F (sym (l.under i u)) (k.each i a u)) (λ (u : m ≤ i). l.each i u b) (lt_or_ge i m);
        under = λ i a. l.under i (omega arith) ∙ k.under i a;
        over = λ i a. l.over i a ∙ k.over i (omega arith);
      }

  pub words_map : (G : ℕ → Type 0) {from n : ℕ} {old new : List ℕ} → ((w : ℕ) → F w → G w) → Words F from n old new → Words G from n old new
  words_map G f k = record { size = k.size; each = λ i l h. f _ (k.each i l h); under = k.under; over = k.over }

-- ---- what is listed is determined

module _ {P : ℕ → Type 0} where
  -- a number listed at place i is at least i
  far_enough : {n : ℕ} {old new : List ℕ} → Lists P n old new → (i : ℕ) → i < n → i ≤ get_or new i 0
  far_enough l zero h = omega arith
  far_enough l (suc i) h = let a = far_enough l i (omega arith) in let b = l.rising i (suc i) (omega arith) h in omega arith

  pub lists_few : {m : ℕ} (n : ℕ) {old new : List ℕ} → Lists P n old new → ((t : ℕ) → P t → t < m) → n ≤ m
  lists_few zero l h = omega arith
  lists_few (suc n) {new = new} l h =
      let a = far_enough l n (omega arith) in let b = h (get_or new n 0) (l.sound n (omega arith)) in omega arith

  level : {n : ℕ} {old new : List ℕ} → Lists P n old new → (i j : ℕ) → i ≤ j → j < n → get_or new i 0 ≤ get_or new j 0
  level {n} {old} {new} l i j h k = go (lt_or_ge i j)
    where
      go : (i < j) ⊎ (j ≤ i) → get_or new i 0 ≤ get_or new j 0
      go =
          ⊎_elim (λ (u : i < j). let c = l.rising i j u k in omega arith)
          (λ (u : j ≤ i). let e : i ≡ j = omega arith in subst (λ (m : ℕ). get_or new i 0 ≤ get_or new m 0) e (omega arith))

module _ {P : ℕ → Type 0} {n n' : ℕ} {old new old' new' : List ℕ} (l : Lists P n old new) (l' : Lists P n' old' new') where
  -- at place i the second list has a number too, and none that the first lacks before it
  record NotAhead (i : ℕ) : Type 0 where
    here : i < n'
    most : get_or new' i 0 ≤ get_or new i 0

  not_ahead : (i : ℕ) → i < n → ((k : ℕ) → k < i → NotAhead k) → NotAhead i
  not_ahead i h before = let w = l'.whole (get_or new i 0) (l.sound i h) in go w.index w.before w.there (lt_or_ge w.index i)
    where
      go : (j : ℕ) → j < n' → get_or new' j 0 ≡ get_or new i 0 → (j < i) ⊎ (i ≤ j) → NotAhead i
      go j b e =
          ⊎_elim
          (λ (u : j < i). let a = (before j u).most in let c = l.rising j i u h in absurd (omega arith))
          (λ (u : i ≤ j). let c = level l' i j u b in record { here = omega arith; most = omega arith })

  nowhere_ahead : (b i : ℕ) → i < b → i < n → NotAhead i
  nowhere_ahead zero i h k = absurd (omega arith)
  nowhere_ahead (suc b) i h k = not_ahead i k (λ j u. nowhere_ahead b j (omega arith) (omega arith))

-- two lists of the same numbers are one list
module _ {P : ℕ → Type 0} {n n' : ℕ} {old new old' new' : List ℕ} (l : Lists P n old new) (l' : Lists P n' old' new') where
  pub lists_as_long : n ≡ n'
  lists_as_long = go (lt_or_ge n n') (lt_or_ge n' n)
    where
      go : (n < n') ⊎ (n' ≤ n) → (n' < n) ⊎ (n ≤ n') → n ≡ n'
      go =
          ⊎_elim (λ (u : n < n') w. let a = (nowhere_ahead l' l (suc n) n (omega arith) u).here in absurd (omega arith))
          (λ (u : n' ≤ n).
          ⊎_elim (λ (v : n' < n). let a = (nowhere_ahead l l' (suc n') n' (omega arith) v).here in absurd (omega arith))
          (λ (v : n ≤ n'). omega arith))

  pub lists_same : (i : ℕ) → i < n → get_or new i 0 ≡ get_or new' i 0
  lists_same i h =
      let a = nowhere_ahead l l' (suc i) i (omega arith) h in
      let k = a.here in
      let b = (nowhere_ahead l' l (suc i) i (omega arith) k).most in
      let c = a.most in
      omega arith
