-- The list of touched tiles is one list, and tells of each tile whether it is touched; and the walk's list is that list.
use Prim.Native.Nat.{ℕ, zero, suc, ◌≤◌, ◌<◌}
use mathlib.Core.Path.{◌≡◌, refl, sym, subst, ◌∙◌}
use mathlib.Core.List.{List}
use mathlib.Core.Logic.{◌⊎◌, inl, inr, ⊎_elim}
use native.Mathlib.Decide.{dec_le}
use native.Mathlib.Omega.{arith}
use lib.ListN.{length, get_or, take}
use lib.Seq.{length-take-le, get_or-take, ext_get_or}
use Rattle.numbers.specs.Flag.{plains}
use Rattle.numbers.proofs.Flag.{length-plains, take-plains}
use Rattle.numbers.proofs.Says.{says_iff}
use Rattle.screen.specs.declared.Screen.{Screen}
use Rattle.screen.specs.Screen.{tiles}
use Rattle.screen.specs.Rectangle.{rectangle}
use Rattle.shape.specs.declared.Shape.{Shape}
use Rattle.touch.specs.declared.Edges.{Edges}
use Rattle.touch.specs.Corner.{three}
use Rattle.touch.specs.Edges.{edges_of}
use Rattle.touch.specs.Touches.{Touches}
use Rattle.touch.proofs.Weights.{touches_as_triangle}
use Rattle.touch.proofs.Covering.{wholly_as_triangle}
use Rattle.walk.specs.Touched.{TouchedTiles, Walked}
use Rattle.walk.specs.Lists.{IsTouched, Flagged, Place, Lists, Words}
use Rattle.numbers.proofs.Ceil.{lt_or_ge}
use Rattle.walk.specs.Row.{outlined}
use Rattle.walk.proofs.Lists.{lists_iff, lists_few, lists_as_long, lists_same, words_map}

-- ---- a list as the front of itself

-- each less than the next, and so less than every later one
pub rises_throughout : (ts : List ℕ) → ((i : ℕ) → suc i < length ts → get_or ts i 0 < get_or ts (suc i) 0) → (i j : ℕ) → i < j → j < length ts → get_or ts i 0 < get_or ts j 0
rises_throughout ts r i zero h k = absurd (omega arith)
rises_throughout ts r i (suc j) h k = last_or_before (λ l. rises_throughout ts r i j l (omega arith)) (lt_or_ge i j)
  where
    last_or_before : (i < j → get_or ts i 0 < get_or ts j 0) → (i < j) ⊎ (j ≤ i) → get_or ts i 0 < get_or ts (suc j) 0
    last_or_before f =
        ⊎_elim (λ (u : i < j). let a = f u in let b = r j k in omega arith)
        (λ (u : j ≤ i). let e : j ≡ i = omega arith in subst (λ (m : ℕ). get_or ts m 0 < get_or ts (suc j) 0) e (r j k))

module _ {d : Screen} {shape : Shape} where
  as_lists : {ts : List ℕ} → TouchedTiles d shape ts → Lists (IsTouched d shape) (length ts) ts ts
  as_lists {ts} h =
      record {
        size = refl;
        rest = λ i l. refl;
        rising = rises_throughout ts h.rising;
        sound = h.touched;
        whole = λ t p. let w = h.all t p.0 p.1 in record { index = w.0; before = w.1; there = w.2 };
      }

  pub touched_tiles_unique : {ts us : List ℕ} → TouchedTiles d shape ts → TouchedTiles d shape us → ts ≡ us
  touched_tiles_unique {ts} {us} h k =
      ext_get_or 0 ts us (lists_as_long (as_lists h) (as_lists k)) (lists_same (as_lists h) (as_lists k))

  -- there are no more than the screen has tiles
  pub touched_tiles_few : {ts : List ℕ} → TouchedTiles d shape ts → length ts ≤ tiles d
  touched_tiles_few {ts} h = lists_few (length ts) (as_lists h) (λ t p. p.0)

-- ---- a number is in a list or not

module _ (ts : List ℕ) (t n : ℕ) where
  earlier : (get_or ts n 0 ≡ t → ⊥) → (i : ℕ) → i < suc n → get_or ts i 0 ≡ t → (i < n) ⊎ (n ≤ i) → Place ts n t
  earlier other i h e =
      ⊎_elim (λ (u : i < n). record { index = i; before = u; there = e })
      (λ (u : n ≤ i). let k : i ≡ n = omega arith in absurd (other (subst (λ (m : ℕ). get_or ts m 0 ≡ t) k e)))

  one_more : Place ts n t ⊎ (Place ts n t → ⊥) → (get_or ts n 0 ≡ t → ⊥) → Place ts (suc n) t ⊎ (Place ts (suc n) t → ⊥)
  one_more f other =
      ⊎_elim
      (λ (w : Place ts n t). inl (let b = w.before in record { index = w.index; before = omega arith; there = w.there }))
      (λ (g : Place ts n t → ⊥). inr (λ w. g (earlier other w.index w.before w.there (lt_or_ge w.index n))))
      f

  at_last : Place ts n t ⊎ (Place ts n t → ⊥) → Dec (get_or ts n 0 ≤ t) → Dec (t ≤ get_or ts n 0) → Place ts (suc n) t ⊎ (Place ts (suc n) t → ⊥)
  at_last f (yes a) (yes b) = inl (record { index = n; before = omega arith; there = omega arith })
  at_last f (yes a) (no b) = one_more f (λ e. omega arith)
  at_last f (no a) b = one_more f (λ e. omega arith)

place_or_not : (ts : List ℕ) (t n : ℕ) → Place ts n t ⊎ (Place ts n t → ⊥)
place_or_not ts t zero = inr (λ w. let b = w.before in omega arith)
place_or_not ts t (suc n) = at_last ts t n (place_or_not ts t n) (dec_le (get_or ts n 0) t) (dec_le t (get_or ts n 0))

pub touched_or_not : {d : Screen} {shape : Shape} {ts : List ℕ} → TouchedTiles d shape ts → (t : ℕ) → t < tiles d
    → Touches shape (rectangle d t) ⊎ (Touches shape (rectangle d t) → ⊥)
touched_or_not {d} {shape} {ts} h t l =
    ⊎_elim
    (λ (w : Place ts (length ts) t). inl (subst (λ (u : ℕ). Touches shape (rectangle d u)) w.there (h.touched w.index w.before).1))
    (λ (g : Place ts (length ts) t → ⊥). inr (λ p. let w = h.all t l p in g (record { index = w.0; before = w.1; there = w.2 })))
    (place_or_not ts t (length ts))

-- ---- the walk's list

module _ {d : Screen} {shape : Shape} {n : ℕ} where
  pub lists_touched : {old new : List ℕ} → tiles d ≤ length old → Lists (IsTouched d shape) n old new → TouchedTiles d shape (take n new)
  lists_touched {old} {new} room l =
      let few = lists_few n l (λ t p. p.0) in
      let size = l.size in
      let long : length (take n new) ≡ n = length-take-le n new (omega arith) in
      record {
        rising = λ i h. rw (get_or-take n new i 0 (omega arith), get_or-take n new (suc i) 0 (omega arith)) (l.rising i (suc i) (omega arith) (omega arith));
        touched = λ i h. subst (IsTouched d shape) (sym (get_or-take n new i 0 (omega arith))) (l.sound i (omega arith));
        all =
            λ t h p.
            let w = l.whole t (h, p) in
            let b = w.before in
            (w.index, omega arith, get_or-take n new w.index 0 b ∙ w.there);
      }

  -- with the words that name them
  pub lists_walked : {old new : List ℕ} → tiles d ≤ length old → Lists (IsTouched d shape) n (plains old) (plains new) → Words (Flagged d shape) 0 n old new
      → Walked d shape n old new
  lists_walked {old} {new} room l k = record {
    touched = subst (TouchedTiles d shape) (sym (take-plains n new)) (lists_touched (omega (arith, length-plains old)) l);
    flags = λ i h. k.each i (omega arith) h;
    few = lists_few n l (λ t p. p.0);
    size = k.size;
    rest = k.over;
  }

-- by the edges of the shape's vertices
pub rows_walked : {d : Screen} {n : ℕ} {old new : List ℕ} {e : Edges} (shape : Shape) → e ≡ edges_of (three shape) → tiles d ≤ length old
    → Lists (IsTouched d (outlined e)) n (plains old) (plains new) → Words (Flagged d (outlined e)) 0 n old new → Walked d shape n old new
rows_walked {d} {n} {old} {new} shape edges room numbers words =
    lists_walked room
    (lists_iff (IsTouched d (outlined (edges_of (three shape)))) (IsTouched d shape)
    (λ t p. (p.0, (touches_as_triangle shape).1 p.1))
    (λ t p. (p.0, (touches_as_triangle shape).0 p.1))
    (subst (λ (e : Edges). Lists (IsTouched d (outlined e)) n (plains old) (plains new)) edges numbers))
    (words_map (Flagged d shape) (λ w h. says_iff (wholly_as_triangle shape).1 (wholly_as_triangle shape).0 h)
    (subst (λ (e : Edges). Words (Flagged d (outlined e)) 0 n old new) edges words))
