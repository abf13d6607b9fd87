-- A history that holds bins of lists spells a run of single calls, and so the demands hold of it. The contract of the bin of a list admits one outcome only;
-- a word below 0 for the id is answered with 5.
use mathlib.Core.Path.{◌≡◌, refl, sym, ap, subst, ◌∙◌}
use mathlib.Core.Logic.{◌≢◌, inl, inr, ⊎_elim}
use mathlib.Core.List.{List, [], ◌∷◌, ◌++◌}
use Prim.Native.Nat.{ℕ, zero, suc, ◌≤◌, ◌<◌}
use native.Mathlib.Omega.{arith}
use lib.IntN.{ℤ, negsuc}
use lib.ListN.{get_or}
use lib.Seq.{ext_get_or}
use Rattle.numbers.proofs.Ceil.{eq_or_ne, lt_or_ge, below_or_last}
use Rattle.screen.specs.Screen.{tiles}
use Rattle.shape.specs.declared.Shape.{Shape}
use Rattle.shapes.specs.Shapes.{count_of, shape_at}
use Rattle.pool.specs.Words.{id_limit, layout_of, room}
use Rattle.pool.specs.Sound.{Sound}
use Rattle.calls.specs.Told.{Binned}
use Rattle.calls.specs.Tables.{PlaceSays, BinSays, refused_bin}
use Rattle.calls.specs.BinList.{id_from, id_at, OneByOne, AllBinned, BinListSays, damaged, bad_list, too_few, done}
use Rattle.demands.specs.History.{Entry, binned, binned_pixels, found, released, number_of, Step, Run, less_room}
use Rattle.demands.specs.Room.{room_of, SameRoom}
use Rattle.demands.specs.Demand1.{Among, Outside}
use Rattle.demands.specs.BinList.{Item, single, list, ItemStep, ItemRun, singles, list_counts, counts, spelled, SpelledIsARun, Demand1List, Demand2Step, Demand2Run, Demand2Items, Demand3Items, Demand3ItemsRun, PastTheRoomList}
use Rattle.demands.proofs.OneOutcome.{bin_one_outcome}
use Rattle.demands.proofs.Accepted.{same_outside}
use Rattle.demands.proofs.Demand1.{demand_1}
use Rattle.demands.proofs.Demand2.{demand_2_bin, demand_2_pixels, demand_2_release}
use Rattle.demands.proofs.Runs.{run_stays}
use Rattle.demands.proofs.Room.{same_sound, same_sym, bin_follows}
use Rattle.demands.proofs.Demand3.{demand_3, demand_3_runs}

-- ---- spelled out

runs_join : (p m q : List ℕ) (h k : List Entry) → Run p k m → Run m h q → Run p (h ++ k) q
runs_join p m q [] k a b = subst (Run p k) (sym b) a
runs_join p m q (e ∷ h) k a b = (b.0, runs_join p m b.0 h k a b.1, b.2)

singles_run : (ws : List ℤ) (bytes : List ℕ) (n : ℕ) (p q : List ℕ) (o : OneByOne ws bytes n p q) → Run p (singles ws bytes n p q o) q
singles_run ws bytes zero p q o = o
singles_run ws bytes (suc n) p q o = (o.0, singles_run ws bytes n p o.0 o.1, o.2.says)

list_run : {p : List ℕ} {ws : List ℤ} {old : List ℕ} {number : ℕ} {q new : List ℕ} (s : BinListSays p ws old number q new) → Run p (list_counts s) q
list_run (damaged n e f g) = f
list_run (bad_list S n e f g) = f
list_run (too_few S r l e f g) = f
list_run {p} {ws} {old} {number} {q} {new} (done S r l e b) = singles_run ws new (count_of 8 ws) p q b.each

counts_run : (p : List ℕ) (i : Item) (q : List ℕ) (s : ItemStep p i q) → Run p (counts p i q s) q
counts_run p (single e) q s = (p, refl, s)
counts_run p (list ws old number new) q s = list_run s

pub spelled_is_a_run : SpelledIsARun
spelled_is_a_run p [] q r = r
spelled_is_a_run p (i ∷ h) q r =
    runs_join p r.0 q (counts r.0 i q r.2) (spelled p h r.0 r.1) (spelled_is_a_run p h r.0 r.1) (counts_run r.0 i q r.2)

-- ---- demand 1

step_outside : (p : List ℕ) (e : Entry) (q : List ℕ) → Step p e q → Outside (room_of p) p q
step_outside p e q s =
    let D = demand_1 p e q s in
    ⊎_elim (λ (z : number_of e ≡ 0). D.accepted z) (λ (ne : number_of e ≢ 0). same_outside (D.refused ne).0) (eq_or_ne (number_of e) 0)

run_outside : (p : List ℕ) (h : List Entry) (q : List ℕ) → Sound (layout_of p) p → Run p h q → Outside (room_of p) p q
run_outside p [] q S r = same_outside r
run_outside p (e ∷ h) q S r =
    let M = run_stays p h r.0 S r.1 in
    let A = run_outside p h r.0 S r.1 in
    let B = step_outside r.0 e q r.2 in
    let same : room_of r.0 ≡ room_of p = (λ i. room (M.layout i) (tiles (M.screen i)) (M.blocks i)) in
    record { long = B.long ∙ A.long; tail = λ i l. B.tail i (omega (arith, same)) ∙ A.tail i l }

-- on a sound pool a bin is answered with one of four numbers
answer_among : {p : List ℕ} {shape : Shape} {id : ℕ} {a : Binned} {q : List ℕ} → Sound (layout_of p) p → BinSays p shape id a q → Among a.number (0 ∷ 5 ∷ 7 ∷ 8 ∷ [])
answer_among S (BinSays.damaged n e f) = absurd (n S)
answer_among S (BinSays.bad_id S' i e f) = inr (inl (ap (λ (b : Binned). b.number) e))
answer_among S (BinSays.out_of_range S' i o e f) = inr (inr (inl (ap (λ (b : Binned). b.number) e)))
answer_among S (BinSays.placed S' i o (PlaceSays.no_room ts T l e f)) = inr (inr (inr (inl (ap (λ (b : Binned). b.number) e))))
answer_among S (BinSays.placed S' i o (PlaceSays.done ts T l flag F tests C e f)) = inl (ap (λ (b : Binned). b.number) e)

bytes_among : (ws : List ℤ) (bytes p : List ℕ) → Sound (layout_of p) p → (n : ℕ) (q : List ℕ) → OneByOne ws bytes n p q
    → (k : ℕ) → k < n → Among (get_or bytes k 0) (0 ∷ 5 ∷ 7 ∷ 8 ∷ [])
bytes_among ws bytes p S zero q o k h = absurd (omega arith)
bytes_among ws bytes p S (suc n) q o k h =
    let M = run_stays p (singles ws bytes n p o.0 o.1) o.0 S (singles_run ws bytes n p o.0 o.1) in
    let last : Among (get_or bytes n 0) (0 ∷ 5 ∷ 7 ∷ 8 ∷ []) = subst (λ (m : ℕ). Among m (0 ∷ 5 ∷ 7 ∷ 8 ∷ [])) (sym o.2.is) (answer_among M.sound o.2.says) in
    ⊎_elim
    (λ (l : k < n). bytes_among ws bytes p S n o.0 o.1 k l)
    (λ (e : k ≡ n). subst (λ (j : ℕ). Among (get_or bytes j 0) (0 ∷ 5 ∷ 7 ∷ 8 ∷ [])) (sym e) last)
    (below_or_last k n h)

pub demand_1_list : {p : List ℕ} {ws : List ℤ} {old : List ℕ} {number : ℕ} {q new : List ℕ} → BinListSays p ws old number q new → Demand1List p ws old number q new
demand_1_list (damaged n e f g) = record {
  number_is = inr (inl e);
  refused = λ _. (f, g);
  words = λ z. absurd (omega arith);
  bytes = λ z. absurd (omega arith);
  answers = λ z. absurd (omega arith);
}
demand_1_list (bad_list S n e f g) = record {
  number_is = inr (inr (inl e));
  refused = λ _. (f, g);
  words = λ z. absurd (omega arith);
  bytes = λ z. absurd (omega arith);
  answers = λ z. absurd (omega arith);
}
demand_1_list (too_few S r l e f g) = record {
  number_is = inr (inr (inr (inl e)));
  refused = λ _. (f, g);
  words = λ z. absurd (omega arith);
  bytes = λ z. absurd (omega arith);
  answers = λ z. absurd (omega arith);
}
demand_1_list {p} {ws} {old} {number} {q} {new} (done S r l e b) = record {
  number_is = inl e;
  refused = λ ne. absurd (ne e);
  words = λ _. run_outside p (singles ws new (count_of 8 ws) p q b.each) q S (singles_run ws new (count_of 8 ws) p q b.each);
  bytes = λ _. record { long = b.long; tail = b.past };
  answers = λ _. bytes_among ws new p S (count_of 8 ws) q b.each;
}

-- a word below 0 for the id is answered with 5; and so is any number past the ids, so that it does not matter which of them it counts as
pub below_0_is_5 : {p : List ℕ} {shape : Shape} {a : Binned} {q : List ℕ} (n : ℕ) → Sound (layout_of p) p → BinSays p shape (id_from (negsuc n)) a q → (a ≡ refused_bin 5) × (q ≡ p)
below_0_is_5 n S (BinSays.damaged d e f) = absurd (d S)
below_0_is_5 n S (BinSays.bad_id S' i e f) = (e, f)
below_0_is_5 n S (BinSays.out_of_range S' i o e f) = absurd (omega arith)
below_0_is_5 n S (BinSays.placed S' i o w) = absurd (omega arith)

pub past_the_ids_alike : {p : List ℕ} {shape : Shape} {i j : ℕ} {a : Binned} {q : List ℕ} → id_limit ≤ i → id_limit ≤ j → BinSays p shape i a q → BinSays p shape j a q
past_the_ids_alike hi hj (BinSays.damaged n e f) = BinSays.damaged n e f
past_the_ids_alike hi hj (BinSays.bad_id S i e f) = BinSays.bad_id S hj e f
past_the_ids_alike hi hj (BinSays.out_of_range S i o e f) = absurd (omega arith)
past_the_ids_alike hi hj (BinSays.placed S i o w) = absurd (omega arith)

-- ---- one outcome only

one_by_one_once : (ws : List ℤ) (b c p : List ℕ) (n : ℕ) (q r : List ℕ) → OneByOne ws b n p q → OneByOne ws c n p r
    → (q ≡ r) × ((k : ℕ) → k < n → get_or b k 0 ≡ get_or c k 0)
one_by_one_once ws b c p zero q r o u = (o ∙ sym u, λ k h. absurd (omega arith))
one_by_one_once ws b c p (suc n) q r o u =
    let before = one_by_one_once ws b c p n o.0 u.0 o.1 u.1 in
    let one = bin_one_outcome o.2.says (subst (λ (m : List ℕ). BinSays m (shape_at 8 ws n) (id_at ws n) u.2.answer r) (sym before.0) u.2.says) in
    let last : get_or b n 0 ≡ get_or c n 0 = o.2.is ∙ ap (λ (a : Binned). a.number) one.0 ∙ sym u.2.is in
    (one.1, λ k h. ⊎_elim (λ (l : k < n). before.1 k l) (λ (e : k ≡ n). subst (λ (j : ℕ). get_or b j 0 ≡ get_or c j 0) (sym e) last) (below_or_last k n h))

all_binned_once : {ws : List ℤ} {old b c p q r : List ℕ} → AllBinned ws old b p q → AllBinned ws old c p r → (q ≡ r) × (b ≡ c)
all_binned_once {ws} {old} {b} {c} {p} {q} {r} A B =
    let one = one_by_one_once ws b c p (count_of 8 ws) q r A.each B.each in (
      one.0,
      ext_get_or 0 b c (A.long ∙ sym B.long)
          (λ i h. ⊎_elim (λ (l : i < count_of 8 ws). one.1 i l) (λ (l : count_of 8 ws ≤ i). A.past i l ∙ sym (B.past i l)) (lt_or_ge i (count_of 8 ws))),
    )

pub bin_list_one_outcome : {p : List ℕ} {ws : List ℤ} {old : List ℕ} {a b : ℕ} {q r new other : List ℕ} → BinListSays p ws old a q new → BinListSays p ws old b r other
    → (a ≡ b) × (q ≡ r) × (new ≡ other)
bin_list_one_outcome (damaged n e f g) (damaged n' e' f' g') = (cc, cc, cc)
bin_list_one_outcome (damaged n e f g) (bad_list S' n' e' f' g') = absurd (n S')
bin_list_one_outcome (damaged n e f g) (too_few S' r' l' e' f' g') = absurd (n S')
bin_list_one_outcome (damaged n e f g) (done S' r' l' e' b') = absurd (n S')
bin_list_one_outcome (bad_list S n e f g) (damaged n' e' f' g') = absurd (n' S)
bin_list_one_outcome (bad_list S n e f g) (bad_list S' n' e' f' g') = (cc, cc, cc)
bin_list_one_outcome (bad_list S n e f g) (too_few S' r' l' e' f' g') = absurd (n r')
bin_list_one_outcome (bad_list S n e f g) (done S' r' l' e' b') = absurd (n r')
bin_list_one_outcome (too_few S r l e f g) (damaged n' e' f' g') = absurd (n' S)
bin_list_one_outcome (too_few S r l e f g) (bad_list S' n' e' f' g') = absurd (n' r)
bin_list_one_outcome (too_few S r l e f g) (too_few S' r' l' e' f' g') = (cc, cc, cc)
bin_list_one_outcome (too_few S r l e f g) (done S' r' l' e' b') = absurd (omega arith)
bin_list_one_outcome (done S r l e b) (damaged n' e' f' g') = absurd (n' S)
bin_list_one_outcome (done S r l e b) (bad_list S' n' e' f' g') = absurd (n' r)
bin_list_one_outcome (done S r l e b) (too_few S' r' l' e' f' g') = absurd (omega arith)
bin_list_one_outcome (done S r l e b) (done S' r' l' e' b') = let one = all_binned_once b b' in (cc, one.0, one.1)

-- a list of no shapes is accepted, and changes nothing
pub empty_list_accepted : {p old : List ℕ} {a : ℕ} {q new : List ℕ} → Sound (layout_of p) p → BinListSays p [] old a q new → (a ≡ 0) × (q ≡ p) × (new ≡ old)
empty_list_accepted S B =
    bin_list_one_outcome B
    (done S (record { whole = refl; few = omega arith; each = λ place h. absurd (omega arith) }) (omega arith) refl (record { each = refl; long = refl; past = λ i l. refl }))

-- ---- the words past the room

one_by_one_follows : {p w : List ℕ} (ws : List ℤ) (bytes : List ℕ) → SameRoom p w → (n : ℕ) (q : List ℕ) → OneByOne ws bytes n p q → (v : List ℕ) × OneByOne ws bytes n w v × SameRoom q v
one_by_one_follows {w = w} ws bytes S zero q o = (w, refl, subst (λ (x : List ℕ). SameRoom x w) (sym o) S)
one_by_one_follows ws bytes S (suc n) q o =
    let F = one_by_one_follows ws bytes S n o.0 o.1 in
    let G = bin_follows F.2 o.2.says in
    (G.0, (F.0, F.1, record { answer = o.2.answer; says = G.1; is = o.2.is }), G.2)

list_follows : {p w : List ℕ} {ws : List ℤ} {old : List ℕ} {a : ℕ} {q new : List ℕ} → SameRoom p w → BinListSays p ws old a q new
    → (v : List ℕ) × BinListSays w ws old a v new × SameRoom q v
list_follows {p} {w} S (damaged n e f g) = (w, damaged (λ P. n (same_sound (same_sym S) P)) e refl g, subst (λ (x : List ℕ). SameRoom x w) (sym f) S)
list_follows {p} {w} S (bad_list P n e f g) = (w, bad_list (same_sound S P) n e refl g, subst (λ (x : List ℕ). SameRoom x w) (sym f) S)
list_follows {p} {w} S (too_few P r l e f g) = (w, too_few (same_sound S P) r l e refl g, subst (λ (x : List ℕ). SameRoom x w) (sym f) S)
list_follows {p} {w} {ws} {old} {a} {q} {new} S (done P r l e b) =
    let F = one_by_one_follows ws new S (count_of 8 ws) q b.each in
    (F.0, done (same_sound S P) r l e (record { each = F.1; long = b.long; past = b.past }), F.2)

pub past_the_room_list : PastTheRoomList
past_the_room_list p₁ p₂ S ws old a₁ a₂ q₁ q₂ new₁ new₂ B₁ B₂ =
    let F = list_follows S B₁ in
    let one = bin_list_one_outcome F.1 B₂ in
    (one.0, one.2, subst (λ (x : List ℕ). SameRoom q₁ x) one.1 F.2)

-- ---- demand 2

step_2 : (p : List ℕ) (S : Sound (layout_of p) p) (e : Entry) (q : List ℕ) → Step p e q → Demand2Step p S e q
step_2 p S (binned shape id a) q s = demand_2_bin S s
step_2 p S (binned_pixels shape id a) q s = demand_2_pixels S s
step_2 p S (found tile place a) q s = s.1
step_2 p S (released tile a) q s = demand_2_release S s

run_2 : (p : List ℕ) → Sound (layout_of p) p → (h : List Entry) (q : List ℕ) (r : Run p h q) → Demand2Run p h q r
run_2 p S [] q r = tt
run_2 p S (e ∷ h) q r = let M = (run_stays p h r.0 S r.1).sound in (run_2 p S h r.0 r.1, M, step_2 r.0 M e q r.2)

pub demand_2_items : Demand2Items spelled_is_a_run
demand_2_items p S h q r =
    let h' = spelled p h q r in
    let r' = spelled_is_a_run p h q r in
    (run_2 p S h' q r', run_stays p h' q S r')

-- ---- demand 3

pub demand_3_items : Demand3Items
demand_3_items L d N n p₁ p₂ O h₁ q₁ r₁ h₂ q₂ r₂ same =
    demand_3 L d N n p₁ p₂ O (spelled p₁ h₁ q₁ r₁) q₁ (spelled_is_a_run p₁ h₁ q₁ r₁) (spelled p₂ h₂ q₂ r₂) q₂ same (spelled_is_a_run p₂ h₂ q₂ r₂)

-- single calls as a history
abbrev singly : List Entry → List Item
singly [] = []
singly (e ∷ h) = single e ∷ singly h

abbrev singly_run : (p : List ℕ) (h : List Entry) (q : List ℕ) → Run p h q → ItemRun p (singly h) q
singly_run p [] q r = r
singly_run p (e ∷ h) q r = (r.0, singly_run p h r.0 r.1, r.2)

singly-spelled : (p : List ℕ) (h : List Entry) (q : List ℕ) (r : Run p h q) → spelled p (singly h) q (singly_run p h q r) ≡ h
singly-spelled p [] q r = refl
singly-spelled p (e ∷ h) q r = ap (λ (k : List Entry). e ∷ k) (singly-spelled p h r.0 r.1)

pub demand_3_items_run : Demand3ItemsRun
demand_3_items_run L d N n p₁ p₂ O h₁ q₁ r₁ =
    let h = less_room (spelled p₁ h₁ q₁ r₁) in
    let R = demand_3_runs L d N n p₁ p₂ O (spelled p₁ h₁ q₁ r₁) q₁ (spelled_is_a_run p₁ h₁ q₁ r₁) in
    (singly h, R.0, singly_run p₂ h R.0 R.1, singly-spelled p₂ h R.0 R.1)
