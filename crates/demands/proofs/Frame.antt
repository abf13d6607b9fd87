-- The calls that read lists as a whole: demand 1 holds of them, their contracts admit one outcome only, each list stands where the starts say, they agree with
-- single reads, and pools with the same lists answer alike: two pools of demand 3, and two slices with the same words in the room.
use mathlib.Core.Path.{◌≡◌, refl, sym, ap, ap₂, subst, ◌∙◌}
use mathlib.Core.Logic.{◌⊎◌, inl, inr}
use mathlib.Core.List.{List, ◌++◌, append_assoc}
use Prim.Native.Nat.{ℕ, zero, suc, ◌+◌, ◌*◌, ◌-◌, ◌≤◌, ◌<◌}
use native.Mathlib.Omega.{arith}
use lib.ListN.{length, get_or, take, drop, length-append}
use lib.Seq.{drop_at, take_at}
use Rattle.screen.specs.Screen.{tiles}
use Rattle.pool.specs.Words.{layout_of}
use Rattle.pool.specs.Sound.{Sound, tiles_of, blocks_of}
use Rattle.pool.specs.Lists.{table}
use Rattle.pool.specs.Written.{written}
use Rattle.pool.proofs.Editions.{layout_known, known_sized}
use Rattle.pool.proofs.Lists.{table_same}
use Rattle.pool.proofs.Written.{length-written, written_is}
use Rattle.pool.proofs.Putting.{written_at, written-past}
use Rattle.frame.specs.Frame.{lists_of}
use Rattle.frame.proofs.Lists.{lists_split, start-at, starts_long, all_held}
use Rattle.calls.specs.Told.{Copied}
use Rattle.calls.specs.Told.{PoolCounts}
use Rattle.calls.specs.Tables.{list_in, free_in, found_in, ReadSays}
use Rattle.calls.specs.Frame.{lists_in, starts_in, ReadListSays, ReadAllSays, CountsSays}
use Rattle.demands.specs.Demand1.{Outside}
use Rattle.demands.specs.Frame.{Demand1ReadList, Demand1ReadAll, Demand1Counts, Stands, AllListsStand, EntriesFit, AgreesWithReads}
use Rattle.demands.specs.Frame.{with_more, ReadAlike, Demand3Frame, PastTheRoomFrame}
use Rattle.demands.proofs.Runs.{run_stays}
use Rattle.demands.proofs.Room.{same_sound, same_sym, tiles_same, blocks_same, free_same, lists_same}
use Rattle.demands.proofs.Demand3.{accepted-opening, fresh, demand_3}

number_of_lem : {a : Copied} {n c : ℕ} → a ≡ record { number = n; count = c } → a.number ≡ n
number_of_lem e = ap (λ (b : Copied). b.number) e

count_of : {a : Copied} {n c : ℕ} → a ≡ record { number = n; count = c } → a.count ≡ c
count_of e = ap (λ (b : Copied). b.count) e

-- ---- demand 1

-- where a list was written at the start, no word past it was
outside : {p q : List ℕ} {n : ℕ} (list : List ℕ) → q ≡ written p 0 list → n ≡ length list → Outside n p q
outside {p} {q} list e s = record {
  long = ap length e ∙ length-written p 0 list;
  tail = λ i h. ap (λ (r : List ℕ). get_or r i 0) e ∙ written-past p 0 list i (omega arith);
}

pub demand_1_read_list : {p : List ℕ} {t : ℕ} {e₀ : List ℕ} {a : Copied} {e : List ℕ} → ReadListSays p t e₀ a e → Demand1ReadList e₀ a e
demand_1_read_list (ReadListSays.damaged n e f) =
    record { number_is = inr (inl (number_of_lem e)); refused = λ _. (count_of e, f); accepted = λ z. absurd (omega (arith, number_of_lem e)) }
demand_1_read_list (ReadListSays.no_tile s h e f) =
    record { number_is = inr (inr (inl (number_of_lem e))); refused = λ _. (count_of e, f); accepted = λ z. absurd (omega (arith, number_of_lem e)) }
demand_1_read_list (ReadListSays.too_short s h l e f) =
    record { number_is = inr (inr (inr (inl (number_of_lem e)))); refused = λ _. (count_of e, f); accepted = λ z. absurd (omega (arith, number_of_lem e)) }
demand_1_read_list {p} {t} (ReadListSays.done s h l e f) =
    record { number_is = inl (number_of_lem e); refused = λ ne. absurd (ne (number_of_lem e)); accepted = λ _. outside (list_in p t) f (count_of e) }

pub demand_1_read_all : {p s₀ e₀ : List ℕ} {a : Copied} {s e : List ℕ} → ReadAllSays p s₀ e₀ a s e → Demand1ReadAll p s₀ e₀ a s e
demand_1_read_all (ReadAllSays.damaged n e f g) =
    record { number_is = inr (inl (number_of_lem e)); refused = λ _. (count_of e, f, g); accepted = λ z. absurd (omega (arith, number_of_lem e)) }
demand_1_read_all (ReadAllSays.too_short s l e f g) =
    record { number_is = inr (inr (inl (number_of_lem e))); refused = λ _. (count_of e, f, g); accepted = λ z. absurd (omega (arith, number_of_lem e)) }
demand_1_read_all {p} (ReadAllSays.done s k l e f g) = record {
  number_is = inl (number_of_lem e);
  refused = λ ne. absurd (ne (number_of_lem e));
  accepted = λ _. (outside (starts_in p) f (sym (starts_long (layout_of p) (tiles_of p) p)), outside (lists_in p) g (count_of e));
}

pub demand_1_counts : {p : List ℕ} {a : PoolCounts} → CountsSays p a → Demand1Counts a
demand_1_counts (CountsSays.damaged n e) = record {
  number_is = inr (inl (ap (λ (b : PoolCounts). b.number) e));
  refused = λ _. (
    ap (λ (b : PoolCounts). b.tiles) e,
    ap (λ (b : PoolCounts). b.blocks) e,
    ap (λ (b : PoolCounts). b.free) e,
    ap (λ (b : PoolCounts). b.entries) e,
  );
}
demand_1_counts (CountsSays.done s e) = let z = ap (λ (b : PoolCounts). b.number) e in record { number_is = inl z; refused = λ ne. absurd (ne z) }

-- ---- one outcome only

pub read_list_one_outcome : {p : List ℕ} {t : ℕ} {e₀ : List ℕ} {a b : Copied} {e f : List ℕ} → ReadListSays p t e₀ a e → ReadListSays p t e₀ b f
    → (a ≡ b) × (e ≡ f)
read_list_one_outcome (ReadListSays.damaged n e f) (ReadListSays.damaged n' e' f') = (cc, cc)
read_list_one_outcome (ReadListSays.damaged n e f) (ReadListSays.no_tile s' h' e' f') = absurd (n s')
read_list_one_outcome (ReadListSays.damaged n e f) (ReadListSays.too_short s' h' l' e' f') = absurd (n s')
read_list_one_outcome (ReadListSays.damaged n e f) (ReadListSays.done s' h' l' e' f') = absurd (n s')
read_list_one_outcome (ReadListSays.no_tile s h e f) (ReadListSays.damaged n' e' f') = absurd (n' s)
read_list_one_outcome (ReadListSays.no_tile s h e f) (ReadListSays.no_tile s' h' e' f') = (cc, cc)
read_list_one_outcome (ReadListSays.no_tile s h e f) (ReadListSays.too_short s' h' l' e' f') = absurd (omega arith)
read_list_one_outcome (ReadListSays.no_tile s h e f) (ReadListSays.done s' h' l' e' f') = absurd (omega arith)
read_list_one_outcome (ReadListSays.too_short s h l e f) (ReadListSays.damaged n' e' f') = absurd (n' s)
read_list_one_outcome (ReadListSays.too_short s h l e f) (ReadListSays.no_tile s' h' e' f') = absurd (omega arith)
read_list_one_outcome (ReadListSays.too_short s h l e f) (ReadListSays.too_short s' h' l' e' f') = (cc, cc)
read_list_one_outcome (ReadListSays.too_short s h l e f) (ReadListSays.done s' h' l' e' f') = absurd (omega arith)
read_list_one_outcome (ReadListSays.done s h l e f) (ReadListSays.damaged n' e' f') = absurd (n' s)
read_list_one_outcome (ReadListSays.done s h l e f) (ReadListSays.no_tile s' h' e' f') = absurd (omega arith)
read_list_one_outcome (ReadListSays.done s h l e f) (ReadListSays.too_short s' h' l' e' f') = absurd (omega arith)
read_list_one_outcome (ReadListSays.done s h l e f) (ReadListSays.done s' h' l' e' f') = (cc, cc)

-- there is room, or there is not
room_or_none : {a b c d : ℕ} → (a ≤ b) ⊎ (c < d) → b < a → d ≤ c → ⊥
room_or_none (inl l) h k = omega arith
room_or_none (inr l) h k = omega arith

pub read_all_one_outcome : {p s₀ e₀ : List ℕ} {a b : Copied} {s e u f : List ℕ} → ReadAllSays p s₀ e₀ a s e → ReadAllSays p s₀ e₀ b u f
    → (a ≡ b) × (s ≡ u) × (e ≡ f)
read_all_one_outcome (ReadAllSays.damaged n e f g) (ReadAllSays.damaged n' e' f' g') = (cc, cc, cc)
read_all_one_outcome (ReadAllSays.damaged n e f g) (ReadAllSays.too_short s' l' e' f' g') = absurd (n s')
read_all_one_outcome (ReadAllSays.damaged n e f g) (ReadAllSays.done s' k' l' e' f' g') = absurd (n s')
read_all_one_outcome (ReadAllSays.too_short s l e f g) (ReadAllSays.damaged n' e' f' g') = absurd (n' s)
read_all_one_outcome (ReadAllSays.too_short s l e f g) (ReadAllSays.too_short s' l' e' f' g') = (cc, cc, cc)
read_all_one_outcome (ReadAllSays.too_short s l e f g) (ReadAllSays.done s' k' l' e' f' g') = absurd (room_or_none l k' l')
read_all_one_outcome (ReadAllSays.done s k l e f g) (ReadAllSays.damaged n' e' f' g') = absurd (n' s)
read_all_one_outcome (ReadAllSays.done s k l e f g) (ReadAllSays.too_short s' l' e' f' g') = absurd (room_or_none l' k l)
read_all_one_outcome (ReadAllSays.done s k l e f g) (ReadAllSays.done s' k' l' e' f' g') = (cc, cc, cc)

pub counts_one_outcome : {p : List ℕ} {a b : PoolCounts} → CountsSays p a → CountsSays p b → a ≡ b
counts_one_outcome (CountsSays.damaged n e) (CountsSays.damaged n' e') = cc
counts_one_outcome (CountsSays.damaged n e) (CountsSays.done s' e') = absurd (n s')
counts_one_outcome (CountsSays.done s e) (CountsSays.damaged n' e') = absurd (n' s)
counts_one_outcome (CountsSays.done s e) (CountsSays.done s' e') = cc

-- ---- where each list stands

-- of an accepted call, the starts and the entries
module _ (p s₀ e₀ s e : List ℕ) (k : tiles_of p < length s₀) (l : length (lists_in p) ≤ length e₀)
    (f : s ≡ written s₀ 0 (starts_in p)) (g : e ≡ written e₀ 0 (lists_in p)) where
  start_is : (t : ℕ) → t ≤ tiles_of p → get_or s t 0 ≡ length (lists_of (layout_of p) (tiles_of p) p t)
  start_is t h =
      let long = starts_long (layout_of p) (tiles_of p) p in
      ap (λ (x : List ℕ). get_or x t 0) f ∙ written_at s₀ (starts_in p) (omega (arith, long)) t (omega (arith, long)) ∙ start-at (layout_of p) (tiles_of p) p t h

  list_stands : (t : ℕ) → t < tiles_of p → Stands (list_in p t) s e t
  list_stands t h =
      let L = layout_of p in
      let T = tiles_of p in
      let list = list_in p t in
      let front = lists_of L T p t in
      let split = lists_split L T p (suc t) T (omega arith) in
      let past = drop (0 + length (lists_in p)) e₀ in
      let from = start_is t (omega arith) in
      let to : get_or s (suc t) 0 ≡ length front + length list = start_is (suc t) h ∙ length-append front list in
      let size : length list ≡ get_or s (suc t) 0 - get_or s t 0 = omega (arith, from, to) in
      let whole : e ≡ front ++ (list ++ (split.0 ++ past)) =
      g ∙ written_is e₀ 0 (lists_in p) (omega arith) ∙ ap (λ (x : List ℕ). x ++ past) split.1
      ∙ append_assoc (front ++ list) split.0 past ∙ append_assoc front list (split.0 ++ past) in
      record {
        order = omega (arith, from, to);
        list_is = ap (λ (x : List ℕ). take (get_or s (suc t) 0 - get_or s t 0) (drop (get_or s t 0) x)) whole
            ∙ ap (take (get_or s (suc t) 0 - get_or s t 0)) (drop_at front (list ++ (split.0 ++ past)) (get_or s t 0) (sym from))
            ∙ take_at list (split.0 ++ past) (get_or s (suc t) 0 - get_or s t 0) size;
      }

pub all_lists_stand : AllListsStand
all_lists_stand p s₀ e₀ a s e (ReadAllSays.damaged n r f g) z = absurd (omega (arith, number_of_lem r))
all_lists_stand p s₀ e₀ a s e (ReadAllSays.too_short S l r f g) z = absurd (omega (arith, number_of_lem r))
all_lists_stand p s₀ e₀ a s e (ReadAllSays.done S k l r f g) z =
    record {
      first = start_is p s₀ e₀ s e k l f g 0 (omega arith);
      last = start_is p s₀ e₀ s e k l f g (tiles_of p) (omega arith) ∙ sym (count_of r);
      each = list_stands p s₀ e₀ s e k l f g;
    }

-- ---- how many words to lend

pub entries_fit : EntriesFit
entries_fit p a (CountsSays.damaged n e) =
    subst (λ (b : PoolCounts). b.entries + (layout_of p).ids * b.free ≤ (layout_of p).ids * b.blocks) (sym e) (omega arith)
entries_fit p a (CountsSays.done S e) =
    subst (λ (b : PoolCounts). b.entries + (layout_of p).ids * b.free ≤ (layout_of p).ids * b.blocks) (sym e) (all_held S (known_sized (layout_known p)))

-- ---- single reads

pub agrees_with_reads : AgreesWithReads
agrees_with_reads p t e₀ a e (ReadListSays.damaged n r f) z place b R = absurd (omega (arith, number_of_lem r))
agrees_with_reads p t e₀ a e (ReadListSays.no_tile S h r f) z place b R = absurd (omega (arith, number_of_lem r))
agrees_with_reads p t e₀ a e (ReadListSays.too_short S h l r f) z place b R = absurd (omega (arith, number_of_lem r))
agrees_with_reads p t e₀ a e (ReadListSays.done S h l r f) z place b (ReadSays.damaged n c) = absurd (n S)
agrees_with_reads p t e₀ a e (ReadListSays.done S h l r f) z place b (ReadSays.no_tile S' h' c) = absurd (omega arith)
agrees_with_reads p t e₀ a e (ReadListSays.done S h l r f) z place b (ReadSays.past S' h' o c) = (λ i. absurd (omega (arith, count_of r)), λ _. c)
agrees_with_reads p t e₀ a e (ReadListSays.done S h l r f) z place b (ReadSays.done S' h' o c) = (
  λ _. c ∙ ap found_in (sym (ap (λ (x : List ℕ). get_or x place 0) f ∙ written_at e₀ (list_in p t) l place o)),
  λ i. absurd (omega (arith, count_of r)),
)

-- ---- pools with the same lists

-- both are sound or neither is, and then their lists agree
module _ (p q : List ℕ) (to : Sound (layout_of p) p → Sound (layout_of q) q) (back : Sound (layout_of q) q → Sound (layout_of p) p)
    (same-tiles : tiles_of q ≡ tiles_of p) (same : Sound (layout_of p) p → (t : ℕ) → t < tiles_of p → list_in q t ≡ list_in p t) where
  first_alike : Sound (layout_of p) p → (n : ℕ) → n ≤ tiles_of p → lists_of (layout_of q) (tiles_of q) q n ≡ lists_of (layout_of p) (tiles_of p) p n
  first_alike S zero h = refl
  first_alike S (suc t) h = ap₂ (λ (x y : List ℕ). x ++ y) (first_alike S t (omega arith)) (same S t h)

  lists_alike : Sound (layout_of p) p → lists_in q ≡ lists_in p
  lists_alike S = ap (lists_of (layout_of q) (tiles_of q) q) same-tiles ∙ first_alike S (tiles_of p) (omega arith)

  starts_alike : Sound (layout_of p) p → starts_in q ≡ starts_in p
  starts_alike S =
      ap (λ (n : ℕ). table (suc n) (λ t. length (lists_of (layout_of q) (tiles_of q) q t))) same-tiles
      ∙ table_same (suc (tiles_of p)) _ _ (λ t h. ap length (first_alike S t (omega arith)))

  -- an answer of the second is one of the first
  list_back : {t : ℕ} {e₀ : List ℕ} {b : Copied} {f : List ℕ} → ReadListSays q t e₀ b f → ReadListSays p t e₀ b f
  list_back (ReadListSays.damaged n r f) = ReadListSays.damaged (λ S. n (to S)) r f
  list_back (ReadListSays.no_tile S h r f) = ReadListSays.no_tile (back S) (omega arith) r f
  list_back {t} {e₀} (ReadListSays.too_short S h l r f) =
      let h' : t < tiles_of p = omega arith in
      ReadListSays.too_short (back S) h' (omega (arith, ap length (same (back S) t h'))) r f
  list_back {t} {e₀} (ReadListSays.done S h l r f) =
      let h' : t < tiles_of p = omega arith in
      let e = same (back S) t h' in
      ReadListSays.done (back S) h' (omega (arith, ap length e)) (r ∙ (λ i. record { number = 0; count = length (e i) })) (f ∙ ap (written e₀ 0) e)

  short_back : Sound (layout_of p) p → {m n : ℕ} → (m ≤ tiles_of q) ⊎ (n < length (lists_in q)) → (m ≤ tiles_of p) ⊎ (n < length (lists_in p))
  short_back S (inl h) = inl (omega arith)
  short_back S (inr h) = inr (omega (arith, ap length (lists_alike S)))

  all_back : {s₀ e₀ : List ℕ} {b : Copied} {u f : List ℕ} → ReadAllSays q s₀ e₀ b u f → ReadAllSays p s₀ e₀ b u f
  all_back (ReadAllSays.damaged n r f g) = ReadAllSays.damaged (λ S. n (to S)) r f g
  all_back (ReadAllSays.too_short S h r f g) = ReadAllSays.too_short (back S) (short_back (back S) h) r f g
  all_back {s₀} {e₀} (ReadAllSays.done S k l r f g) =
      let e = lists_alike (back S) in
      ReadAllSays.done (back S) (omega arith) (omega (arith, ap length e)) (r ∙ (λ i. record { number = 0; count = length (e i) }))
      (f ∙ ap (written s₀ 0) (starts_alike (back S))) (g ∙ ap (written e₀ 0) e)

  pub read_alike : (more : PoolCounts → PoolCounts) → ((a b : PoolCounts) → CountsSays p a → CountsSays q b → b ≡ more a) → ReadAlike more p q
  read_alike more counts = record {
    list = λ t e₀ a b e f A B. read_list_one_outcome A (list_back B);
    all = λ s₀ e₀ a b s e u f A B. read_all_one_outcome A (all_back B);
    counts = counts;
  }

  -- sound pools, the second with n blocks more, which are free
  pub counts_more : (n : ℕ) → blocks_of q ≡ blocks_of p + n → free_in q ≡ free_in p + n → Sound (layout_of p) p → (a b : PoolCounts)
      → CountsSays p a → CountsSays q b → b ≡ with_more n a
  counts_more n blocks free S a b (CountsSays.damaged bad e) c = absurd (bad S)
  counts_more n blocks free S a b (CountsSays.done _ e) (CountsSays.damaged bad e') = absurd (bad (to S))
  counts_more n blocks free S a b (CountsSays.done _ e) (CountsSays.done _ e') =
      e' ∙ (λ i. record { number = 0; tiles = same-tiles i; blocks = blocks i; free = free i; entries = length (lists_alike S i) }) ∙ sym (ap (with_more n) e)

  -- pools with as many
  pub counts_back : blocks_of q ≡ blocks_of p → free_in q ≡ free_in p → {b : PoolCounts} → CountsSays q b → CountsSays p b
  counts_back blocks free (CountsSays.damaged n e) = CountsSays.damaged (λ S. n (to S)) e
  counts_back blocks free (CountsSays.done S e) =
      CountsSays.done (back S)
      (e ∙ (λ i. record { number = 0; tiles = same-tiles i; blocks = blocks i; free = free i; entries = length (lists_alike (back S) i) }))

pub demand_3_frame : Demand3Frame
demand_3_frame L d N n p₁ p₂ O h₁ q₁ R₁ h₂ q₂ calls R₂ =
    let P₁ = fresh (accepted-opening O.first) in
    let P₂ = fresh (accepted-opening O.second) in
    let K₁ = run_stays p₁ h₁ q₁ P₁.sound R₁ in
    let K₂ = run_stays p₂ h₂ q₂ P₂.sound R₂ in
    let D = demand_3 L d N n p₁ p₂ O h₁ q₁ R₁ h₂ q₂ calls R₂ in
    let S₁ : Sound (layout_of q₁) q₁ = K₁.sound in
    let S₂ : Sound (layout_of q₂) q₂ = K₂.sound in
    let tiles₁ : tiles_of q₁ ≡ tiles d = ap tiles (K₁.screen ∙ P₁.screen) in
    let tiles₂ : tiles_of q₂ ≡ tiles d = ap tiles (K₂.screen ∙ P₂.screen) in
    let same-tiles = tiles₂ ∙ sym tiles₁ in
    let lists : Sound (layout_of q₁) q₁ → (t : ℕ) → t < tiles_of q₁ → list_in q₂ t ≡ list_in q₁ t
    = (λ _ t h. D.lists t (subst (λ (T : ℕ). t < T) tiles₁ h)) in
    let blocks : blocks_of q₂ ≡ blocks_of q₁ + n = omega (arith, K₁.blocks, P₁.blocks, K₂.blocks, P₂.blocks) in
    read_alike q₁ q₂ (λ _. S₂) (λ _. S₁) same-tiles lists (with_more n) (counts_more q₁ q₂ (λ _. S₂) (λ _. S₁) same-tiles lists n blocks D.free S₁)

-- ---- words past the room

pub past_the_room_frame : PastTheRoomFrame
past_the_room_frame p₁ p₂ R =
    let to : Sound (layout_of p₁) p₁ → Sound (layout_of p₂) p₂ = same_sound R in
    let back : Sound (layout_of p₂) p₂ → Sound (layout_of p₁) p₁ = same_sound (same_sym R) in
    read_alike p₁ p₂ to back (tiles_same R) (lists_same R) (λ a. a)
    (λ a b A B. sym (counts_one_outcome A (counts_back p₁ p₂ to back (tiles_same R) (lists_same R) (blocks_same R) (free_same R) B)))
