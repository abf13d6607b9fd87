-- Chains that hold a list, as the words of blocks change. g b k, and h b k, is word k of block b.
use mathlib.Core.Path.{◌≡◌, refl, sym, ap, ap₂, ◌∙◌, subst}
use mathlib.Core.Logic.{◌≢◌, ◌⊎◌, inl, inr, ⊎_elim}
use mathlib.Core.List.{List, [], ◌∷◌, ◌++◌}
use Prim.Native.Nat.{ℕ, zero, suc, ◌+◌, ◌*◌, ◌≤◌, ◌<◌}
use native.Mathlib.Nat.{not-suc-le-zero, le_of_suc-le-suc}
use native.Mathlib.Omega.{arith}
use lib.ListN.{length, get_or, drop, length-drop}
use lib.Seq.{drop-append-le, drop_at, drop-nil, get_or-append_seam}
use lib.Dec.{eqb}
use Rattle.numbers.specs.Sum.{one}
use Rattle.numbers.proofs.Ceil.{eq_or_ne}
use Rattle.pool.specs.State.{link_to, last_link, times, Holds}
use Rattle.pool.proofs.Times.{one_same, one_other, times_head, times-tail}

-- block b has the same words
abbrev pub Same : (ids : ℕ) (g h : ℕ → ℕ → ℕ) (b : ℕ) → Type 0
Same ids g h b = (k : ℕ) → k ≤ ids → h b k ≡ g b k

-- ---- one more at the end of a list

-- what stands within a list does not go by the default
pub get_or_within : (l : List ℕ) (i d e : ℕ) → i < length l → get_or l i d ≡ get_or l i e
get_or_within [] i d e h = absurd (not-suc-le-zero h)
get_or_within (x ∷ l) zero d e h = refl
get_or_within (x ∷ l) (suc i) d e h = get_or_within l i d e (le_of_suc-le-suc h)

pub get_or_snoc_same : (list : List ℕ) (a d : ℕ) → get_or (list ++ (a ∷ [])) (length list) d ≡ a
get_or_snoc_same list a d = get_or-append_seam list a [] d

pub get_or_snoc_other : (list : List ℕ) (a d k : ℕ) → k ≢ length list → get_or (list ++ (a ∷ [])) k d ≡ get_or list k d
get_or_snoc_other [] a d zero ne = absurd (ne refl)
get_or_snoc_other [] a d (suc k) ne = refl
get_or_snoc_other (x ∷ list) a d zero ne = refl
get_or_snoc_other (x ∷ list) a d (suc k) ne = get_or_snoc_other list a d k (λ e. ne (ap suc e))

pub last_link_snoc : (d : ℕ) (bs : List ℕ) (l : ℕ) → last_link d (bs ++ (l ∷ [])) ≡ suc l
last_link_snoc d [] l = refl
last_link_snoc d (b ∷ bs) l = last_link_snoc (suc b) bs l

pub link_to_snoc : (bs : List ℕ) (l n : ℕ) → link_to ((bs ++ (l ∷ [])) ++ (n ∷ [])) ≡ link_to (bs ++ (l ∷ []))
link_to_snoc [] l n = refl
link_to_snoc (b ∷ bs) l n = refl

-- ---- the first and the last of a list that is not empty, and of a chain by its link

pub nil_of : {A : Type 0} (l : List A) → length l ≡ 0 → l ≡ []
nil_of [] e = refl
nil_of (x ∷ l) e = absurd (omega arith)

pub uncons : (l : List ℕ) → 0 < length l → (b : ℕ) × (bs : List ℕ) × (l ≡ b ∷ bs)
uncons [] h = absurd (not-suc-le-zero h)
uncons (b ∷ bs) h = (b, bs, refl)

pub unsnoc : (l : List ℕ) → 0 < length l → (bs : List ℕ) × (b : ℕ) × (l ≡ bs ++ (b ∷ []))
unsnoc [] h = absurd (not-suc-le-zero h)
unsnoc (b ∷ []) h = ([], b, refl)
unsnoc (b ∷ c ∷ bs) h = let r = unsnoc (c ∷ bs) (omega arith) in (b ∷ r.0, r.1, ap (λ (l : List ℕ). b ∷ l) r.2)

-- a chain that a link other than 0 leads to has a block
pub linked : (l : List ℕ) (b : ℕ) → link_to l ≡ suc b → (bs : List ℕ) × (l ≡ b ∷ bs)
linked [] b e = absurd (omega arith)
linked (c ∷ bs) b e = let z : c ≡ b = omega arith in (bs, ap (λ (x : ℕ). x ∷ bs) z)

-- the last link leads to a block of the chain
pub last_in : (l : List ℕ) (d b : ℕ) → suc b ≡ last_link d l → (0 < times b l) ⊎ (suc b ≡ d)
last_in [] d b e = inr e
last_in (c ∷ l) d b e =
    ⊎_elim (λ (i : 0 < times b l). inl (omega arith))
    (λ (z : suc b ≡ suc c).
    let z' : b ≡ c = omega arith in
    inl (omega (arith, ap (λ (y : ℕ). one (eqb b y)) (sym z'), one_same b)))
    (last_in l (suc c) b e)

module _ (ids poison : ℕ) (g h : ℕ → ℕ → ℕ) where
  -- a chain whose blocks keep their words
  pub frame : (bs list : List ℕ) → ((b : ℕ) → 0 < times b bs → Same ids g h b) → Holds ids poison g bs list → Holds ids poison h bs list
  frame [] list s r = tt
  frame (b ∷ bs) list s r =
      let same = s b (times_head b bs) in (
        same ids (omega arith) ∙ r.0,
        (λ k hk. same k (omega arith) ∙ r.1 k hk),
        frame bs (drop ids list) (λ c hc. s c (times-tail c b bs hc)) r.2,
      )

  -- one more id in the last block l, where it has room
  pub put_last : (bs : List ℕ) (l id : ℕ) (list : List ℕ) (k : ℕ) → length list ≡ ids * length bs + k → k < ids → times l bs ≡ 0
      → ((b : ℕ) → b ≢ l → Same ids g h b) → ((j : ℕ) → j ≢ k → j ≤ ids → h l j ≡ g l j) → h l k ≡ id
      → Holds ids poison g (bs ++ (l ∷ [])) list → Holds ids poison h (bs ++ (l ∷ [])) (list ++ (id ∷ []))
  put_last [] l id list k e hk z s w v r = (
    w ids (omega arith) (omega arith) ∙ r.0,
    (λ j hj. ⊎_elim (λ (q : j ≡ k). let q' : j ≡ length list = omega arith in cc (get_or_snoc_same list id poison))
        (λ (ne : j ≢ k). w j ne (omega arith) ∙ r.1 j hj ∙ sym (get_or_snoc_other list id poison j (omega arith)))
        (eq_or_ne j k)),
    tt,
  )
  put_last (c ∷ bs) l id list k e hk z s w v r =
      let ne : c ≢ l = (λ (q : c ≡ l). let z' : one (eqb l c) ≡ 1 = ap (λ (x : ℕ). one (eqb l x)) q ∙ one_same l in omega arith) in
      let lo : ids ≤ length list = omega arith in (
        s c ne ids (omega arith) ∙ r.0,
        (λ j hj. s c ne j (omega arith) ∙ r.1 j hj ∙ sym (get_or_snoc_other list id poison j (omega arith))),
        rw (drop-append-le ids list (id ∷ []) lo)
            (put_last bs l id (drop ids list) k (omega (arith, length-drop ids list)) hk (omega arith) s w v r.2),
      )

  -- a new block n with one id, after a chain that is full and whose last block is l
  pub put_new : (bs : List ℕ) (l n id : ℕ) (list : List ℕ) → 0 < ids → length list ≡ ids * suc (length bs) → times l bs ≡ 0
      → ((b : ℕ) → 0 < times b bs → Same ids g h b) → ((j : ℕ) → j < ids → h l j ≡ g l j) → h l ids ≡ suc n
      → Holds ids poison h (n ∷ []) (id ∷ [])
      → Holds ids poison g (bs ++ (l ∷ [])) list → Holds ids poison h ((bs ++ (l ∷ [])) ++ (n ∷ [])) (list ++ (id ∷ []))
  put_new [] l n id list pos e z s w v f r =
      let e' : length list ≡ ids = omega arith in (
        v,
        (λ j hj. w j hj ∙ r.1 j hj ∙ sym (get_or_snoc_other list id poison j (omega arith))),
        rw (drop_at list (id ∷ []) ids e') f,
      )
  put_new (c ∷ bs) l n id list pos e z s w v f r =
      let lo : ids ≤ length list = omega arith in
      let same = s c (times_head c bs) in (
        same ids (omega arith) ∙ r.0 ∙ sym (link_to_snoc bs l n),
        (λ j hj. same j (omega arith) ∙ r.1 j hj ∙ sym (get_or_snoc_other list id poison j (omega arith))),
        rw (drop-append-le ids list (id ∷ []) lo)
            (put_new bs l n id (drop ids list) pos (omega (arith, length-drop ids list)) (omega arith) (λ b hb. s b (times-tail b c bs hb)) w v f r.2),
      )

  -- two pools that hold the same in the same blocks have the same words there
  pub holds_same : (bs list : List ℕ) (b : ℕ) → 0 < times b bs → Holds ids poison g bs list → Holds ids poison h bs list → Same ids g h b
  holds_same [] list b i r q k hk = absurd (not-suc-le-zero i)
  holds_same (c ∷ bs) list b i r q k hk =
      ⊎_elim
      (λ (e : b ≡ c).
      rw e (⊎_elim (λ (z : k ≡ ids). rw z (q.0 ∙ sym r.0)) (λ (z : k ≢ ids). q.1 k (omega arith) ∙ sym (r.1 k (omega arith))) (eq_or_ne k ids)))
      (λ (ne : b ≢ c). holds_same bs (drop ids list) b (omega (arith, one_other b c ne)) r.2 q.2 k hk)
      (eq_or_ne b c)

module _ (ids poison : ℕ) (g : ℕ → ℕ → ℕ) where
  -- a block of a chain that holds nothing has poison in each place
  pub holds_nothing : (bs : List ℕ) (b : ℕ) → 0 < times b bs → Holds ids poison g bs [] → (k : ℕ) → k < ids → g b k ≡ poison
  holds_nothing [] b h r k hk = absurd (not-suc-le-zero h)
  holds_nothing (c ∷ bs) b h r k hk =
      ⊎_elim (λ (e : b ≡ c). rw e (r.1 k hk))
      (λ (ne : b ≢ c). holds_nothing bs b (omega (arith, one_other b c ne)) (rw (drop-nil ids) at r.2) k hk)
      (eq_or_ne b c)

  -- the words settle the blocks of a chain
  pub blocks_unique : (bs cs list list' : List ℕ) → link_to bs ≡ link_to cs → Holds ids poison g bs list → Holds ids poison g cs list' → bs ≡ cs
  blocks_unique [] [] list list' e r q = refl
  blocks_unique [] (c ∷ cs) list list' e r q = absurd (omega arith)
  blocks_unique (b ∷ bs) [] list list' e r q = absurd (omega arith)
  blocks_unique (b ∷ bs) (c ∷ cs) list list' e r q =
      let eb : b ≡ c = omega arith in
      let q' : Holds ids poison g (b ∷ cs) list' = subst (λ (x : ℕ). Holds ids poison g (x ∷ cs) list') (sym eb) q in
      ap₂ (λ (x : ℕ) (xs : List ℕ). x ∷ xs) eb
      (blocks_unique bs cs (drop ids list) (drop ids list') (sym r.0 ∙ q'.0) r.2 q'.2)
