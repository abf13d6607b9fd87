-- One corner of the frame: where no edge separates and the box is met, a mean of the three lies in the quadrant that the corner opens.
-- A pair (p, p') of naturals stands for p − p', so that one proof serves the four corners.
use Prim.Native.Nat.{ℕ, ◌+◌, ◌*◌, ◌-◌, ◌<◌, ◌≤◌}
use mathlib.Core.Path.{◌≡◌, ap}
use native.Mathlib.Omega.{arith}
use native.Mathlib.Nat.{add-sub_of_le}
use native.Mathlib.Decide.{dec_le}
use Rattle.numbers.proofs.Product.{rearr}

-- ((b − b') − (a − a'))((d − d') − (c − c')) ≥ 0
rearr_signed : (a a' b b' c c' d d' : ℕ) → a + b' ≤ b + a' → c + d' ≤ d + c'
    → a * d + a * c' + b' * d + b' * c' + b * c + b * d' + a' * c + a' * d' ≤ a * c + a * d' + b' * c + b' * d' + b * d + b * c' + a' * d + a' * c'
rearr_signed a a' b b' c c' d d' h k = omega (arith, rearr _ _ _ _ h k)

-- a vertex, seen from the corner of the quadrant: it lies at (p − p', q − q')
pub record At : Type 0 where
  pub p : ℕ
  pub p' : ℕ
  pub q : ℕ
  pub q' : ℕ

-- some weighted mean lies in the quadrant p ≥ 0, q ≥ 0
pub record Hit (A B C : At) : Type 0 where
  pub u : ℕ
  pub v : ℕ
  pub w : ℕ
  pub some : 0 < u + v + w
  pub ps : u * A.p' + v * B.p' + w * C.p' ≤ u * A.p + v * B.p + w * C.p
  pub qs : u * A.q' + v * B.q' + w * C.q' ≤ u * A.q + v * B.q + w * C.q

-- the cross product of A and B is cross A B − cross B A
abbrev pub cross : At → At → ℕ
cross A B = A.p * B.q + A.p' * B.q' + B.p * A.q' + B.p' * A.q

-- the edge A–B, which falls, does not have the corner beyond it and C not
abbrev pub Clear : At → At → At → Type 0
Clear A B C =
    B.p + A.p' ≤ A.p + B.p' → A.q + B.q' ≤ B.q + A.q' → cross A B < cross B A
    → cross B A + cross C B + cross A C ≤ cross A B + cross B C + cross C A → ⊥

pair_p : (A B : At) (a e : ℕ) → A.p' + a ≡ A.p → B.p + e ≡ B.p' → e * A.p' + a * B.p' ≤ e * A.p + a * B.p
pair_p A B a e f g = omega (arith, ap (λ (z : ℕ). e * z) f, ap (λ (z : ℕ). a * z) g)

pair_q : (A B : At) (a e : ℕ) → A.p' + a ≡ A.p → B.p + e ≡ B.p' → cross B A ≤ cross A B → e * A.q' + a * B.q' ≤ e * A.q + a * B.q
pair_q A B a e f g h =
    omega (arith, ap (λ (z : ℕ). z * B.q) f, ap (λ (z : ℕ). z * B.q') f, ap (λ (z : ℕ). z * A.q) g, ap (λ (z : ℕ). z * A.q') g)

-- A lies to the right of the corner, B to the left, and the edge between them does not pass beyond the corner
hit_ab : (A B C : At) → A.p' ≤ A.p → B.p < B.p' → cross B A ≤ cross A B → Hit A B C
hit_ab A B C a b h =
    let f : A.p' + (A.p - A.p') ≡ A.p = add-sub_of_le a in
    let g : B.p + (B.p' - B.p) ≡ B.p' = add-sub_of_le (omega arith) in
    record {
      u = B.p' - B.p;
      v = A.p - A.p';
      w = 0;
      some = omega arith;
      ps = omega (arith, pair_p A B _ _ f g);
      qs = omega (arith, pair_q A B _ _ f g h);
    }

hit_swap₁ : {A B C : At} → Hit A C B → Hit A B C
hit_swap₁ h = record { u = h.u; v = h.w; w = h.v; some = omega arith; ps = omega arith; qs = omega arith }

hit_swap₂ : {A B C : At} → Hit C B A → Hit A B C
hit_swap₂ h = record { u = h.w; v = h.v; w = h.u; some = omega arith; ps = omega arith; qs = omega arith }

hit_swap₃ : {A B C : At} → Hit B A C → Hit A B C
hit_swap₃ h = record { u = h.v; v = h.u; w = h.w; some = omega arith; ps = omega arith; qs = omega arith }

hit_c : {A B C : At} → C.p' ≤ C.p → C.q' ≤ C.q → Hit A B C
hit_c h k = record { u = 0; v = 0; w = 1; some = omega arith; ps = omega arith; qs = omega arith }

-- C does not lie beyond A–B where it lies below A
no_turn : (A B C : At) → C.p + A.p' ≤ A.p + C.p' → A.q + B.q' ≤ B.q + A.q' → C.q + A.q' ≤ A.q + C.q' → B.p + A.p' ≤ A.p + B.p'
    → cross B A + cross C B + cross A C ≤ cross A B + cross B C + cross C A
no_turn A B C a b c d =
    omega (
      arith,
      rearr_signed C.p C.p' A.p A.p' A.q A.q' B.q B.q' a b,
      rearr_signed B.p B.p' A.p A.p' C.q C.q' A.q A.q' d c,
    )

-- A fails in q alone, B in p alone
quad : (A B C : At) → A.p' ≤ A.p → A.q < A.q' → B.p < B.p' → B.q' ≤ B.q
    → Clear A B C → Clear A C B → Clear C B A → Hit A B C
quad A B C ap aq bp bq ab ac cb = go (dec_le (cross B A) (cross A B))
  where
    beyond : cross A B + cross B C + cross C A < cross B A + cross C B + cross A C → cross A B < cross B A → Dec (C.p' ≤ C.p) → Hit A B C
    beyond d e (yes cp) = in_q (dec_le C.q' C.q) (dec_le (cross B C) (cross C B))
      where
        in_q : Dec (C.q' ≤ C.q) → Dec (cross B C ≤ cross C B) → Hit A B C
        in_q (yes k) f = hit_c cp k
        in_q (no k) (yes f) = hit_swap₂ (hit_ab C B A cp bp f)
        in_q (no k) (no f) = absurd (cb (omega arith) (omega arith) (omega arith) (omega arith))
    beyond d e (no cp) = in_q (dec_le (A.q + C.q') (C.q + A.q')) (dec_le (cross C A) (cross A C))
      where
        in_q : Dec (A.q + C.q' ≤ C.q + A.q') → Dec (cross C A ≤ cross A C) → Hit A B C
        in_q k (yes f) = hit_swap₁ (hit_ab A C B ap (omega arith) f)
        in_q (yes k) (no f) = absurd (ac (omega arith) k (omega arith) (omega arith))
        in_q (no k) (no f) =
            let n : cross B A + cross C B + cross A C ≤ cross A B + cross B C + cross C A
            = no_turn A B C (omega arith) (omega arith) (omega arith) (omega arith) in
            absurd (omega arith)

    turns : cross A B < cross B A → Dec (cross B A + cross C B + cross A C ≤ cross A B + cross B C + cross C A) → Hit A B C
    turns e (yes d) = absurd (ab (omega arith) (omega arith) e d)
    turns e (no d) = beyond (omega arith) e (dec_le C.p' C.p)

    go : Dec (cross B A ≤ cross A B) → Hit A B C
    go (yes e) = hit_ab A B C ap bp e
    go (no e) = turns (omega arith) (dec_le _ _)

-- every falling edge is clear, whichever vertex is the third
pub record AllClear (A B C : At) : Type 0 where
  pub ab : Clear A B C
  pub ba : Clear B A C
  pub bc : Clear B C A
  pub cb : Clear C B A
  pub ca : Clear C A B
  pub ac : Clear A C B

-- which of three
pub data Which (P Q R : Type 0) : Type 0 where
  one : P → Which P Q R
  two : Q → Which P Q R
  three : R → Which P Q R

-- A is right in p, and B in q
some_ab : (A B C : At) → Clear A B C → Clear A C B → Clear C B A → A.p' ≤ A.p → B.q' ≤ B.q → Hit A B C
some_ab A B C ab ac cb ap bq = go (dec_le A.q' A.q) (dec_le B.p' B.p)
  where
    go : Dec (A.q' ≤ A.q) → Dec (B.p' ≤ B.p) → Hit A B C
    go (yes aq) bp = hit_swap₂ (hit_c ap aq)
    go (no aq) (yes bp) = hit_swap₁ (hit_c bp bq)
    go (no aq) (no bp) = quad A B C ap (omega arith) (omega arith) bq ab ac cb

pub found : (A B C : At) → AllClear A B C → Which (A.p' ≤ A.p) (B.p' ≤ B.p) (C.p' ≤ C.p) → Which (A.q' ≤ A.q) (B.q' ≤ B.q) (C.q' ≤ C.q)
    → Hit A B C
found A B C k (one a) (one b) = hit_swap₂ (hit_c a b)
found A B C k (one a) (two b) = some_ab A B C k.ab k.ac k.cb a b
found A B C k (one a) (three b) = hit_swap₁ (some_ab A C B k.ac k.ab k.bc a b)
found A B C k (two a) (one b) = hit_swap₃ (some_ab B A C k.ba k.bc k.ca a b)
found A B C k (two a) (two b) = hit_swap₁ (hit_c a b)
found A B C k (two a) (three b) = hit_swap₃ (hit_swap₁ (some_ab B C A k.bc k.ba k.ac a b))
found A B C k (three a) (one b) = hit_swap₁ (hit_swap₃ (some_ab C A B k.ca k.cb k.ba a b))
found A B C k (three a) (two b) = hit_swap₂ (some_ab C B A k.cb k.ca k.ab a b)
found A B C k (three a) (three b) = hit_c a b
