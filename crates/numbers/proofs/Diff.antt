-- The laws of `Diff`: it is closed under the ring's operations, and an order or an equation of integers is one of sums of naturals, which `omega` proves.
use mathlib.Core.Path.{◌≡◌, refl, sym, ap, subst}
use mathlib.Core.Bool.{Bool, true, false, not, cond}
use mathlib.Core.Logic.{◌⊎◌, inl, inr, ⊎_elim}
use Prim.Native.Nat.{ℕ, zero, suc, ◌+◌, ◌*◌, ◌-◌, ◌<◌, ◌≤◌}
use native.Mathlib.Nat.{mul-le-mul_left}
use native.Mathlib.Omega.{arith}
use lib.Dec.{T, ltb, ltb→lt, nltb→le, leb→le, lt→ltb, le→leb}
use lib.IntN.{ℤ, pos, negsuc, neg_ℤ, suc_ℤ, nat_abs, sub_ℕ, ◌+ℤ◌, ◌-ℤ◌, ◌*ℤ◌, +ℤ_one}
use lib.Signed.{lt_z, le_z, ◌≤ℤ◌, ◌<ℤ◌}
use Rattle.numbers.specs.Diff.{DiffT, Diff, up}
use Rattle.numbers.proofs.Ceil.{lt_or_ge}

-- ---- the same integer by another pair

same : (z : ℤ) (a b c d : ℕ) → DiffT z a b → a + d ≡ c + b → DiffT z c d
same (pos n) a b c d e h = omega arith
same (negsuc n) a b c d e h = omega arith

pub diff_same : {z : ℤ} {a b c d : ℕ} → Diff z a b → a + d ≡ c + b → Diff z c d
diff_same {z} {a} {b} {c} {d} p h = record { is = same z a b c d p.is h }

-- ---- literals, and the operations

pub diff_pos : (n : ℕ) → Diff (pos n) n 0
diff_pos n = record { is = omega arith }

neg : (z : ℤ) (a b : ℕ) → DiffT z a b → DiffT (neg_ℤ z) b a
neg (pos zero) a b e = omega arith
neg (pos (suc n)) a b e = omega arith
neg (negsuc n) a b e = omega arith

pub diff_neg : {z : ℤ} {a b : ℕ} → Diff z a b → Diff (neg_ℤ z) b a
diff_neg {z} {a} {b} p = record { is = neg z a b p.is }

sub_case : (t : Bool) (a b : ℕ) → ltb a b ≡ t → DiffT (cond t (negsuc (b - suc a)) (pos (a - b))) a b
sub_case true a b e = let h : a < b = ltb→lt a b (subst T (sym e) tt) in omega arith
sub_case false a b e = let h : b ≤ a = nltb→le a b (subst (λ (t : Bool). T (not t)) (sym e) tt) in omega arith

sub_is : (a b : ℕ) → DiffT (sub_ℕ a b) a b
sub_is a b = sub_case (ltb a b) a b refl

add : (x y : ℤ) (a b c d : ℕ) → DiffT x a b → DiffT y c d → DiffT (x +ℤ y) (a + c) (b + d)
add (pos n) (pos m) a b c d p q = omega arith
add (pos n) (negsuc m) a b c d p q = same (sub_ℕ n (suc m)) n (suc m) (a + c) (b + d) (sub_is n (suc m)) (omega arith)
add (negsuc n) (pos m) a b c d p q = same (sub_ℕ m (suc n)) m (suc n) (a + c) (b + d) (sub_is m (suc n)) (omega arith)
add (negsuc n) (negsuc m) a b c d p q = omega arith

pub diff_add : {x y : ℤ} {a b c d : ℕ} → Diff x a b → Diff y c d → Diff (x +ℤ y) (a + c) (b + d)
diff_add {x} {y} {a} {b} {c} {d} p q = record { is = add x y a b c d p.is q.is }

pub diff_sub : {x y : ℤ} {a b c d : ℕ} → Diff x a b → Diff y c d → Diff (x -ℤ y) (a + d) (b + c)
diff_sub p q = diff_add p (diff_neg q)

mul : (x y : ℤ) (a b c d : ℕ) → DiffT x a b → DiffT y c d → DiffT (x *ℤ y) (a * c + b * d) (a * d + b * c)
mul (pos n) (pos m) a b c d p q = rw (p, q) (omega arith)
mul (pos n) (negsuc m) a b c d p q =
    neg (pos (n * suc m)) (a * d + b * c) (a * c + b * d) (rw (p, ← q) (omega arith))
mul (negsuc n) (pos m) a b c d p q =
    neg (pos (suc n * m)) (a * d + b * c) (a * c + b * d) (rw (← p, q) (omega arith))
mul (negsuc n) (negsuc m) a b c d p q = rw (← p, ← q) (omega arith)

pub diff_mul : {x y : ℤ} {a b c d : ℕ} → Diff x a b → Diff y c d → Diff (x *ℤ y) (a * c + b * d) (a * d + b * c)
diff_mul {x} {y} {a} {b} {c} {d} p q = record { is = mul x y a b c d p.is q.is }

-- ---- equations

eq : (x y : ℤ) (a b c d : ℕ) → DiffT x a b → DiffT y c d → a + d ≡ c + b → x ≡ y
eq (pos n) (pos m) a b c d p q h = ap pos (omega arith)
eq (pos n) (negsuc m) a b c d p q h = absurd (omega arith)
eq (negsuc n) (pos m) a b c d p q h = absurd (omega arith)
eq (negsuc n) (negsuc m) a b c d p q h = ap negsuc (omega arith)

pub diff_eq : {x y : ℤ} {a b c d : ℕ} → Diff x a b → Diff y c d → a + d ≡ c + b → x ≡ y
diff_eq {x} {y} {a} {b} {c} {d} p q h = eq x y a b c d p.is q.is h

uneq : (x : ℤ) (a b c d : ℕ) → DiffT x a b → DiffT x c d → a + d ≡ c + b
uneq (pos n) a b c d p q = omega arith
uneq (negsuc n) a b c d p q = omega arith

pub eq_diff : {x y : ℤ} {a b c d : ℕ} → Diff x a b → Diff y c d → x ≡ y → a + d ≡ c + b
eq_diff {x} {y} {a} {b} {c} {d} p q e = uneq y a b c d (subst (λ (z : ℤ). DiffT z a b) e p.is) q.is

-- ---- orders, both ways

le : (x y : ℤ) (a b c d : ℕ) → DiffT x a b → DiffT y c d → a + d ≤ c + b → T (le_z x y)
le (pos n) (pos m) a b c d p q h = le→leb n m (omega arith)
le (pos n) (negsuc m) a b c d p q h = omega arith
le (negsuc n) (pos m) a b c d p q h = tt
le (negsuc n) (negsuc m) a b c d p q h = le→leb m n (omega arith)

pub diff_le : {x y : ℤ} {a b c d : ℕ} → Diff x a b → Diff y c d → a + d ≤ c + b → x ≤ℤ y
diff_le {x} {y} {a} {b} {c} {d} p q h = record { le = le x y a b c d p.is q.is h }

unle : (x y : ℤ) (a b c d : ℕ) → DiffT x a b → DiffT y c d → T (le_z x y) → a + d ≤ c + b
unle (pos n) (pos m) a b c d p q t = omega (arith, leb→le n m t)
unle (pos n) (negsuc m) a b c d p q t = absurd t
unle (negsuc n) (pos m) a b c d p q t = omega arith
unle (negsuc n) (negsuc m) a b c d p q t = omega (arith, leb→le m n t)

pub le_diff : {x y : ℤ} {a b c d : ℕ} → Diff x a b → Diff y c d → x ≤ℤ y → a + d ≤ c + b
le_diff {x} {y} {a} {b} {c} {d} p q h = unle x y a b c d p.is q.is h.le

lt : (x y : ℤ) (a b c d : ℕ) → DiffT x a b → DiffT y c d → a + d < c + b → T (lt_z x y)
lt (pos n) (pos m) a b c d p q h = lt→ltb n m (omega arith)
lt (pos n) (negsuc m) a b c d p q h = omega arith
lt (negsuc n) (pos m) a b c d p q h = tt
lt (negsuc n) (negsuc m) a b c d p q h = lt→ltb m n (omega arith)

pub diff_lt : {x y : ℤ} {a b c d : ℕ} → Diff x a b → Diff y c d → a + d < c + b → x <ℤ y
diff_lt {x} {y} {a} {b} {c} {d} p q h = record { lt = lt x y a b c d p.is q.is h }

unlt : (x y : ℤ) (a b c d : ℕ) → DiffT x a b → DiffT y c d → T (lt_z x y) → a + d < c + b
unlt (pos n) (pos m) a b c d p q t = omega (arith, ltb→lt n m t)
unlt (pos n) (negsuc m) a b c d p q t = absurd t
unlt (negsuc n) (pos m) a b c d p q t = omega arith
unlt (negsuc n) (negsuc m) a b c d p q t = omega (arith, ltb→lt m n t)

pub lt_diff : {x y : ℤ} {a b c d : ℕ} → Diff x a b → Diff y c d → x <ℤ y → a + d < c + b
lt_diff {x} {y} {a} {b} {c} {d} p q h = unlt x y a b c d p.is q.is h.lt

-- ---- the positive part: an integer, and 0 where it is negative. An order against a natural is one of naturals

pub up_le : (z : ℤ) {n : ℕ} → z ≤ℤ pos n → up z ≤ n
up_le (pos m) {n} h = leb→le m n h.le
up_le (negsuc m) h = omega arith

pub le_up : (z : ℤ) {n : ℕ} → up z ≤ n → z ≤ℤ pos n
le_up (pos m) {n} h = record { le = le→leb m n h }
le_up (negsuc m) h = record { le = tt }

suc_up : (z : ℤ) {n : ℕ} → T (le_z (pos n) z) → n < up (suc_ℤ z)
suc_up (pos m) {n} t = omega (arith, leb→le n m t)
suc_up (negsuc m) t = absurd t

up_suc : (z : ℤ) {n : ℕ} → n < up (suc_ℤ z) → T (le_z (pos n) z)
up_suc (pos m) {n} h = le→leb n m (omega arith)
up_suc (negsuc zero) h = omega arith
up_suc (negsuc (suc m)) h = omega arith

pub lt_up : (z : ℤ) {n : ℕ} → pos n ≤ℤ z → n < up (z +ℤ pos 1)
lt_up z {n} h = subst (λ (y : ℤ). n < up y) (sym (+ℤ_one z)) (suc_up z h.le)

pub up_lt : (z : ℤ) {n : ℕ} → n < up (z +ℤ pos 1) → pos n ≤ℤ z
up_lt z {n} h = record { le = up_suc z (subst (λ (y : ℤ). n < up y) (+ℤ_one z) h) }

pub up_abs : (z : ℤ) → up z ≤ nat_abs z
up_abs (pos n) = omega arith
up_abs (negsuc n) = omega arith

pub abs_up : (z : ℤ) → pos 0 ≤ℤ z → nat_abs z ≡ up z
abs_up (pos n) h = refl
abs_up (negsuc n) h = absurd h.le

pub up_neg : (z : ℤ) → z <ℤ pos 0 → up z ≡ 0
up_neg (pos n) h = let k = ltb→lt n 0 h.lt in omega arith
up_neg (negsuc n) h = refl

-- ---- any integer, by its positive parts; so orders of integers chain as those of naturals do

pub diff_any : (z : ℤ) → Diff z (up z) (up (neg_ℤ z))
diff_any (pos zero) = record { is = refl }
diff_any (pos (suc n)) = record { is = omega arith }
diff_any (negsuc n) = record { is = omega arith }

pub ≤ℤ_trans : {x y z : ℤ} → x ≤ℤ y → y ≤ℤ z → x ≤ℤ z
≤ℤ_trans {x} {y} {z} h k =
    let p = le_diff (diff_any x) (diff_any y) h in
    let q = le_diff (diff_any y) (diff_any z) k in
    diff_le (diff_any x) (diff_any z) (omega arith)

pub <ℤ-≤ℤ : {x y : ℤ} → x <ℤ y → x ≤ℤ y
<ℤ-≤ℤ {x} {y} h = let p = lt_diff (diff_any x) (diff_any y) h in diff_le (diff_any x) (diff_any y) (omega arith)

pub ≤ℤ_or-< : (x y : ℤ) → (x ≤ℤ y) ⊎ (y <ℤ x)
≤ℤ_or-< x y =
    ⊎_elim
    (λ h. inr (diff_lt (diff_any y) (diff_any x) h))
    (λ h. inl (diff_le (diff_any x) (diff_any y) h))
    (lt_or_ge (up y + up (neg_ℤ x)) (up x + up (neg_ℤ y)))

pub times_rises : (n : ℕ) {x y : ℤ} → x ≤ℤ y → (pos n *ℤ x) ≤ℤ (pos n *ℤ y)
times_rises n {x} {y} h =
    let p = le_diff (diff_any x) (diff_any y) h in
    diff_le (diff_mul (diff_pos n) (diff_any x)) (diff_mul (diff_pos n) (diff_any y)) (omega (arith, mul-le-mul_left n p))
