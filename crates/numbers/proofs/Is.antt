-- The laws of `Is`: it is closed under the signed operations and casts, with a size that is computed, so that each operation fits is `is_fits tt`, and a result is its integer by `.same`.
use mathlib.Core.Path.{◌≡◌, refl, sym, ap, subst, ◌∙◌}
use mathlib.Core.Bool.{Bool, true, false, not, cond}
use Prim.Native.Nat.{ℕ, zero, suc, ◌+◌, ◌*◌, ◌-◌, ◌<◌, ◌≤◌, ◌^◌, max}
use native.Mathlib.Nat.{mul-le-mul}
use native.Mathlib.Omega.{arith}
use lib.Dec.{T, ltb, ltb→lt, lt→ltb, leb→le, nleb→lt}
use lib.IntN.{ℤ, pos, negsuc, neg_ℤ, nat_abs, ◌+ℤ◌, ◌-ℤ◌, ◌*ℤ◌}
use lib.Signed.{mag, lt_z, le_z, ◌≤ℤ◌, ◌<ℤ◌, non_neg, lt_z_no, yes_non_neg}
use mir.Syntax.{Width}
use mir.Val.{Fits, SFits, bits, hbits}
use mir.Facts.{to_z-of_z}
use Rattle.numbers.specs.Diff.{up}
use Rattle.numbers.specs.Is.{Is, kept}
use Rattle.numbers.proofs.Diff.{up_abs, abs_up}

-- ---- sizes

abs_neg : (z : ℤ) → nat_abs (neg_ℤ z) ≡ nat_abs z
abs_neg (pos zero) = refl
abs_neg (pos (suc n)) = refl
abs_neg (negsuc n) = refl

abs_case : (t : Bool) (a b : ℕ) → ltb a b ≡ t → nat_abs (cond t (negsuc (b - suc a)) (pos (a - b))) ≤ a + b
abs_case true a b e = let h : a < b = ltb→lt a b (subst T (sym e) tt) in omega arith
abs_case false a b e = omega arith

abs_add : (x y : ℤ) → nat_abs (x +ℤ y) ≤ nat_abs x + nat_abs y
abs_add (pos a) (pos b) = omega arith
abs_add (pos a) (negsuc b) = abs_case (ltb a (suc b)) a (suc b) refl
abs_add (negsuc a) (pos b) = omega (arith, abs_case (ltb b (suc a)) b (suc a) refl)
abs_add (negsuc a) (negsuc b) = omega arith

abs_mul : (x y : ℤ) → nat_abs (x *ℤ y) ≡ nat_abs x * nat_abs y
abs_mul (pos a) (pos b) = refl
abs_mul (pos a) (negsuc b) = abs_neg (pos (a * suc b))
abs_mul (negsuc a) (pos b) = abs_neg (pos (suc a * b))
abs_mul (negsuc a) (negsuc b) = refl

mag_abs : (z : ℤ) → mag z ≤ nat_abs z
mag_abs (pos n) = omega arith
mag_abs (negsuc n) = omega arith

-- ---- machine values

-- between −(k + 1) and m
in_range : (k m : ℕ) (z : ℤ) → T (le_z (negsuc k) z) → T (le_z z (pos m)) → nat_abs z ≤ max (suc k) m
in_range k m (pos n) s t = omega (arith, leb→le n m t)
in_range k m (negsuc n) s t = omega (arith, leb→le n k s)

pub is_range : (k m : ℕ) {z : ℤ} → negsuc k ≤ℤ z → z ≤ℤ pos m → Is z z (max (suc k) m)
is_range k m {z} l h = record { same = refl; size = in_range k m z l.le h.le }

-- itself, at whatever size: for the tests below
pub is_self : (z : ℤ) → Is z z (nat_abs z)
is_self z = record { same = refl; size = omega arith }

pub is_lit : (n : ℕ) → Is (pos n) (pos n) n
is_lit n = record { same = refl; size = omega arith }

-- a natural below a bound, as an unsigned number is cast to a signed type
pub is_pos : {n M : ℕ} → n ≤ M → Is (pos n) (pos n) M
is_pos h = record { same = refl; size = h }

pub is_add : {v z u y : ℤ} {M N : ℕ} → Is v z M → Is u y N → Is (v +ℤ u) (z +ℤ y) (M + N)
is_add {v} {z} {u} {y} p q =
    record { same = (λ i. p.same i +ℤ q.same i); size = let k = p.size in let l = q.size in omega (arith, abs_add z y) }

pub is_neg : {v z : ℤ} {M : ℕ} → Is v z M → Is (neg_ℤ v) (neg_ℤ z) M
is_neg {v} {z} p = record { same = ap neg_ℤ p.same; size = let k = p.size in omega (arith, abs_neg z) }

pub is_sub : {v z u y : ℤ} {M N : ℕ} → Is v z M → Is u y N → Is (v -ℤ u) (z -ℤ y) (M + N)
is_sub p q = is_add p (is_neg q)

pub is_mul : {v z u y : ℤ} {M N : ℕ} → Is v z M → Is u y N → Is (v *ℤ u) (z *ℤ y) (M * N)
is_mul {v} {z} {u} {y} p q =
    record { same = (λ i. p.same i *ℤ q.same i); size = omega (arith, abs_mul z y, mul-le-mul p.size q.size) }

-- a number that fits, and what is read back from its bits
abs_fits : (w : Width) {z : ℤ} {M : ℕ} → T (ltb M (2 ^ hbits w)) → nat_abs z ≤ M → SFits w z
abs_fits w {z} {M} t h = record { sfits = let k = ltb→lt M (2 ^ hbits w) t in omega (arith, mag_abs z) }

pub is_fits : {w : Width} {v z : ℤ} {M : ℕ} → T (ltb M (2 ^ hbits w)) → Is v z M → SFits w v
is_fits {w} {v} {z} t p = subst (SFits w) (sym p.same) (abs_fits w t p.size)

pub is_kept : (w : Width) {v z : ℤ} {M : ℕ} → T (ltb M (2 ^ hbits w)) → Is v z M → Is (kept w v) z M
is_kept w t p = record { same = to_z-of_z {w = w} (is_fits t p) ∙ p.same; size = p.size }

-- ---- a value that is known to fit and no more: a parameter (`c.fits.x`), a call's result (`c.f.ok`, `c.f.ensures`)

abs_mag : (z : ℤ) {H : ℕ} → mag z < H → nat_abs z ≤ H
abs_mag (pos n) h = omega arith
abs_mag (negsuc n) h = omega arith

pub is_arg : (w : Width) {z : ℤ} → SFits w z → Is (kept w z) z (2 ^ hbits w)
is_arg w {z} f = record { same = to_z-of_z {w = w} f; size = abs_mag z f.sfits }

-- a field of a struct is read back as it is
pub kept_is : (w : Width) (z : ℤ) → mag z < 2 ^ hbits w → kept w z ≡ z
kept_is w z h = to_z-of_z {w = w} (record { sfits = h })

pub is_call : (w : Width) {r z : ℤ} → mag r < 2 ^ hbits w → r ≡ z → Is (kept w r) z (2 ^ hbits w)
is_call w {r} {z} h e = record { same = kept_is w r h ∙ e; size = abs_mag z (subst (λ (y : ℤ). mag y < 2 ^ hbits w) e h) }

-- ---- what a signed test tells

holds : {t : Bool} → t ≡ true → T t
holds e = subst T (sym e) tt

fails : {t : Bool} → t ≡ false → T (not t)
fails e = subst (λ (t : Bool). T (not t)) (sym e) tt

nle : (a b : ℤ) → T (not (le_z a b)) → T (lt_z b a)
nle (pos a) (pos b) t = lt→ltb b a (nleb→lt a b t)
nle (pos a) (negsuc b) t = tt
nle (negsuc a) (pos b) t = t
nle (negsuc a) (negsuc b) t = lt→ltb a b (nleb→lt b a t)

module _ {v z u y : ℤ} {M N : ℕ} (p : Is v z M) (q : Is u y N) where
  pub lt_taken : lt_z v u ≡ true → z <ℤ y
  lt_taken e = record { lt = holds ((λ i. lt_z (sym p.same i) (sym q.same i)) ∙ e) }

  pub lt_left : lt_z v u ≡ false → y ≤ℤ z
  lt_left e = lt_z_no (fails ((λ i. lt_z (sym p.same i) (sym q.same i)) ∙ e))

  pub le_taken : le_z v u ≡ true → z ≤ℤ y
  le_taken e = record { le = holds ((λ i. le_z (sym p.same i) (sym q.same i)) ∙ e) }

  pub le_left : le_z v u ≡ false → y <ℤ z
  le_left e = record { lt = nle z y (fails ((λ i. le_z (sym p.same i) (sym q.same i)) ∙ e)) }

-- ---- a cast to an unsigned type, of a number that is not negative

pub is_cast : (w : Width) {v z : ℤ} {M : ℕ} → T (ltb M (2 ^ bits w)) → Is v z M → pos 0 ≤ℤ z → T (non_neg v) × Fits w (nat_abs v)
is_cast w {v} {z} {M} t p h =
    subst (λ (y : ℤ). T (non_neg y) × Fits w (nat_abs y)) (sym p.same)
    (yes_non_neg h, record { fits = let k = ltb→lt M (2 ^ bits w) t in let l = p.size in omega arith })

pub is_nat : {v z : ℤ} {M : ℕ} → Is v z M → pos 0 ≤ℤ z → nat_abs v ≡ up z
is_nat {v} {z} p h = ap nat_abs p.same ∙ abs_up z h

pub is_up : {v z : ℤ} {M : ℕ} → Is v z M → up z ≤ M
is_up {v} {z} p = let k = p.size in omega (arith, up_abs z)
