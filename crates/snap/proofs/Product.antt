-- Sixteen times an f32: the product is exact wherever it is finite, subnormals included, and otherwise an infinity. So the unit of a finite coordinate
-- is its product, rounded. Nothing here depends on how the product is rounded.
use mathlib.Core.Path.{◌≡◌, refl, sym, ap, ◌∙◌, subst}
use Prim.Native.Nat.{ℕ, zero, suc, ◌+◌, ◌-◌, ◌*◌, ◌/◌, ◌%◌, ◌^◌, ◌≤◌, ◌<◌, compare}
use native.Mathlib.Nat.{le_trans, le_of_eq, lt_of_lt_of_le, lt_of_not-le, not-le_of_lt, le_of_suc-le-suc, mul-one, one-mul, mul_comm, mul_assoc, mul_right_comm, mul-pos, mul-le-mul_right, mul-lt-mul_of_pos_right, lt_of_mul-lt-mul_right, le-div_iff_mul-le, eq_of_mul-eq-mul_right}
use native.Mathlib.Omega.{arith}
use mathlib.Core.Bool.{Bool, true, false, cond, not, ◌&&◌}
use borrow.Author.Tests.{le-ltb, ltb-true, ltb-false}
use lib.Dec.{T, ltb, leb, eqb, lit≤, lit<, ltb→lt, leb→le, eqb→eq}
use lib.Pow.{pow-add, pow_pos, pow_mono, pow-lt}
use lib.IntN.{ℤ, pos, negsuc}
use lib.Ieee.{Float, nan, inf, fin, binary32, unlike, up, down, fits, size, units, round, odd, mul, nearest, is_nan}
use lib.Ieee.Digits.{size-lt, size_reaches}
use lib.Ieee.Fits.{down_pos, and_l, and_r, round_is}
use lib.Ieee.Exact.{HasValue, round_exact}
use lib.Ieee.Nearest.{closest, closest_same, nearest-ge}
use lib.Ieee.Scale.{finite}
use Rattle.snap.specs.Scaled.{Scaled}
use Rattle.snap.specs.Unit.{signed, accept, unit_of, rounded_of}
use Rattle.snap.proofs.Sizes.{closest_at_least}
use Rattle.snap.proofs.Unit.{large_is_refused}

-- ---- 2 ^ 128 or more rounds to an infinity

reaches : (z : ℕ) → 278 ≤ z → 277 ≤ 23 + (z - 24)
reaches z h = omega arith

one_less : (z : ℕ) → 278 ≤ z → 23 + (z - 24) < z
one_less z h = omega arith

overflows : (s : Bool) (num den : ℕ) → 0 < den → 2 ^ 128 * den ≤ num → round binary32 s num den ≡ inf s
unfolding units
overflows s num den D h =
    let n = num * 2 ^ 149 in
    let w = n / den in
    let z = size w in
    let k = z - 24 in
    let u = den * 2 ^ k in
    let q = nearest (n / u) (compare (n % u * 2) u) in
    let a : 2 ^ 277 ≤ w = (le-div_iff_mul-le D).1 (le_trans (le_of_eq (mul_right_comm (2 ^ 128) (2 ^ 149) den)) (mul-le-mul_right (2 ^ 149) h)) in
    let b : 278 ≤ z = lt_of_not-le (λ (g : z ≤ 277). not-le_of_lt (lt_of_lt_of_le (size-lt w) (pow_mono g)) a) in
    let c : 2 ^ 23 * 2 ^ k ≤ w = le_trans (le_of_eq (sym (pow-add 2 23 k))) (size_reaches w (23 + k) (one_less z b)) in
    let d : 2 ^ 23 ≤ n / u =
    (le-div_iff_mul-le (mul-pos D (pow_pos k))).1
    (le_trans (le_of_eq (ap (λ (x : ℕ). 2 ^ 23 * x) (mul_comm den (2 ^ k)) ∙ sym (mul_assoc (2 ^ 23) (2 ^ k) den))) ((le-div_iff_mul-le D).0 c)) in
    let e : 2 ^ 277 ≤ q * 2 ^ k =
    le_trans (pow_mono (reaches z b)) (le_trans (le_of_eq (pow-add 2 23 k)) (mul-le-mul_right (2 ^ k) (le_trans d (nearest-ge (n / u) (compare (n % u * 2) u))))) in
    round_is binary32 s num den ∙ ap (λ (t : Bool). cond t (odd 25 s q k 149) (inf s)) (le-ltb (q * 2 ^ k) (2 ^ 277) e)

-- ---- what `fits` says of an f32 ±m * 2 ^ e: m has 24 digits at most, and e is not below -149

digits_few : (s : Bool) (m : ℕ) (e : ℤ) → T (fits binary32 (fin s m e)) → m < 2 ^ 24
unfolding fits
digits_few s zero e t = lit< tt
digits_few s (suc m) e t =
    let a = eqb (suc m % 2) 1 in
    let b = ltb (suc m) (2 ^ 24) in
    let c = leb (down e) (2 ^ 149) in
    let d = ltb (suc m * up e) (2 ^ 128 * down e) in
    ltb→lt (suc m) (2 ^ 24) (and_r a b (and_l (a && b) c (and_l (a && b && c) d t)))

not_too_fine : (s : Bool) (m : ℕ) (e : ℤ) → T (fits binary32 (fin s m e)) → down e ≤ 2 ^ 149
unfolding fits
not_too_fine s zero (pos k) t = lit≤ tt
not_too_fine s zero (negsuc k) t = le_trans (le_of_eq (sym (one-mul (2 ^ suc k)) ∙ eqb→eq (1 * 2 ^ suc k) 1 t)) (lit≤ tt)
not_too_fine s (suc m) e t =
    let a = eqb (suc m % 2) 1 in
    let b = ltb (suc m) (2 ^ 24) in
    let c = leb (down e) (2 ^ 149) in
    let d = ltb (suc m * up e) (2 ^ 128 * down e) in
    leb→le (down e) (2 ^ 149) (and_r (a && b) c (and_l (a && b && c) d t))

-- ---- below 2 ^ 128 the product is the same m with a greater exponent

-- the product is m * 2 ^ power e of the smallest f32
abbrev power : ℤ → ℕ
power (pos k) = k + 153
power (negsuc k) = 153 - suc k

in_smallest : (m : ℕ) (e : ℤ) → down e ≤ 2 ^ 149 → m * up e * (1 * 2 ^ 4) * 2 ^ 149 ≡ m * 2 ^ power e * (down e * 1)
in_smallest m (pos k) h = rw pow-add (simp (mul-one, mul_assoc))
in_smallest m (negsuc k) h =
    let j : suc k ≤ 149 = le_of_suc-le-suc (lt_of_not-le (λ (g : 150 ≤ suc k). not-le_of_lt (pow-lt g) h)) in
    let i : 153 - suc k + suc k ≡ 153 = omega arith in
    let e : 2 ^ (153 - suc k) * 2 ^ suc k ≡ 2 ^ 153 = sym (pow-add 2 (153 - suc k) (suc k)) ∙ ap (λ (x : ℕ). 2 ^ x) i in
    simp (mul-one, mul_assoc) (rw e)

below_top : (m j num den : ℕ) → num < 2 ^ 128 * den → num * 2 ^ 149 ≡ m * 2 ^ j * den → m * 2 ^ j < 2 ^ 277
below_top m j num den h e =
    lt_of_mul-lt-mul_right den
    (subst (λ (x : ℕ). x < 2 ^ 277 * den) e (lt_of_lt_of_le (mul-lt-mul_of_pos_right h (pow_pos 149)) (le_of_eq (mul_right_comm (2 ^ 128) den (2 ^ 149)))))

-- from one fraction to another of the same size
pub rescale : (x : Float) (s : Bool) (w l num den : ℕ) → 0 < l → num * l ≡ w * den → HasValue x s w l → HasValue x s num den
rescale nan s w l num den p h v = v
rescale (inf t) s w l num den p h v = v
rescale (fin t m e) s w l num den p h v = (
  v.0,
  eq_of_mul-eq-mul_right l p (m * up e * den) (num * down e)
      (mul_right_comm (m * up e) den l
      ∙ ap (λ (x : ℕ). x * den) v.1
      ∙ mul_right_comm w (down e) den
      ∙ ap (λ (x : ℕ). x * down e) (sym h)
      ∙ mul_right_comm num l (down e)),
)

exact_below : (s : Bool) (m : ℕ) (e : ℤ) → T (fits binary32 (fin s m e)) → m * up e * (1 * 2 ^ 4) < 2 ^ 128 * (down e * 1) → HasValue (round binary32 s (m * up e * (1 * 2 ^ 4)) (down e * 1)) s (16 * (m * up e)) (down e)
exact_below s m e t h =
    let num = m * up e * (1 * 2 ^ 4) in
    let den = down e * 1 in
    let i : num * 2 ^ 149 ≡ m * 2 ^ power e * den = in_smallest m e (not_too_fine s m e t) in
    let D : 0 < den = omega (arith, down_pos e) in
    rescale (round binary32 s num den) s num den (16 * (m * up e)) (down e) D (omega arith)
    (round_exact binary32 s num den m (power e) D (digits_few s m e t) (below_top m (power e) num den h i) i)

-- ---- the two cases together

abbrev pub sixteen : Float
sixteen = fin false 1 (pos 4)

abbrev pub product : Float → Float
product v = mul binary32 v sixteen

unlike_false : (s : Bool) → unlike s false ≡ s
unlike_false false = refl
unlike_false true = refl

has_value_finite : (w : Float) (s : Bool) (a c : ℕ) → HasValue w s a c → T (not (finite w)) → ⊥
has_value_finite nan s a c v t = v
has_value_finite (inf r) s a c v t = v
has_value_finite (fin r m e) s a c v t = t

finite_scaled : (s : Bool) (m : ℕ) (e : ℤ) → T (fits binary32 (fin s m e)) → Scaled (fin s m e) (product (fin s m e))
unfolding mul
finite_scaled s m e t =
    subst (λ (z : Bool). Scaled (fin s m e) (round binary32 z num den)) (sym (unlike_false s)) (go (ltb num (2 ^ 128 * den)) refl)
  where
    num : ℕ
    num = m * up e * (1 * 2 ^ 4)

    den : ℕ
    den = down e * 1

    go : (b : Bool) → ltb num (2 ^ 128 * den) ≡ b → Scaled (fin s m e) (round binary32 s num den)
    go true b =
        let v = exact_below s m e t (ltb-true num (2 ^ 128 * den) b) in
        record { exact = λ f. v; large = λ f n. absurd (has_value_finite (round binary32 s num den) s (16 * (m * up e)) (down e) v n) }
    go false b =
        let h : 2 ^ 128 * den ≤ num = ltb-false num (2 ^ 128 * den) b in
        let i = overflows s num den (omega (arith, down_pos e)) h in
        record {
          exact = λ f. absurd (subst (λ (w : Float). T (finite w)) i f);
          large = λ f n. (i, le_trans (le_of_eq (ap (λ (x : ℕ). 2 ^ 128 * x) (sym (mul-one (down e))))) (le_trans h (omega arith)));
        }

pub product_scaled : (v : Float) → T (fits binary32 v) → Scaled v (product v)
product_scaled nan t = unfold mul in record { exact = λ f. f; large = λ f n. f }
product_scaled (inf s) t = unfold mul in record { exact = λ f. f; large = λ f n. f }
product_scaled (fin s m e) t = finite_scaled s m e t

-- ---- the unit of a finite coordinate is its product, rounded

nan≢inf : (s : Bool) → nan ≡ inf s → ⊥
nan≢inf s e = unfold is_nan in subst (λ (w : Float). T (is_nan w)) e tt

pub product_is_number : (v w : Float) → Scaled v w → T (finite v) → T (not (is_nan w))
unfolding is_nan
product_is_number nan w p t = absurd t
product_is_number (inf s) w p t = absurd t
product_is_number (fin s m e) nan p t = nan≢inf s (p.large tt tt).0
product_is_number (fin s m e) (inf r) p t = tt
product_is_number (fin s m e) (fin r n k) p t = tt

pub product-rounded : (v w : Float) → Scaled v w → T (finite v) → rounded_of w ≡ unit_of v
unfolding unit_of rounded_of
product-rounded nan w p t = absurd t
product-rounded (inf s) w p t = absurd t
product-rounded (fin s m e) nan p t = absurd (nan≢inf s (p.large tt tt).0)
product-rounded (fin s m e) (inf r) p t =
    sym (large_is_refused s (closest (16 * (m * up e)) (down e)) (closest_at_least (16 * (m * up e)) 262145 (down_pos e) (le_trans (mul-le-mul_right (down e) (lit≤ tt)) (p.large tt tt).1)))
product-rounded (fin s m e) (fin r n k) p t =
    let x = p.exact tt in
    ap (λ (z : Bool). accept (signed z (closest (n * up k) (down k)))) x.0
    ∙ ap (λ (u : ℕ). accept (signed s u)) (closest_same (n * up k) (down k) (16 * (m * up e)) (down e) (down_pos k) (down_pos e) x.1)
