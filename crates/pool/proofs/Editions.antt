-- The layout of given words is one of three, which all laws serve; it stays where the fixed words of the header do, and an opening leaves its own.
use mathlib.Core.Path.{◌≡◌, refl, sym, ap, ap₂, ◌∙◌, subst}
use mathlib.Core.Bool.{Bool, true, false, cond}
use mathlib.Core.Logic.{◌≢◌, ◌⊎◌, inl, inr, ⊎_elim}
use mathlib.Core.List.{List}
use Prim.Native.Nat.{ℕ, ◌-◌, ◌<◌}
use native.Mathlib.Omega.{arith}
use borrow.Author.Tests.{eq-eqb, eqb-true, ne_eqb}
use lib.Dec.{eqb}
use Rattle.std.proofs.lemmas.Bool.{false≢true}
use Rattle.numbers.proofs.Ceil.{eq_or_ne}
use Rattle.pool.specs.Words.{Layout, is_edition, edition, second, Known, one, two_32, two_64, layout_of, Fair, header_word}
use Rattle.pool.specs.declared.edition.Edition.{Edition}
use Rattle.pool.specs.Editions.{layout_for, Sized}
use Rattle.pool.specs.Sound.{Opened}
use Rattle.pool.proofs.Words.{edition_fair, second_fair}
use Rattle.pool.proofs.Header.{Keeps, keeps_opened}

pub known_fair : {L : Layout} → Known L → Fair L
known_fair one = edition_fair
known_fair two_32 = second_fair 32 (omega arith)
known_fair two_64 = second_fair 64 (omega arith)

-- of which ids and poison are the same
pub known_limit : {L : Layout} → Known L → L.limit ≡ edition.limit
known_limit one = refl
known_limit two_32 = refl
known_limit two_64 = refl

pub known_poison : {L : Layout} → Known L → L.poison ≡ edition.poison
known_poison one = refl
known_poison two_32 = refl
known_poison two_64 = refl

-- the layout by words 6 and 8
abbrev chosen : (a b : ℕ) → Layout
chosen a b = cond (eqb a 10) (cond (eqb b 64) (second 64) (second 32)) edition

chosen-known : (a b : ℕ) → Known (chosen a b)
chosen-known a b = go (eqb a 10) (eqb b 64)
  where
    go : (x y : Bool) → Known (cond x (cond y (second 64) (second 32)) edition)
    go true true = two_64
    go true false = two_32
    go false y = one

pub layout_known : (p : List ℕ) → Known (layout_of p)
unfolding layout_of
layout_known p = chosen-known (header_word p 6) (header_word p 8)

pub layout_fair : (p : List ℕ) → Fair (layout_of p)
layout_fair p = known_fair (layout_known p)

-- the code's divisions, sums and products serve the layouts that there are
pub known_sized : {L : Layout} → Known L → Sized L
known_sized one = record { fair = edition_fair; ids_are = inl refl; header_is = inl refl; header≤ = omega arith; ids≥ = omega arith; ids≤ = omega arith }
known_sized two_32 = record { fair = second_fair 32 (omega arith); header_is = inr refl; ids_are = inl refl; header≤ = omega arith; ids≥ = omega arith; ids≤ = omega arith }
known_sized two_64 = record { fair = second_fair 64 (omega arith); header_is = inr refl; ids_are = inr refl; header≤ = omega arith; ids≥ = omega arith; ids≤ = omega arith }

-- ---- an edition that the code carries

-- its layout is one that there is
known_as : {L : Layout} (e : Edition) → L.tile ≡ edition.tile → L.limit ≡ edition.limit → L.poison ≡ edition.poison → Known L → e.header ≡ L.header → e.ids ≡ L.ids
    → Known (layout_for e)
known_as {L} e t l p k h i =
    let same : layout_for e ≡ L = λ j. record { header = h j; tile = sym t j; ids = i j; limit = sym l j; poison = sym p j } in
    subst Known (sym same) k

pub known : (e : Edition) → is_edition e.header e.ids ≡ true → Known (layout_for e)
known e there_is =
    ⊎_elim
    (λ (h : e.header ≡ 8).
    known_as e refl refl refl one h (eqb-true e.ids 31 (rw h at there_is)))
    (λ (n : e.header ≢ 8).
    ⊎_elim
    (λ (h : e.header ≡ 10).
    ⊎_elim (λ (i : e.ids ≡ 31). known_as e refl refl refl two_32 h i)
    (λ (m : e.ids ≢ 31). known_as e refl refl refl two_64 h (eqb-true e.ids 63 (rw (h, ne_eqb e.ids 31 m) at there_is)))
    (eq_or_ne e.ids 31))
    (λ (m : e.header ≢ 10). absurd (false≢true (rw (ne_eqb e.header 8 n, ne_eqb e.header 10 m) at there_is)))
    (eq_or_ne e.header 10))
    (eq_or_ne e.header 8)

pub sized : (e : Edition) → is_edition e.header e.ids ≡ true → Sized (layout_for e)
sized e there_is = known_sized (known e there_is)

-- of which a header that has not eight words has ten, and a block that has not 31 ids has 63
pub ten : {L : Layout} → Sized L → L.header ≢ 8 → L.header ≡ 10
ten S ne = ⊎_elim (λ e. absurd (ne e)) (λ e. e) S.header_is

pub sixty_three : {L : Layout} → Sized L → L.ids ≢ 31 → L.ids ≡ 63
sixty_three S ne = ⊎_elim (λ e. absurd (ne e)) (λ e. e) S.ids_are

-- blocks of the second edition have 32 words or 64
pub known-second : (words : ℕ) → Known (second words) → (words ≡ 32) ⊎ (words ≡ 64)
known-second words k = ⊎_elim (λ (e : words - 1 ≡ 31). inl (omega arith)) (λ (e : words - 1 ≡ 63). inr (omega arith)) (known_sized k).ids_are

-- the layout of given words, by cases
module _ (p : List ℕ) where
  pub layout_one : header_word p 6 ≢ 10 → layout_of p ≡ edition
  unfolding layout_of
  layout_one ne = ap (λ (x : Bool). cond x (cond (eqb (header_word p 8) 64) (second 64) (second 32)) edition) (ne_eqb (header_word p 6) 10 ne)

  pub layout_two_64 : header_word p 6 ≡ 10 → header_word p 8 ≡ 64 → layout_of p ≡ second 64
  unfolding layout_of
  layout_two_64 e f = ap₂ (λ (x y : Bool). cond x (cond y (second 64) (second 32)) edition) (eq-eqb (header_word p 6) 10 e) (eq-eqb (header_word p 8) 64 f)

  pub layout_two_32 : header_word p 6 ≡ 10 → header_word p 8 ≢ 64 → layout_of p ≡ second 32
  unfolding layout_of
  layout_two_32 e f = ap₂ (λ (x y : Bool). cond x (cond y (second 64) (second 32)) edition) (eq-eqb (header_word p 6) 10 e) (ne_eqb (header_word p 8) 64 f)

-- a pool that was opened in a layout that there is has that layout
pub opened_layout : {L : Layout} {p : List ℕ} → Known L → Opened L p → layout_of p ≡ L
opened_layout {p = p} one O = layout_one p (λ e. omega (arith, O.table_at))
opened_layout {p = p} two_32 O = layout_two_32 p O.table_at (λ e. omega (arith, O.size_at (omega arith)))
opened_layout {p = p} two_64 O = layout_two_64 p O.table_at (O.size_at (omega arith))

-- the words of the second edition have its header
layout_header : (p : List ℕ) → header_word p 6 ≡ 10 → (layout_of p).header ≡ 10
layout_header p e =
    ⊎_elim (λ (f : header_word p 8 ≡ 64). ap (λ (L : Layout). L.header) (layout_two_64 p e f))
    (λ (f : header_word p 8 ≢ 64). ap (λ (L : Layout). L.header) (layout_two_32 p e f))
    (eq_or_ne (header_word p 8) 64)

by_words : (p q : List ℕ) → header_word q 6 ≡ header_word p 6 → header_word q 8 ≡ header_word p 8 → layout_of q ≡ layout_of p
unfolding layout_of
by_words p q e f = ap₂ chosen e f

-- the layout is settled by the words of its header
pub same_layout : (p q : List ℕ) → ((k : ℕ) → k < (layout_of p).header → header_word q k ≡ header_word p k) → layout_of q ≡ layout_of p
same_layout p q same =
    let six = same 6 (omega (arith, (layout_fair p).header>)) in
    ⊎_elim (λ (e : header_word p 6 ≡ 10). by_words p q six (same 8 (omega (arith, layout_header p e))))
    (λ (ne : header_word p 6 ≢ 10). layout_one q (λ e. ne (sym six ∙ e)) ∙ sym (layout_one p ne))
    (eq_or_ne (header_word p 6) 10)

-- words that keep the fixed words of a pool keep its layout
pub keeps_layout : {L : Layout} {p q : List ℕ} → Known L → Opened L p → Keeps L p q → layout_of q ≡ layout_of p
keeps_layout k O K = opened_layout k (keeps_opened (known_fair k) K O) ∙ sym (opened_layout k O)
