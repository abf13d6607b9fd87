-- What the loops over a list of tiles keep: the tiles that are left, none of them twice, and the blocks that they need.
use mathlib.Core.Path.{◌≡◌, refl, sym, ap, ap₂, ◌∙◌, subst}
use mathlib.Core.Logic.{◌≢◌}
use mathlib.Core.List.{List, [], ◌∷◌}
use Prim.Native.Nat.{ℕ, suc, ◌+◌, ◌%◌, ◌≤◌, ◌<◌}
use native.Mathlib.Numerals.{add-one}
use native.Mathlib.Omega.{arith}
use borrow.Author.Tests.{eq-eqb, ne_eqb}
use lib.ListN.{length, get_or, drop}
use lib.Seq.{drop-cons}
use Rattle.numbers.specs.Flag.{flagged, plain, is_flagged, plains}
use Rattle.numbers.specs.Sum.{one}
use Rattle.pool.specs.Words.{Layout, header_word, tile_word}
use Rattle.pool.specs.State.{times}
use Rattle.pool.specs.Sound.{Sound, tiles_of}
use Rattle.pool.proofs.Times.{times_head, times-tail}
use Rattle.pool.proofs.Header.{keeps-tiles}
use Rattle.lists.specs.Appending.{multiple, need, append, append_all, append_named, Gained, Distinct}
use Rattle.lists.specs.Reach.{Among, AllAmong, Appendable}
use Rattle.lists.proofs.Counts.{distinct_rest}
use Rattle.lists.proofs.Several.{kept-keeps, append_all_appends}

-- the tiles that are left after i, and the next of them
pub rest_next : (named : List ℕ) (i : ℕ) → i < length named → drop i named ≡ get_or named i 0 ∷ drop (i + 1) named
rest_next named i h = rw (add-one, drop-cons named i 0 h)

module _ (L : Layout) (p : List ℕ) (t : ℕ) (ts : List ℕ) where
  pub need_more : tile_word L p t 0 % L.ids ≡ 0 → need L p (t ∷ ts) ≡ 1 + need L p ts
  unfolding need
  need_more z = omega (arith, ap one (eq-eqb (tile_word L p t 0 % L.ids) 0 z))

  pub need_same : tile_word L p t 0 % L.ids ≢ 0 → need L p (t ∷ ts) ≡ need L p ts
  unfolding need
  need_same nz = omega (arith, ap one (ne_eqb (tile_word L p t 0 % L.ids) 0 nz))

  pub need_parts : need L p (t ∷ ts) ≡ need L p (t ∷ []) + need L p ts
  unfolding need
  need_parts = omega arith

pub need-kept : (L : Layout) (p q ts : List ℕ) → ((u : ℕ) → 0 < times u ts → tile_word L q u 0 ≡ tile_word L p u 0) → need L q ts ≡ need L p ts
unfolding need
need-kept L p q [] same = refl
need-kept L p q (t ∷ ts) same =
    ap₂ (λ (a b : ℕ). a + b) (ap (λ (n : ℕ). one (multiple L.ids n)) (same t (times_head t ts)))
    (need-kept L p q ts (λ u h. same u (times-tail u t ts h)))

-- the tiles that `rest` names are left, and to append to them ends in the words e
pub record Appending (L : Layout) (p : List ℕ) (T : ℕ) (rest : List ℕ) (id : ℕ) (e : List ℕ) : Type 0 where
  pub ready : Appendable L p T (plains rest) id
  pub ends : append_named L T p rest id ≡ e

pub among_first : {L : Layout} {p : List ℕ} {T t : ℕ} {ts : List ℕ} → AllAmong L p T (t ∷ ts) → Among L p T t
among_first {L} {p} {T} {t} {ts} M = record { sound = M.sound; sized = M.sized; tiles = M.tiles; tile = M.distinct.below t (times_head t ts) }

pub among_rest : {L : Layout} {p : List ℕ} {T t : ℕ} {ts : List ℕ} → AllAmong L p T (t ∷ ts) → AllAmong L p T ts
among_rest M = record { sound = M.sound; sized = M.sized; tiles = M.tiles; distinct = distinct_rest M.distinct }

module _ {L : Layout} {p : List ℕ} {T : ℕ} {w : ℕ} {rest : List ℕ} {id : ℕ} {e : List ℕ} (G : Appending L p T (w ∷ rest) id e) where
  abbrev t : ℕ
  t = plain w

  abbrev ts : List ℕ
  ts = plains rest

  abbrev entry : ℕ
  entry = flagged id (is_flagged w)

  pub appending_enough : need L p (t ∷ []) ≤ header_word p 4
  appending_enough = omega (arith, need_parts L p t ts, G.ready.enough)

  pub appending_step : (q : List ℕ) → q ≡ append L T p t entry → Appending L q T rest id e
  unfolding append_all append_named
  appending_step q f =
      let among = G.ready.among in
      let D = among.distinct in
      let D₁ : Distinct (tiles_of p) (t ∷ []) = record {
        once = λ u. omega (arith, D.once u);
        below = λ u h. subst (λ (n : ℕ). u < n) among.tiles (D.below u (omega arith));
      } in
      let M = append_all_appends among.sized.fair among.sound (t ∷ []) (λ u. entry) D₁ (λ u. G.ready.in_range (is_flagged w)) appending_enough in
      let f' : q ≡ append_all L (tiles_of p) p (t ∷ []) (λ u. entry) = f ∙ ap (λ (n : ℕ). append L n p t entry) among.tiles in
      let K = M.kept in
      let same : (u : ℕ) → 0 < times u ts → tile_word L q u 0 ≡ tile_word L p u 0
      = (λ u h.
      let hu : u < tiles_of p = subst (λ (n : ℕ). u < n) among.tiles (D.below u (times-tail u t ts h)) in
      let z : times u (t ∷ []) ≡ 0 = omega (arith, D.once u) in
      ap (λ (v : List ℕ). tile_word L v u 0) f' ∙ K.tiles u hu z 0 (omega (arith, among.sized.fair.tile>))) in
      let n = need-kept L p q ts same in
      let h4 : header_word q 4 + need L p (t ∷ []) ≡ header_word p 4 = ap (λ (v : List ℕ). header_word v 4 + need L p (t ∷ [])) f' ∙ M.taken in
      record {
        ready = record {
          among = record {
            sound = subst (Sound L) (sym f') M.sound;
            sized = among.sized;
            tiles = among.tiles ∙ sym (ap tiles_of f' ∙ keeps-tiles among.sized.fair (kept-keeps K));
            distinct = distinct_rest D;
          };
          in_range = G.ready.in_range;
          enough = omega (arith, need_parts L p t ts, G.ready.enough);
        };
        ends = ap (λ (v : List ℕ). append_named L T v rest id) f ∙ G.ends;
      }

pub appending_end : {L : Layout} {p : List ℕ} {T id : ℕ} {e : List ℕ} → Appending L p T [] id e → p ≡ e
unfolding append_named
appending_end G = G.ends

pub gained : (entry : ℕ → ℕ) (id : ℕ) (named : List ℕ)
    → ((i : ℕ) → i < length named → entry (plain (get_or named i 0)) ≡ flagged id (is_flagged (get_or named i 0))) → Gained entry id named
gained entry id [] h = tt
gained entry id (w ∷ ws) h = (h 0 (omega arith), gained entry id ws (λ i l. h (suc i) (omega arith)))

-- by the numbers of the tiles, where `entry` tells what each gains
pub named_appends : (L : Layout) (T : ℕ) (p : List ℕ) (entry : ℕ → ℕ) (id : ℕ) (named : List ℕ) → Gained entry id named
    → append_named L T p named id ≡ append_all L T p (plains named) entry
unfolding append_all append_named
named_appends L T p gain id [] g = refl
named_appends L T p gain id (w ∷ ws) g =
    ap (λ (n : ℕ). append_named L T (append L T p (plain w) n) ws id) (sym g.0) ∙ named_appends L T (append L T p (plain w) (gain (plain w))) gain id ws g.1
