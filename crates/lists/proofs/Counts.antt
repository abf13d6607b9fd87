-- What an append to one tile or to several does to what a pool says: to the lists, to the free chain, and to the blocks that further appends need.
use mathlib.Core.Path.{◌≡◌, refl, sym, ap, ap₂, ◌∙◌, subst}
use mathlib.Core.Logic.{◌≢◌, ⊎_elim}
use mathlib.Core.Bool.{Bool, true, false}
use mathlib.Core.List.{List, [], ◌∷◌, ◌++◌}
use Prim.Native.Nat.{ℕ, ◌+◌, ◌≤◌, ◌<◌, zero-le}
use native.Mathlib.Nat.{not-suc-le-zero}
use native.Mathlib.Omega.{arith}
use lib.ListN.{length, length-set}
use lib.Seq.{get_or-set_same, get_or-set_other}
use Rattle.numbers.specs.Sum.{one}
use Rattle.numbers.proofs.Ceil.{eq_or_ne}
use Rattle.pool.specs.Words.{Layout}
use Rattle.pool.specs.State.{Chained, empty, State, tile_of, times}
use Rattle.pool.specs.Sound.{Shows}
use Rattle.pool.proofs.Times.{one_same, one_other, times_head, times-tail, times_differ}
use Rattle.lists.specs.Appending.{pick, multiple, need, Distinct}
use Rattle.lists.specs.Steps.{tail, raised, in_last, in_new, append_state, append_all_state, need_state}

tail-length : (l : List ℕ) → 0 < length l → length (tail l) + 1 ≡ length l
tail-length [] h = absurd (not-suc-le-zero h)
tail-length (x ∷ l) h = omega arith

tail-times : (b : ℕ) (l : List ℕ) → times b (tail l) ≤ times b l
tail-times b [] = zero-le
tail-times b (x ∷ l) = omega arith

-- ---- one tile, whichever way it goes

-- the tile x, with one entry more, is y
pub record Gains (x y : Chained) (id : ℕ) : Type 0 where
  pub list : y.list ≡ x.list ++ (id ∷ [])
  pub mark : y.mark ≡ raised x

gains_by : (c : Bool) (s : State) (t id : ℕ) → t < length s.tiles → Gains (tile_of s t) (tile_of (pick c (in_new s t id) (in_last s t id)) t) id
gains_by true s t id h = let e = get_or-set_same s.tiles t _ empty h in record { list = ap (λ (x : Chained). x.list) e; mark = ap (λ (x : Chained). x.mark) e }
gains_by false s t id h = let e = get_or-set_same s.tiles t _ empty h in record { list = ap (λ (x : Chained). x.list) e; mark = ap (λ (x : Chained). x.mark) e }

other_by : (c : Bool) (s : State) (t id u : ℕ) → u ≢ t → tile_of (pick c (in_new s t id) (in_last s t id)) u ≡ tile_of s u
other_by true s t id u ne = get_or-set_other s.tiles t u _ empty ne
other_by false s t id u ne = get_or-set_other s.tiles t u _ empty ne

tiles_by : (c : Bool) (s : State) (t id : ℕ) → length (pick c (in_new s t id) (in_last s t id)).tiles ≡ length s.tiles
tiles_by true s t id = length-set s.tiles t _
tiles_by false s t id = length-set s.tiles t _

free_by : (c : Bool) (s : State) (t id : ℕ) → one c ≤ length s.free → length (pick c (in_new s t id) (in_last s t id)).free + one c ≡ length s.free
free_by true s t id h = tail-length s.free h
free_by false s t id h = omega arith

times_by : (c : Bool) (s : State) (t id b : ℕ) → times b (pick c (in_new s t id) (in_last s t id)).free ≤ times b s.free
times_by true s t id b = tail-times b s.free
times_by false s t id b = omega arith

module _ (ids : ℕ) (s : State) (t id : ℕ) where
  pub append_gains : t < length s.tiles → Gains (tile_of s t) (tile_of (append_state ids s t id) t) id
  append_gains = gains_by (multiple ids (length (tile_of s t).list)) s t id

  pub append_other : (u : ℕ) → u ≢ t → tile_of (append_state ids s t id) u ≡ tile_of s u
  append_other = other_by (multiple ids (length (tile_of s t).list)) s t id

  pub append-tiles : length (append_state ids s t id).tiles ≡ length s.tiles
  append-tiles = tiles_by (multiple ids (length (tile_of s t).list)) s t id

  pub append_free : one (multiple ids (length (tile_of s t).list)) ≤ length s.free
      → length (append_state ids s t id).free + one (multiple ids (length (tile_of s t).list)) ≡ length s.free
  append_free = free_by (multiple ids (length (tile_of s t).list)) s t id

  pub append_frees_none : (b : ℕ) → times b (append_state ids s t id).free ≤ times b s.free
  append_frees_none = times_by (multiple ids (length (tile_of s t).list)) s t id

-- ---- several tiles, none of them twice

pub distinct_one : {T t : ℕ} → t < T → Distinct T (t ∷ [])
distinct_one {T} {t} ht = record {
  once = λ u. ⊎_elim (λ (e : u ≡ t). rw e (omega (arith, one_same t))) (λ (ne : u ≢ t). omega (arith, one_other u t ne)) (eq_or_ne u t);
  below = λ u h. ⊎_elim (λ (e : u ≡ t). rw e ht) (λ (ne : u ≢ t). absurd (omega (arith, one_other u t ne))) (eq_or_ne u t);
}

pub distinct_rest : {T t : ℕ} {ts : List ℕ} → Distinct T (t ∷ ts) → Distinct T ts
distinct_rest {T} {t} {ts} D = record { once = λ u. omega (arith, D.once u); below = λ u h. D.below u (times-tail u t ts h) }

pub distinct_first : {T t : ℕ} {ts : List ℕ} → Distinct T (t ∷ ts) → times t ts ≡ 0
distinct_first {T} {t} {ts} D = omega (arith, D.once t, one_same t)

module _ (ids : ℕ) where
  -- an append elsewhere does not change what a list of tiles needs
  pub need_other : (s : State) (t id : ℕ) (ts : List ℕ) → times t ts ≡ 0 → need_state ids (append_state ids s t id) ts ≡ need_state ids s ts
  unfolding need_state
  need_other s t id [] z = refl
  need_other s t id (u ∷ ts) z =
      let ne : u ≢ t = times_differ u t (u ∷ ts) (times_head u ts) z in
      ap₂ (λ (a b : ℕ). a + b) (ap (λ (x : Chained). one (multiple ids (length x.list))) (append_other ids s t id u ne))
      (need_other s t id ts (omega arith))

  pub append_all_other : (s : State) (ts : List ℕ) (entry : ℕ → ℕ) (u : ℕ) → times u ts ≡ 0 → tile_of (append_all_state ids s ts entry) u ≡ tile_of s u
  unfolding append_all_state
  append_all_other s [] entry u z = refl
  append_all_other s (t ∷ ts) entry u z =
      let ne : u ≢ t = (λ (e : u ≡ t). times_differ t u (t ∷ ts) (times_head t ts) z (sym e)) in
      append_all_other (append_state ids s t (entry t)) ts entry u (omega arith) ∙ append_other ids s t (entry t) u ne

  pub append_all_gains : (s : State) (ts : List ℕ) (entry : ℕ → ℕ) (u : ℕ) → Distinct (length s.tiles) ts → 0 < times u ts
      → Gains (tile_of s u) (tile_of (append_all_state ids s ts entry) u) (entry u)
  unfolding append_all_state
  append_all_gains s [] entry u D h = absurd (not-suc-le-zero h)
  append_all_gains s (t ∷ ts) entry u D h =
      ⊎_elim
      (λ (e : t ≡ u).
      rw (sym e)
      (rw (append_all_other (append_state ids s t (entry t)) ts entry t (distinct_first D)) (append_gains ids s t (entry t) (D.below t (times_head t ts)))))
      (λ (ne : t ≢ u).
      let ne' : u ≢ t = (λ z. ne (sym z)) in
      subst (λ (x : Chained). Gains x (tile_of (append_all_state ids (append_state ids s t (entry t)) ts entry) u) (entry u)) (append_other ids s t (entry t) u ne')
      (append_all_gains (append_state ids s t (entry t)) ts entry u (rw (append-tiles ids s t (entry t)) (distinct_rest D)) (omega (arith, one_other u t ne'))))
      (eq_or_ne t u)

  pub append_all_frees_none : (s : State) (ts : List ℕ) (entry : ℕ → ℕ) (b : ℕ) → times b (append_all_state ids s ts entry).free ≤ times b s.free
  unfolding append_all_state
  append_all_frees_none s [] entry b = omega arith
  append_all_frees_none s (t ∷ ts) entry b =
      omega (arith, append_all_frees_none (append_state ids s t (entry t)) ts entry b, append_frees_none ids s t (entry t) b)

-- ---- the blocks needed, on words and on the state

pub need_shows : {L : Layout} {T N : ℕ} {p : List ℕ} {s : State} → Shows L T N p s → (ts : List ℕ) → ((t : ℕ) → 0 < times t ts → t < T)
    → need L p ts ≡ need_state L.ids s ts
unfolding need need_state
need_shows {L} {T} {N} {p} {s} R [] below = refl
need_shows {L} {T} {N} {p} {s} R (t ∷ ts) below =
    ap₂ (λ (a b : ℕ). a + b) (ap (λ (n : ℕ). one (multiple L.ids n)) (R.tile t (below t (times_head t ts))).entries)
    (need_shows R ts (λ u h. below u (times-tail u t ts h)))
