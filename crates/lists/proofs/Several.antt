-- An append to several tiles, none of them twice, keeps a pool sound and does what it promises.
use mathlib.Core.Path.{◌≡◌, refl, sym, ap, ◌∙◌, subst}
use mathlib.Core.Logic.{◌≢◌, ⊎_elim}
use mathlib.Core.List.{List, [], ◌∷◌, ◌++◌}
use Prim.Native.Nat.{ℕ, ◌+◌, ◌≤◌, ◌<◌, max}
use native.Mathlib.Nat.{eq-zero-or-pos}
use native.Mathlib.Omega.{arith}
use lib.ListN.{length, length-append}
use Rattle.numbers.specs.Sum.{one}
use Rattle.pool.specs.Words.{Layout, Fair, room, header_word}
use Rattle.pool.specs.State.{Chained, State, tile_of, times}
use Rattle.pool.specs.Sound.{Shows, Sound, tiles_of, blocks_of}
use Rattle.pool.specs.Lists.{list_of}
use Rattle.pool.proofs.Times.{times_head, times-tail, times_differ}
use Rattle.pool.proofs.Lists.{list_of_shows}
use Rattle.pool.proofs.Header.{Keeps, keeps-tiles, keeps_blocks, keeps_opened}
use Rattle.lists.specs.Appending.{multiple, need, append, append_all, Distinct}
use Rattle.lists.specs.Steps.{append_state, append_all_state, need_state}
use Rattle.lists.specs.Promises.{Kept, Appended}
use Rattle.lists.proofs.Appends.{append_step}
use Rattle.lists.proofs.Counts.{append_other, append_free, append_all_other, append_all_gains, append_all_frees_none, distinct_one, distinct_first, distinct_rest, need_other, need_shows}

-- the pool q, which keeps the fixed words of the sound pool p, is sound with the state that it shows
abbrev pub sound_with : {L : Layout} {p q : List ℕ} → Fair L → Sound L p → Keeps L p q → (r : State) → Shows L (tiles_of p) (blocks_of p) q r → Sound L q
sound_with {L} {p} {q} A S K r R = record {
  opened = keeps_opened A K S.opened;
  state = r;
  shows = subst (λ (T : ℕ). Shows L T (blocks_of q) q r) (sym (keeps-tiles A K))
      (subst (λ (N : ℕ). Shows L (tiles_of p) N q r) (sym (keeps_blocks A K)) R);
}

-- what is kept has the fixed words of the header, and so the screen, the tiles and the blocks
pub kept-keeps : {L : Layout} {T N : ℕ} {p q : List ℕ} {s r : State} {ts : List ℕ} → Kept L T N p q s r ts → Keeps L p q
kept-keeps K = record { long = K.long; fixed = K.header }

module _ {L : Layout} {T N : ℕ} (A : Fair L) (entry : ℕ → ℕ) (in_range : (t : ℕ) → entry t < L.limit) where
  -- what is shown, what stays, and what is left of the free chain
  pub append_all_shows : {p : List ℕ} {s : State} (ts : List ℕ) → Shows L T N p s → room L T N ≤ length p → Distinct T ts
      → need_state L.ids s ts ≤ length s.free
      → Shows L T N (append_all L T p ts entry) (append_all_state L.ids s ts entry)
      × Kept L T N p (append_all L T p ts entry) s (append_all_state L.ids s ts entry) ts
      × (length (append_all_state L.ids s ts entry).free + need_state L.ids s ts ≡ length s.free)
  unfolding append_all append_all_state need_state
  append_all_shows {p} {s} [] R long D enough = (
    R,
    record {
      long = refl;
      header = λ k hk k4 k5. refl;
      tiles = λ u hu z i hi. refl;
      blocks = λ u hu z b hb k hk. refl;
      free = λ b hb hb' k hk. refl;
      tail = λ i hi. refl;
    },
    omega arith,
  )
  append_all_shows {p} {s} (t ∷ ts) R long D enough =
      let ids = L.ids in
      let r = append_state ids s t (entry t) in
      let here : one (multiple ids (length (tile_of s t).list)) ≤ length s.free = omega arith in
      let M = append_step A R long t (entry t) (D.below t (times_head t ts)) (in_range t) here in
      let f = append_free ids s t (entry t) here in
      let n = need_other ids s t (entry t) ts (distinct_first D) in
      let I = append_all_shows {p = append L T p t (entry t)} {s = r} ts M.shows (rw M.within.keeps.long long) (distinct_rest D) (omega arith) in
      let K = I.1 in
      let apart : (u : ℕ) → times u (t ∷ ts) ≡ 0 → u ≢ t = (λ u z e. times_differ t u (t ∷ ts) (times_head t ts) z (sym e)) in (
        I.0,
        record {
          long = K.long ∙ M.within.keeps.long;
          header = λ k hk k4 k5. K.header k hk k4 k5 ∙ M.within.keeps.fixed k hk k4 k5;
          tiles = λ u hu z i hi. K.tiles u hu (omega arith) i hi ∙ M.others u hu (apart u z) i hi;
          blocks = λ u hu z b hb k hk. K.blocks u hu (omega arith) b (rw (append_other ids s t (entry t) u (apart u z)) hb) k hk ∙ M.blocks u (apart u z) b hb k hk;
          free = λ b hb hb' k hk.
              let hr : 0 < times b r.free = omega (arith, append_all_frees_none ids r ts entry b) in
              K.free b hr hb' k hk ∙ M.free b hr k hk;
          tail = λ i hi. K.tail i hi ∙ M.within.tail i hi;
        },
        omega (arith, I.2),
      )

pub append_all_appends : {L : Layout} {p : List ℕ} → Fair L → (S : Sound L p) (ts : List ℕ) (entry : ℕ → ℕ) → Distinct (tiles_of p) ts → ((t : ℕ) → entry t < L.limit)
    → need L p ts ≤ header_word p 4 → Appended L p S (append_all L (tiles_of p) p ts entry) ts entry
append_all_appends {L} {p} A S ts entry D in_range enough =
    let s = S.state in
    let R = S.shows in
    let r = append_all_state L.ids s ts entry in
    let n = need_shows R ts D.below in
    let I = append_all_shows A entry in_range ts R S.opened.long D (omega (arith, R.count)) in
    let K = I.1 in
    let D' : Distinct (length s.tiles) ts = rw R.tiled D in
    let before : (u : ℕ) → u < tiles_of p → list_of L (tiles_of p) p u ≡ (tile_of s u).list = list_of_shows A R in
    let after : (u : ℕ) → u < tiles_of p → list_of L (tiles_of p) (append_all L (tiles_of p) p ts entry) u ≡ (tile_of r u).list = list_of_shows A I.0 in
    let risen : (u : ℕ) → u < tiles_of p → (tile_of r u).mark ≡ max (tile_of s u).mark (length (tile_of r u).list)
    = (λ u hu.
    ⊎_elim (λ (z : times u ts ≡ 0). rw (append_all_other L.ids s ts entry u z) (omega (arith, (R.tile u hu).mark≥)))
    (λ (h : 0 < times u ts).
    let G = append_all_gains L.ids s ts entry u D' h in
    omega (arith, G.mark, ap length G.list, length-append (tile_of s u).list (entry u ∷ [])))
    (eq-zero-or-pos (times u ts))) in
    record {
      sound = sound_with A S (kept-keeps K) r I.0;
      says = refl;
      gains = λ t h. after t (D.below t h) ∙ (append_all_gains L.ids s ts entry t D' h).list ∙ sym (ap (λ (l : List ℕ). l ++ (entry t ∷ [])) (before t (D.below t h)));
      others = λ u hu z. after u hu ∙ ap (λ (x : Chained). x.list) (append_all_other L.ids s ts entry u z) ∙ sym (before u hu);
      marks = λ u hu. rw ((I.0.tile u hu).mark, (R.tile u hu).mark, after u hu) (risen u hu);
      taken = omega (arith, I.2, I.0.count, R.count);
      kept = K;
    }

pub append_all_keeps_sound : {L : Layout} {p : List ℕ} → Fair L → Sound L p → (ts : List ℕ) (entry : ℕ → ℕ) → Distinct (tiles_of p) ts → ((t : ℕ) → entry t < L.limit)
    → need L p ts ≤ header_word p 4 → Sound L (append_all L (tiles_of p) p ts entry)
append_all_keeps_sound A S ts entry D in_range enough = (append_all_appends A S ts entry D in_range enough).sound

-- what is appended is told by the entries of those tiles alone
pub append_all_same : (L : Layout) (T : ℕ) (p ts : List ℕ) (entry entry' : ℕ → ℕ) → ((t : ℕ) → 0 < times t ts → entry t ≡ entry' t)
    → append_all L T p ts entry ≡ append_all L T p ts entry'
unfolding append_all
append_all_same L T p [] entry entry' same = refl
append_all_same L T p (t ∷ ts) entry entry' same =
    ap (λ (n : ℕ). append_all L T (append L T p t n) ts entry) (same t (times_head t ts))
    ∙ append_all_same L T (append L T p t (entry' t)) ts entry entry' (λ u h. same u (times-tail u t ts h))

-- for one tile
pub append_keeps_sound : {L : Layout} {p : List ℕ} → Fair L → Sound L p → (t entry : ℕ) → t < tiles_of p → entry < L.limit → need L p (t ∷ []) ≤ header_word p 4
    → Sound L (append L (tiles_of p) p t entry)
unfolding append_all
append_keeps_sound A S t entry ht in_range enough = append_all_keeps_sound A S (t ∷ []) (λ u. entry) (distinct_one ht) (λ u. in_range) enough
