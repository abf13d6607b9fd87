-- Demand 1 holds of every call on any words.
use mathlib.Core.Path.{◌≡◌, refl, sym, ap, subst}
use mathlib.Core.Logic.{◌≢◌, ◌⊎◌, inl, inr, ⊎_elim}
use mathlib.Core.Bool.{false}
use mathlib.Core.List.{List, [], ◌∷◌}
use Prim.Native.Nat.{ℕ, ◌<◌}
use native.Mathlib.Omega.{arith}
use Rattle.numbers.specs.Refusal as reason
use Rattle.screen.specs.declared.Screen.{Screen}
use Rattle.shape.specs.declared.Shape.{Shape}
use Rattle.snap.specs.declared.PixelShape.{PixelShape}
use Rattle.snap.proofs.Shapes.{refused_six_or_seven}
use Rattle.pool.specs.Words.{Layout, id_limit, layout_of, room}
use Rattle.pool.specs.Sound.{Sound, tiles_of, blocks_of}
use Rattle.pool.proofs.Editions.{layout_fair}
use Rattle.pool.proofs.Opening.{header_fits, opening-length, opening-tail}
use Rattle.lists.proofs.Releases.{release_releases}
use Rattle.calls.specs.Told.{Binned}
use Rattle.calls.specs.Told.{Released}
use Rattle.calls.specs.Told.{Found}
use Rattle.calls.specs.Told.{HighWater}
use Rattle.touch.specs.declared.Cover.{Cover}
use Rattle.calls.specs.Told.{Answered}
use Rattle.pool.specs.Opening.{OpenSays}
use Rattle.calls.specs.Tables.{AuditSays, PlaceSays, BinSays, BinPixelsSays, ReadSays, HighWaterSays, ReleaseSays, refused_bin, not_found}
use Rattle.calls.specs.Questions.{RefusedWith, AnswerSays, BoxSays, CornerSays}
use Rattle.calls.proofs.Keeping.{bin_appends}
use Rattle.demands.specs.History.{Entry, binned, binned_pixels, found, released, number_of, Step}
use Rattle.demands.specs.Demand1.{Among, refusals, RestZero, Outside, Demand1, Demand1Open, Demand1Audit, Demand1HighWater, Demand1Question}
use Rattle.demands.proofs.Accepted.{same_outside, kept_outside}

-- ---- a refusal, and an accepted call

refusal : {p : List ℕ} {e : Entry} {q : List ℕ} (n : ℕ) → number_of e ≡ n → n ≢ 0 → Among n (refusals e) → RestZero e → q ≡ p → Demand1 p e q
refusal {p} {e} {q} n is ne among zeros same = record {
  number_is = inr (subst (λ (m : ℕ). Among m (refusals e)) (sym is) among);
  refused = λ _. (same, zeros);
  accepted = λ z. absurd (ne (omega arith));
}

acceptance : {p : List ℕ} {e : Entry} {q : List ℕ} → number_of e ≡ 0 → Outside (room (layout_of p) (tiles_of p) (blocks_of p)) p q → Demand1 p e q
acceptance z out = record { number_is = inl z; refused = λ ne. absurd (ne z); accepted = λ _. out }

-- ---- the bins

placed_either : {p : List ℕ} {shape : Shape} {id : ℕ} {a : Binned} {q : List ℕ} → Sound (layout_of p) p → id < id_limit → PlaceSays p shape id a q
    → ((a ≡ refused_bin 8) × (q ≡ p)) ⊎ ((a.number ≡ 0) × Outside (room (layout_of p) (tiles_of p) (blocks_of p)) p q)
placed_either S i (PlaceSays.no_room ts T l e f) = inl (e, f)
placed_either {p} {shape} {id} {a} {q} S i (PlaceSays.done ts T l flag F tests C e f) =
    inr (ap (λ (b : Binned). b.number) e, rw f (kept_outside S (bin_appends S id i T l flag).kept))

number_of_lem : {a : Binned} {n : ℕ} → a ≡ refused_bin n → a.number ≡ n
number_of_lem e = ap (λ (b : Binned). b.number) e

zeros : {a : Binned} {n : ℕ} → a ≡ refused_bin n → (a.tiles ≡ 0) × (a.blocks ≡ 0) × (a.tests ≡ 0)
zeros e = (ap (λ (b : Binned). b.tiles) e, ap (λ (b : Binned). b.blocks) e, ap (λ (b : Binned). b.tests) e)

bin_1 : {p : List ℕ} {shape : Shape} {id : ℕ} {a : Binned} {q : List ℕ} → BinSays p shape id a q → Demand1 p (binned shape id a) q
bin_1 (BinSays.damaged n e f) = refusal 4 (number_of_lem e) (omega arith) (inl refl) (zeros e) f
bin_1 (BinSays.bad_id S i e f) = refusal 5 (number_of_lem e) (omega arith) (inr (inl refl)) (zeros e) f
bin_1 (BinSays.out_of_range S i o e f) = refusal 7 (number_of_lem e) (omega arith) (inr (inr (inl refl))) (zeros e) f
bin_1 (BinSays.placed S i o w) =
    ⊎_elim (λ r. refusal 8 (number_of_lem r.0) (omega arith) (inr (inr (inr (inl refl)))) (zeros r.0) r.1) (λ d. acceptance d.0 d.1)
    (placed_either S i w)

bin_pixels_1 : {p : List ℕ} {shape : PixelShape} {id : ℕ} {a : Binned} {q : List ℕ} → BinPixelsSays p shape id a q → Demand1 p (binned_pixels shape id a) q
bin_pixels_1 (BinPixelsSays.damaged n e f) = refusal 4 (number_of_lem e) (omega arith) (inl refl) (zeros e) f
bin_pixels_1 (BinPixelsSays.bad_id S i e f) = refusal 5 (number_of_lem e) (omega arith) (inr (inl refl)) (zeros e) f
bin_pixels_1 {shape = shape} (BinPixelsSays.offence S i r o e f) =
    let n : ℕ = reason.number_of r in
    ⊎_elim (λ (s : n ≡ 6). refusal n (number_of_lem e) (omega arith) (inr (inr (inl s))) (zeros e) f)
    (λ (s : n ≡ 7). refusal n (number_of_lem e) (omega arith) (inr (inr (inr (inl s)))) (zeros e) f)
    (refused_six_or_seven shape o)
bin_pixels_1 (BinPixelsSays.placed S i k o w) =
    ⊎_elim (λ r. refusal 8 (number_of_lem r.0) (omega arith) (inr (inr (inr (inr (inl refl))))) (zeros r.0) r.1) (λ d. acceptance d.0 d.1)
    (placed_either S i w)

-- ---- reading and releasing

nothing_found : {a : Found} {n : ℕ} → a ≡ not_found n → (a.id ≡ 0) × (a.whole ≡ false)
nothing_found e = (ap (λ (b : Found). b.id) e, ap (λ (b : Found). b.whole) e)

read_1 : {p : List ℕ} {t place : ℕ} {a : Found} {q : List ℕ} → ReadSays p t place a → q ≡ p → Demand1 p (found t place a) q
read_1 (ReadSays.damaged n e) f = refusal 4 (ap (λ (b : Found). b.number) e) (omega arith) (inl refl) (nothing_found e) f
read_1 (ReadSays.no_tile S t e) f = refusal 9 (ap (λ (b : Found). b.number) e) (omega arith) (inr (inl refl)) (nothing_found e) f
read_1 (ReadSays.past S t l e) f = refusal 10 (ap (λ (b : Found). b.number) e) (omega arith) (inr (inr (inl refl))) (nothing_found e) f
read_1 (ReadSays.done S t l e) f = acceptance (ap (λ (b : Found). b.number) e) (same_outside f)

release_1 : {p : List ℕ} {t : ℕ} {a : Released} {q : List ℕ} → ReleaseSays p t a q → Demand1 p (released t a) q
release_1 (ReleaseSays.damaged n e f) = refusal 4 (ap (λ (b : Released). b.number) e) (omega arith) (inl refl) (ap (λ (b : Released). b.blocks) e) f
release_1 (ReleaseSays.no_tile S h e f) =
    refusal 9 (ap (λ (b : Released). b.number) e) (omega arith) (inr (inl refl)) (ap (λ (b : Released). b.blocks) e) f
release_1 {p} {t} {a} {q} (ReleaseSays.done S h e f) =
    acceptance (ap (λ (b : Released). b.number) e) (rw f (kept_outside S (release_releases (layout_fair p) S t h).kept))

-- ---- the calls that are no part of a history

pub demand_1_open : {L : Layout} {p : List ℕ} {d : Screen} {blocks number : ℕ} {q : List ℕ} → OpenSays L p d blocks number q → Demand1Open L p d blocks number q
demand_1_open (OpenSays.bad_screen n e f) = record { number_is = inr (inl e); refused = λ _. f; accepted = λ z. absurd (omega arith) }
demand_1_open (OpenSays.bad_blocks s m e f) = record { number_is = inr (inr (inl e)); refused = λ _. f; accepted = λ z. absurd (omega arith) }
demand_1_open (OpenSays.too_short s m k l e f) = record { number_is = inr (inr (inr (inl e))); refused = λ _. f; accepted = λ z. absurd (omega arith) }
demand_1_open {L} {p} {d} {blocks} {number} {q} (OpenSays.done s m k l e f) = record {
  number_is = inl e;
  refused = λ ne. absurd (ne e);
  accepted = λ _. rw f
      (record {
        long = opening-length L d blocks p (header_fits k d blocks) l;
        tail = opening-tail L d blocks p (header_fits k d blocks);
      });
}

pub demand_1_audit : {p : List ℕ} {number : ℕ} → AuditSays p number → Demand1Audit number
demand_1_audit (AuditSays.damaged n e) = inr (inl e)
demand_1_audit (AuditSays.done S e) = inl e

high_water_number : {a : HighWater} {n e : ℕ} → a ≡ record { number = n; entries = e } → a.number ≡ n
high_water_number e = ap (λ (b : HighWater). b.number) e

pub demand_1_high_water : {p : List ℕ} {t : ℕ} {a : HighWater} → HighWaterSays p t a → Demand1HighWater a
demand_1_high_water (HighWaterSays.damaged n e) = record { number_is = inr (inl (high_water_number e)); refused = λ _. ap (λ (b : HighWater). b.entries) e }
demand_1_high_water (HighWaterSays.no_tile S t e) = record { number_is = inr (inr (inl (high_water_number e))); refused = λ _. ap (λ (b : HighWater). b.entries) e }
demand_1_high_water (HighWaterSays.done S t e) = let z = high_water_number e in record { number_is = inl z; refused = λ ne. absurd (ne z) }

refused_among : {d : Screen} {t : ℕ} {shape : Shape} {n : ℕ} → RefusedWith d t shape n → Among n (1 ∷ 9 ∷ 7 ∷ [])
refused_among (RefusedWith.bad_screen n e) = inl e
refused_among (RefusedWith.no_tile s t e) = inr (inl e)
refused_among (RefusedWith.out_of_range s t o e) = inr (inr (inl e))

question_1 : {P : Cover → Type 0} {d : Screen} {t : ℕ} {shape : Shape} {a : Answered} → AnswerSays P d t shape a → Demand1Question a
question_1 (AnswerSays.refused n c e) = record {
  number_is = inr (subst (λ (m : ℕ). Among m (1 ∷ 9 ∷ 7 ∷ [])) (sym (ap (λ (b : Answered). b.number) e)) (refused_among c));
  refused = λ _. ap (λ (b : Answered). b.cover) e;
}
question_1 (AnswerSays.done o r s e) = let z = ap (λ (b : Answered). b.number) e in record { number_is = inl z; refused = λ ne. absurd (ne z) }

pub demand_1_box : {d : Screen} {t : ℕ} {shape : Shape} {a : Answered} → BoxSays d t shape a → Demand1Question a
demand_1_box = question_1

pub demand_1_corner : {d : Screen} {t : ℕ} {shape : Shape} {a : Answered} → CornerSays d t shape a → Demand1Question a
demand_1_corner = question_1

-- ---- every call of a history

pub demand_1 : (p : List ℕ) (e : Entry) (q : List ℕ) → Step p e q → Demand1 p e q
demand_1 p (binned shape id a) q s = bin_1 s
demand_1 p (binned_pixels shape id a) q s = bin_pixels_1 s
demand_1 p (found tile place a) q s = read_1 s.0 s.1
demand_1 p (released tile a) q s = release_1 s
