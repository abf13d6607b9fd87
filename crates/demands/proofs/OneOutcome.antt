-- Each public contract admits one outcome only: two that meet it are equal, in every field of the answer and in every word that is left.
use mathlib.Core.Path.{◌≡◌, refl, ap}
use mathlib.Core.Logic.{◌⊎◌, inl, inr}
use mathlib.Core.List.{List}
use Prim.Native.Nat.{ℕ, ◌≤◌, ◌<◌}
use native.Mathlib.Omega.{arith}
use Rattle.numbers.specs.Flag.{flagged}
use Rattle.numbers.proofs.Says.{says_once}
use Rattle.screen.specs.declared.Screen.{Screen}
use Rattle.screen.specs.declared.Rectangle.{Rectangle}
use Rattle.screen.specs.Rectangle.{rectangle}
use Rattle.shape.specs.declared.Shape.{Shape}
use Rattle.touch.specs.declared.Cover.{Cover}
use Rattle.touch.specs.declared.Cover.TheVariants.{Apart, Partly, Wholly}
use Rattle.touch.specs.Cover.{BoxCoverSays}
use Rattle.touch.proofs.Covering.{one_cover}
use Rattle.snap.specs.declared.PixelShape.{PixelShape}
use Rattle.std.specs.Prelude.{Result, Ok, Err}
use Rattle.numbers.specs.declared.Refusal.{Refusal}
use Rattle.pool.specs.Words.{Layout, Known, layout_of}
use Rattle.pool.specs.Sound.{screen_of, tiles_of}
use Rattle.lists.specs.Appending.{need}
use Rattle.lists.proofs.Several.{append_all_same}
use Rattle.calls.specs.Told.{Binned}
use Rattle.calls.specs.Told.{Released}
use Rattle.calls.specs.Told.{Found}
use Rattle.calls.specs.Told.{HighWater}
use Rattle.calls.specs.Told.{Answered}
use Rattle.pool.specs.Opening.{OpenSays}
use Rattle.calls.specs.Tables.{AuditSays, PlaceSays, BinSays, BinPixelsSays, ReadSays, HighWaterSays, ReleaseSays}
use Rattle.calls.specs.Questions.{RefusedWith, InOrder, AnswerSays, BoxSays, CornerSays}
use Rattle.walk.proofs.Touched.{touched_tiles_unique}
use Rattle.stepping.proofs.Unique.{tests_say_one}
use Rattle.demands.proofs.Touched.{in_touched, tile_proper}

-- the blocks are as they may be, or there is a cause for 2
bad_or_good : {L : Layout} {blocks : ℕ} → (2048 < blocks) ⊎ (Known L → ⊥) → blocks ≤ 2048 → Known L → ⊥
bad_or_good (inl m) h k = omega arith
bad_or_good (inr n) h k = n k

pub open_one_outcome : {L : Layout} {p : List ℕ} {d : Screen} {blocks a b : ℕ} {q r : List ℕ} → OpenSays L p d blocks a q → OpenSays L p d blocks b r → (a ≡ b) × (q ≡ r)
open_one_outcome (OpenSays.bad_screen n e f) (OpenSays.bad_screen n' e' f') = (cc, cc)
open_one_outcome (OpenSays.bad_screen n e f) (OpenSays.bad_blocks s' m' e' f') = absurd (n s')
open_one_outcome (OpenSays.bad_screen n e f) (OpenSays.too_short s' m' k' l' e' f') = absurd (n s')
open_one_outcome (OpenSays.bad_screen n e f) (OpenSays.done s' m' k' l' e' f') = absurd (n s')
open_one_outcome (OpenSays.bad_blocks s m e f) (OpenSays.bad_screen n' e' f') = absurd (n' s)
open_one_outcome (OpenSays.bad_blocks s m e f) (OpenSays.bad_blocks s' m' e' f') = (cc, cc)
open_one_outcome (OpenSays.bad_blocks s m e f) (OpenSays.too_short s' m' k' l' e' f') = absurd (bad_or_good m m' k')
open_one_outcome (OpenSays.bad_blocks s m e f) (OpenSays.done s' m' k' l' e' f') = absurd (bad_or_good m m' k')
open_one_outcome (OpenSays.too_short s m k l e f) (OpenSays.bad_screen n' e' f') = absurd (n' s)
open_one_outcome (OpenSays.too_short s m k l e f) (OpenSays.bad_blocks s' m' e' f') = absurd (bad_or_good m' m k)
open_one_outcome (OpenSays.too_short s m k l e f) (OpenSays.too_short s' m' k' l' e' f') = (cc, cc)
open_one_outcome (OpenSays.too_short s m k l e f) (OpenSays.done s' m' k' l' e' f') = absurd (omega arith)
open_one_outcome (OpenSays.done s m k l e f) (OpenSays.bad_screen n' e' f') = absurd (n' s)
open_one_outcome (OpenSays.done s m k l e f) (OpenSays.bad_blocks s' m' e' f') = absurd (bad_or_good m' m k)
open_one_outcome (OpenSays.done s m k l e f) (OpenSays.too_short s' m' k' l' e' f') = absurd (omega arith)
open_one_outcome (OpenSays.done s m k l e f) (OpenSays.done s' m' k' l' e' f') = (cc, cc)

pub audit_one_outcome : {p : List ℕ} {a b : ℕ} → AuditSays p a → AuditSays p b → a ≡ b
audit_one_outcome (AuditSays.damaged n e) (AuditSays.damaged n' e') = cc
audit_one_outcome (AuditSays.damaged n e) (AuditSays.done s' e') = absurd (n s')
audit_one_outcome (AuditSays.done s e) (AuditSays.damaged n' e') = absurd (n' s)
audit_one_outcome (AuditSays.done s e) (AuditSays.done s' e') = cc

pub high_water_one_outcome : {p : List ℕ} {t : ℕ} {a b : HighWater} → HighWaterSays p t a → HighWaterSays p t b → a ≡ b
high_water_one_outcome (HighWaterSays.damaged n e) (HighWaterSays.damaged n' e') = cc
high_water_one_outcome (HighWaterSays.damaged n e) (HighWaterSays.no_tile s' h' e') = absurd (n s')
high_water_one_outcome (HighWaterSays.damaged n e) (HighWaterSays.done s' h' e') = absurd (n s')
high_water_one_outcome (HighWaterSays.no_tile s h e) (HighWaterSays.damaged n' e') = absurd (n' s)
high_water_one_outcome (HighWaterSays.no_tile s h e) (HighWaterSays.no_tile s' h' e') = cc
high_water_one_outcome (HighWaterSays.no_tile s h e) (HighWaterSays.done s' h' e') = absurd (omega arith)
high_water_one_outcome (HighWaterSays.done s h e) (HighWaterSays.damaged n' e') = absurd (n' s)
high_water_one_outcome (HighWaterSays.done s h e) (HighWaterSays.no_tile s' h' e') = absurd (omega arith)
high_water_one_outcome (HighWaterSays.done s h e) (HighWaterSays.done s' h' e') = cc

-- ---- the bins

place_one_outcome : {p : List ℕ} {shape : Shape} {id : ℕ} {a b : Binned} {q r : List ℕ} → PlaceSays p shape id a q → PlaceSays p shape id b r → (a ≡ b) × (q ≡ r)
place_one_outcome (PlaceSays.no_room ts t l e f) (PlaceSays.no_room ts' t' l' e' f') = (cc, cc)
place_one_outcome {p} (PlaceSays.no_room ts t l e f) (PlaceSays.done ts' t' l' g' s' n' c' e' f') = absurd (omega (arith, ap (need (layout_of p) p) (touched_tiles_unique t t')))
place_one_outcome {p} (PlaceSays.done ts t l g s n c e f) (PlaceSays.no_room ts' t' l' e' f') = absurd (omega (arith, ap (need (layout_of p) p) (touched_tiles_unique t t')))
place_one_outcome {p} {shape} {id} (PlaceSays.done ts t l g s n c e f) (PlaceSays.done ts' t' l' g' s' n' c' e' f') =
    let u = touched_tiles_unique t t' in
    let same =
    append_all_same (layout_of p) (tiles_of p) p ts (λ k. flagged id (g k)) (λ k. flagged id (g' k))
    (λ k h. let k< = (in_touched t k h).0 in ap (flagged id) (says_once (s k k<) (s' k k<))) in
    let tests = tests_say_one (screen_of p) shape c c' in
    (cc, cc)

pub bin_one_outcome : {p : List ℕ} {shape : Shape} {id : ℕ} {a b : Binned} {q r : List ℕ} → BinSays p shape id a q → BinSays p shape id b r → (a ≡ b) × (q ≡ r)
bin_one_outcome (BinSays.damaged n e f) (BinSays.damaged n' e' f') = (cc, cc)
bin_one_outcome (BinSays.damaged n e f) (BinSays.bad_id s' i' e' f') = absurd (n s')
bin_one_outcome (BinSays.damaged n e f) (BinSays.out_of_range s' i' o' e' f') = absurd (n s')
bin_one_outcome (BinSays.damaged n e f) (BinSays.placed s' i' o' w') = absurd (n s')
bin_one_outcome (BinSays.bad_id s i e f) (BinSays.damaged n' e' f') = absurd (n' s)
bin_one_outcome (BinSays.bad_id s i e f) (BinSays.bad_id s' i' e' f') = (cc, cc)
bin_one_outcome (BinSays.bad_id s i e f) (BinSays.out_of_range s' i' o' e' f') = absurd (omega arith)
bin_one_outcome (BinSays.bad_id s i e f) (BinSays.placed s' i' o' w') = absurd (omega arith)
bin_one_outcome (BinSays.out_of_range s i o e f) (BinSays.damaged n' e' f') = absurd (n' s)
bin_one_outcome (BinSays.out_of_range s i o e f) (BinSays.bad_id s' i' e' f') = absurd (omega arith)
bin_one_outcome (BinSays.out_of_range s i o e f) (BinSays.out_of_range s' i' o' e' f') = (cc, cc)
bin_one_outcome (BinSays.out_of_range s i o e f) (BinSays.placed s' i' o' w') = absurd (o o')
bin_one_outcome (BinSays.placed s i o w) (BinSays.damaged n' e' f') = absurd (n' s)
bin_one_outcome (BinSays.placed s i o w) (BinSays.bad_id s' i' e' f') = absurd (omega arith)
bin_one_outcome (BinSays.placed s i o w) (BinSays.out_of_range s' i' o' e' f') = absurd (o' o)
bin_one_outcome (BinSays.placed s i o w) (BinSays.placed s' i' o' w') = place_one_outcome w w'

-- a shape in pixels is refused, or is a shape in units
refused_or_whole : {s : Result Shape Refusal} {n : Refusal} {w : Shape} → s ≡ Err n → s ≡ Ok w → ⊥
refused_or_whole {s} {n} {w} e f = let z : ◌≡◌ {A = ℕ} 0 1 = cc in omega arith

place_one_shape : {p : List ℕ} {shape whole : Shape} {id : ℕ} {a b : Binned} {q r : List ℕ} → shape ≡ whole → PlaceSays p shape id a q → PlaceSays p whole id b r → (a ≡ b) × (q ≡ r)
place_one_shape {p} {shape} {whole} {id} {a} {b} {q} {r} e w w' = place_one_outcome w (rw e w')

pub bin_pixels_one_outcome : {p : List ℕ} {shape : PixelShape} {id : ℕ} {a b : Binned} {q r : List ℕ} → BinPixelsSays p shape id a q → BinPixelsSays p shape id b r → (a ≡ b) × (q ≡ r)
bin_pixels_one_outcome (BinPixelsSays.damaged n e f) (BinPixelsSays.damaged n' e' f') = (cc, cc)
bin_pixels_one_outcome (BinPixelsSays.damaged n e f) (BinPixelsSays.bad_id s' i' e' f') = absurd (n s')
bin_pixels_one_outcome (BinPixelsSays.damaged n e f) (BinPixelsSays.offence s' i' k' o' e' f') = absurd (n s')
bin_pixels_one_outcome (BinPixelsSays.damaged n e f) (BinPixelsSays.placed s' i' k' o' w') = absurd (n s')
bin_pixels_one_outcome (BinPixelsSays.bad_id s i e f) (BinPixelsSays.damaged n' e' f') = absurd (n' s)
bin_pixels_one_outcome (BinPixelsSays.bad_id s i e f) (BinPixelsSays.bad_id s' i' e' f') = (cc, cc)
bin_pixels_one_outcome (BinPixelsSays.bad_id s i e f) (BinPixelsSays.offence s' i' k' o' e' f') = absurd (omega arith)
bin_pixels_one_outcome (BinPixelsSays.bad_id s i e f) (BinPixelsSays.placed s' i' k' o' w') = absurd (omega arith)
bin_pixels_one_outcome (BinPixelsSays.offence s i k o e f) (BinPixelsSays.damaged n' e' f') = absurd (n' s)
bin_pixels_one_outcome (BinPixelsSays.offence s i k o e f) (BinPixelsSays.bad_id s' i' e' f') = absurd (omega arith)
bin_pixels_one_outcome (BinPixelsSays.offence s i k o e f) (BinPixelsSays.offence s' i' k' o' e' f') = let u : k ≡ k' = cc in (cc, cc)
bin_pixels_one_outcome (BinPixelsSays.offence s i k o e f) (BinPixelsSays.placed s' i' k' o' w') = absurd (refused_or_whole o o')
bin_pixels_one_outcome (BinPixelsSays.placed s i k o w) (BinPixelsSays.damaged n' e' f') = absurd (n' s)
bin_pixels_one_outcome (BinPixelsSays.placed s i k o w) (BinPixelsSays.bad_id s' i' e' f') = absurd (omega arith)
bin_pixels_one_outcome (BinPixelsSays.placed s i k o w) (BinPixelsSays.offence s' i' k' o' e' f') = absurd (refused_or_whole o' o)
bin_pixels_one_outcome (BinPixelsSays.placed s i k o w) (BinPixelsSays.placed s' i' k' o' w') = place_one_shape (cc) w w'

-- ---- reading and releasing

pub read_one_outcome : {p : List ℕ} {t place : ℕ} {a b : Found} → ReadSays p t place a → ReadSays p t place b → a ≡ b
read_one_outcome (ReadSays.damaged n e) (ReadSays.damaged n' e') = cc
read_one_outcome (ReadSays.damaged n e) (ReadSays.no_tile s' t' e') = absurd (n s')
read_one_outcome (ReadSays.damaged n e) (ReadSays.past s' t' l' e') = absurd (n s')
read_one_outcome (ReadSays.damaged n e) (ReadSays.done s' t' l' e') = absurd (n s')
read_one_outcome (ReadSays.no_tile s t e) (ReadSays.damaged n' e') = absurd (n' s)
read_one_outcome (ReadSays.no_tile s t e) (ReadSays.no_tile s' t' e') = cc
read_one_outcome (ReadSays.no_tile s t e) (ReadSays.past s' t' l' e') = absurd (omega arith)
read_one_outcome (ReadSays.no_tile s t e) (ReadSays.done s' t' l' e') = absurd (omega arith)
read_one_outcome (ReadSays.past s t l e) (ReadSays.damaged n' e') = absurd (n' s)
read_one_outcome (ReadSays.past s t l e) (ReadSays.no_tile s' t' e') = absurd (omega arith)
read_one_outcome (ReadSays.past s t l e) (ReadSays.past s' t' l' e') = cc
read_one_outcome (ReadSays.past s t l e) (ReadSays.done s' t' l' e') = absurd (omega arith)
read_one_outcome (ReadSays.done s t l e) (ReadSays.damaged n' e') = absurd (n' s)
read_one_outcome (ReadSays.done s t l e) (ReadSays.no_tile s' t' e') = absurd (omega arith)
read_one_outcome (ReadSays.done s t l e) (ReadSays.past s' t' l' e') = absurd (omega arith)
read_one_outcome (ReadSays.done s t l e) (ReadSays.done s' t' l' e') = cc

pub release_one_outcome : {p : List ℕ} {t : ℕ} {a b : Released} {q r : List ℕ} → ReleaseSays p t a q → ReleaseSays p t b r → (a ≡ b) × (q ≡ r)
release_one_outcome (ReleaseSays.damaged n e f) (ReleaseSays.damaged n' e' f') = (cc, cc)
release_one_outcome (ReleaseSays.damaged n e f) (ReleaseSays.no_tile s' t' e' f') = absurd (n s')
release_one_outcome (ReleaseSays.damaged n e f) (ReleaseSays.done s' t' e' f') = absurd (n s')
release_one_outcome (ReleaseSays.no_tile s t e f) (ReleaseSays.damaged n' e' f') = absurd (n' s)
release_one_outcome (ReleaseSays.no_tile s t e f) (ReleaseSays.no_tile s' t' e' f') = (cc, cc)
release_one_outcome (ReleaseSays.no_tile s t e f) (ReleaseSays.done s' t' e' f') = absurd (omega arith)
release_one_outcome (ReleaseSays.done s t e f) (ReleaseSays.damaged n' e' f') = absurd (n' s)
release_one_outcome (ReleaseSays.done s t e f) (ReleaseSays.no_tile s' t' e' f') = absurd (omega arith)
release_one_outcome (ReleaseSays.done s t e f) (ReleaseSays.done s' t' e' f') = (cc, cc)

-- ---- the questions about touching

refused_with_one : {d : Screen} {t : ℕ} {shape : Shape} {m n : ℕ} → RefusedWith d t shape m → RefusedWith d t shape n → m ≡ n
refused_with_one (RefusedWith.bad_screen n e) (RefusedWith.bad_screen n' e') = cc
refused_with_one (RefusedWith.bad_screen n e) (RefusedWith.no_tile s' t' e') = absurd (n s')
refused_with_one (RefusedWith.bad_screen n e) (RefusedWith.out_of_range s' t' o' e') = absurd (n s')
refused_with_one (RefusedWith.no_tile s t e) (RefusedWith.bad_screen n' e') = absurd (n' s)
refused_with_one (RefusedWith.no_tile s t e) (RefusedWith.no_tile s' t' e') = cc
refused_with_one (RefusedWith.no_tile s t e) (RefusedWith.out_of_range s' t' o' e') = absurd (omega arith)
refused_with_one (RefusedWith.out_of_range s t o e) (RefusedWith.bad_screen n' e') = absurd (n' s)
refused_with_one (RefusedWith.out_of_range s t o e) (RefusedWith.no_tile s' t' e') = absurd (omega arith)
refused_with_one (RefusedWith.out_of_range s t o e) (RefusedWith.out_of_range s' t' o' e') = cc

refused_or_in_order : {d : Screen} {t : ℕ} {shape : Shape} {n : ℕ} → RefusedWith d t shape n → InOrder d t shape → ⊥
refused_or_in_order (RefusedWith.bad_screen n e) o = n o.screen
refused_or_in_order (RefusedWith.no_tile s t e) o = omega (arith, o.tile)
refused_or_in_order (RefusedWith.out_of_range s t n e) o = n o.in_range

-- one question has one answer, where P allows one only
answer_one_outcome : {P : Cover → Type 0} {d : Screen} {t : ℕ} {shape : Shape} {a b : Answered}
    → (InOrder d t shape → (r s : Cover) → P r → P s → r ≡ s) → AnswerSays P d t shape a → AnswerSays P d t shape b → a ≡ b
answer_one_outcome one (AnswerSays.refused n c e) (AnswerSays.refused n' c' e') = let u = refused_with_one c c' in cc
answer_one_outcome one (AnswerSays.refused n c e) (AnswerSays.done o' r' s' e') = absurd (refused_or_in_order c o')
answer_one_outcome one (AnswerSays.done o r s e) (AnswerSays.refused n' c' e') = absurd (refused_or_in_order c' o)
answer_one_outcome one (AnswerSays.done o r s e) (AnswerSays.done o' r' s' e') = let u = one o r r' s s' in cc

one_box : (shape : Shape) (q : Rectangle) (r s : Cover) → BoxCoverSays r shape q → BoxCoverSays s shape q → r ≡ s
one_box shape q Apart Apart h k = refl
one_box shape q Apart Partly h k = absurd (h k)
one_box shape q Apart Wholly h k = absurd k
one_box shape q Partly Apart h k = absurd (k h)
one_box shape q Partly Partly h k = refl
one_box shape q Partly Wholly h k = absurd k
one_box shape q Wholly s h k = absurd h

pub box_one_outcome : {d : Screen} {t : ℕ} {shape : Shape} {a b : Answered} → BoxSays d t shape a → BoxSays d t shape b → a ≡ b
box_one_outcome {d} {t} {shape} = answer_one_outcome (λ o r s h k. one_box shape (rectangle d t) r s h k)

pub corner_one_outcome : {d : Screen} {t : ℕ} {shape : Shape} {a b : Answered} → CornerSays d t shape a → CornerSays d t shape b → a ≡ b
corner_one_outcome {d} {t} {shape} = answer_one_outcome (λ o r s h k. one_cover shape (tile_proper d o.screen t o.tile) r s h k)
