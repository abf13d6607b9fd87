-- A pool of three words a tile is not sound: its word 7 is that of another layout. And where a pool is not sound, every call answers 4.
use mathlib.Core.Path.{◌≡◌, ap, subst}
use mathlib.Core.List.{List}
use Prim.Native.Nat.{ℕ, ◌*◌, ◌≤◌, ◌<◌}
use native.Mathlib.Nat.{mul-le-mul_left}
use native.Mathlib.Omega.{arith}
use lib.IntN.{ℤ}
use Rattle.screen.specs.Screen.{columns, rows}
use Rattle.screen.proofs.Laws.{columns≥, rows≥}
use Rattle.pool.specs.Words.{Layout, edition, layout_of, start}
use Rattle.pool.specs.Sound.{Opened, Sound, screen_of, tiles_of}
use Rattle.pool.proofs.Editions.{layout_one}
use Rattle.calls.specs.Told.{Binned}
use Rattle.calls.specs.Told.{Released}
use Rattle.calls.specs.Told.{Found}
use Rattle.calls.specs.Told.{HighWater}
use Rattle.calls.specs.Tables.{AuditSays, BinSays, BinPixelsSays, ReadSays, HighWaterSays, ReleaseSays}
use Rattle.calls.specs.BinList.{BinListSays}
use Rattle.demands.specs.History.{Entry, binned, binned_pixels, found, released, number_of, Step}
use Rattle.demands.specs.OldLayout.{unmarked, OldLayoutAnswers4}

old_unsound : {p : List ℕ} → Opened unmarked p → Sound (layout_of p) p → ⊥
unfolding start
old_unsound {p} O S =
    let T : Sound edition p = subst (λ (L : Layout). Sound L p) (layout_one p (λ z. omega (arith, O.table_at))) S in
    let c : 0 < columns (screen_of p) = columns≥ (screen_of p) O.screen in
    let r : 0 < rows (screen_of p) = rows≥ (screen_of p) O.screen in
    let some : columns (screen_of p) * 1 ≤ tiles_of p = mul-le-mul_left (columns (screen_of p)) r in
    omega (arith, O.blocks_at, T.opened.blocks_at)

module _ {p : List ℕ} (n : Sound (layout_of p) p → ⊥) where
  audit_4 : {number : ℕ} → AuditSays p number → number ≡ 4
  audit_4 (AuditSays.damaged d e) = e
  audit_4 (AuditSays.done S e) = absurd (n S)

  high_water_4 : {t : ℕ} {a : HighWater} → HighWaterSays p t a → a.number ≡ 4
  high_water_4 (HighWaterSays.damaged d e) = ap (λ (b : HighWater). b.number) e
  high_water_4 (HighWaterSays.no_tile S h e) = absurd (n S)
  high_water_4 (HighWaterSays.done S h e) = absurd (n S)

  list_4 : {ws : List ℤ} {old : List ℕ} {number : ℕ} {q new : List ℕ} → BinListSays p ws old number q new → number ≡ 4
  list_4 (BinListSays.damaged d e f g) = e
  list_4 (BinListSays.bad_list S d e f g) = absurd (n S)
  list_4 (BinListSays.too_few S r l e f g) = absurd (n S)
  list_4 (BinListSays.done S r l e b) = absurd (n S)

  step_4 : (e : Entry) (q : List ℕ) → Step p e q → number_of e ≡ 4
  step_4 (binned shape id a) q (BinSays.damaged d e f) = ap (λ (b : Binned). b.number) e
  step_4 (binned shape id a) q (BinSays.bad_id S i e f) = absurd (n S)
  step_4 (binned shape id a) q (BinSays.out_of_range S i o e f) = absurd (n S)
  step_4 (binned shape id a) q (BinSays.placed S i o w) = absurd (n S)
  step_4 (binned_pixels shape id a) q (BinPixelsSays.damaged d e f) = ap (λ (b : Binned). b.number) e
  step_4 (binned_pixels shape id a) q (BinPixelsSays.bad_id S i e f) = absurd (n S)
  step_4 (binned_pixels shape id a) q (BinPixelsSays.offence S i m o e f) = absurd (n S)
  step_4 (binned_pixels shape id a) q (BinPixelsSays.placed S i whole o w) = absurd (n S)
  step_4 (found tile place a) q (ReadSays.damaged d e, f) = ap (λ (b : Found). b.number) e
  step_4 (found tile place a) q (ReadSays.no_tile S h e, f) = absurd (n S)
  step_4 (found tile place a) q (ReadSays.past S h l e, f) = absurd (n S)
  step_4 (found tile place a) q (ReadSays.done S h l e, f) = absurd (n S)
  step_4 (released tile a) q (ReleaseSays.damaged d e f) = ap (λ (b : Released). b.number) e
  step_4 (released tile a) q (ReleaseSays.no_tile S h e f) = absurd (n S)
  step_4 (released tile a) q (ReleaseSays.done S h e f) = absurd (n S)

pub old_layout_answers_4 : OldLayoutAnswers4
old_layout_answers_4 p O =
    let n = old_unsound O in
    record { audit = λ number A. audit_4 n A; step = step_4 n; list = λ ws old number q new B. list_4 n B; high_water = λ t a H. high_water_4 n H }
