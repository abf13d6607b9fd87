-- The number and the values of an answer tell the answer: two answers of a call that the rules have alike are one. So the theorems of demands/ that a table
-- admits one outcome only are theorems of what the code returns.
use Rattle.std.proofs.Common.{◌≡◌, ℕ, ap, sym}
use Rattle.std.specs.Prelude.{Result, Ok, Err, Bool, ℤ}
use Rattle.numbers.specs.declared.Refusal.{Refusal}
use Rattle.numbers.proofs.Reasons.{number_once, number_nonzero}
use Rattle.touch.specs.declared.Cover.{Cover}
use Rattle.overlaps.specs.declared.Totals.{Totals}
use Rattle.inside.specs.Inside.{Nested, nested}
use Rattle.calls.specs.declared.Binned as bin
use Rattle.calls.specs.declared.Found as find
use Rattle.calls.specs.declared.PoolCounts as pool
use Rattle.calls.specs.Told.{Binned, told_bin, Released, told_release, Found, told_read, HighWater, told_mark, Copied, told_count}
use Rattle.calls.specs.Told.{PoolCounts, told_counts, Answered, told_cover, Rounded, told_unit, Counted, told_totals}

pub told_bin_once : (x y : Result bin.Binned Refusal) → told_bin x ≡ told_bin y → x ≡ y
told_bin_once (Ok a) (Ok b) e = ap (λ (t : Binned). Ok (record { tiles = t.tiles; blocks = t.blocks; tests = t.tests })) e
told_bin_once (Ok a) (Err s) e = absurd (number_nonzero s (sym (ap (λ (t : Binned). t.number) e)))
told_bin_once (Err r) (Ok b) e = absurd (number_nonzero r (ap (λ (t : Binned). t.number) e))
told_bin_once (Err r) (Err s) e = ap Err (number_once (ap (λ (t : Binned). t.number) e))

pub told_release_once : (x y : Result ℕ Refusal) → told_release x ≡ told_release y → x ≡ y
told_release_once (Ok a) (Ok b) e = ap (λ (t : Released). Ok t.blocks) e
told_release_once (Ok a) (Err s) e = absurd (number_nonzero s (sym (ap (λ (t : Released). t.number) e)))
told_release_once (Err r) (Ok b) e = absurd (number_nonzero r (ap (λ (t : Released). t.number) e))
told_release_once (Err r) (Err s) e = ap Err (number_once (ap (λ (t : Released). t.number) e))

pub told_read_once : (x y : Result find.Found Refusal) → told_read x ≡ told_read y → x ≡ y
told_read_once (Ok a) (Ok b) e = ap (λ (t : Found). Ok (record { id = t.id; whole = t.whole })) e
told_read_once (Ok a) (Err s) e = absurd (number_nonzero s (sym (ap (λ (t : Found). t.number) e)))
told_read_once (Err r) (Ok b) e = absurd (number_nonzero r (ap (λ (t : Found). t.number) e))
told_read_once (Err r) (Err s) e = ap Err (number_once (ap (λ (t : Found). t.number) e))

pub told_mark_once : (x y : Result ℕ Refusal) → told_mark x ≡ told_mark y → x ≡ y
told_mark_once (Ok a) (Ok b) e = ap (λ (t : HighWater). Ok t.entries) e
told_mark_once (Ok a) (Err s) e = absurd (number_nonzero s (sym (ap (λ (t : HighWater). t.number) e)))
told_mark_once (Err r) (Ok b) e = absurd (number_nonzero r (ap (λ (t : HighWater). t.number) e))
told_mark_once (Err r) (Err s) e = ap Err (number_once (ap (λ (t : HighWater). t.number) e))

pub told_count_once : (x y : Result ℕ Refusal) → told_count x ≡ told_count y → x ≡ y
told_count_once (Ok a) (Ok b) e = ap (λ (t : Copied). Ok t.count) e
told_count_once (Ok a) (Err s) e = absurd (number_nonzero s (sym (ap (λ (t : Copied). t.number) e)))
told_count_once (Err r) (Ok b) e = absurd (number_nonzero r (ap (λ (t : Copied). t.number) e))
told_count_once (Err r) (Err s) e = ap Err (number_once (ap (λ (t : Copied). t.number) e))

pub told_counts_once : (x y : Result pool.PoolCounts Refusal) → told_counts x ≡ told_counts y → x ≡ y
told_counts_once (Ok a) (Ok b) e = ap (λ (t : PoolCounts). Ok (record { tiles = t.tiles; blocks = t.blocks; free = t.free; entries = t.entries })) e
told_counts_once (Ok a) (Err s) e = absurd (number_nonzero s (sym (ap (λ (t : PoolCounts). t.number) e)))
told_counts_once (Err r) (Ok b) e = absurd (number_nonzero r (ap (λ (t : PoolCounts). t.number) e))
told_counts_once (Err r) (Err s) e = ap Err (number_once (ap (λ (t : PoolCounts). t.number) e))

pub told_cover_once : (x y : Result Cover Refusal) → told_cover x ≡ told_cover y → x ≡ y
told_cover_once (Ok a) (Ok b) e = ap (λ (t : Answered). Ok t.cover) e
told_cover_once (Ok a) (Err s) e = absurd (number_nonzero s (sym (ap (λ (t : Answered). t.number) e)))
told_cover_once (Err r) (Ok b) e = absurd (number_nonzero r (ap (λ (t : Answered). t.number) e))
told_cover_once (Err r) (Err s) e = ap Err (number_once (ap (λ (t : Answered). t.number) e))

pub told_unit_once : (x y : Result ℤ Refusal) → told_unit x ≡ told_unit y → x ≡ y
told_unit_once (Ok a) (Ok b) e = ap (λ (t : Rounded). Ok t.unit) e
told_unit_once (Ok a) (Err s) e = absurd (number_nonzero s (sym (ap (λ (t : Rounded). t.number) e)))
told_unit_once (Err r) (Ok b) e = absurd (number_nonzero r (ap (λ (t : Rounded). t.number) e))
told_unit_once (Err r) (Err s) e = ap Err (number_once (ap (λ (t : Rounded). t.number) e))

pub told_totals_once : (x y : Result Totals Refusal) → told_totals x ≡ told_totals y → x ≡ y
told_totals_once (Ok a) (Ok b) e = ap (λ (t : Counted). Ok t.totals) e
told_totals_once (Ok a) (Err s) e = absurd (number_nonzero s (sym (ap (λ (t : Counted). t.number) e)))
told_totals_once (Err r) (Ok b) e = absurd (number_nonzero r (ap (λ (t : Counted). t.number) e))
told_totals_once (Err r) (Err s) e = ap Err (number_once (ap (λ (t : Counted). t.number) e))

pub nested_once : (x y : Result Bool Refusal) → nested x ≡ nested y → x ≡ y
nested_once (Ok a) (Ok b) e = ap (λ (t : Nested). Ok t.inside) e
nested_once (Ok a) (Err s) e = absurd (number_nonzero s (sym (ap (λ (t : Nested). t.number) e)))
nested_once (Err r) (Ok b) e = absurd (number_nonzero r (ap (λ (t : Nested). t.number) e))
nested_once (Err r) (Err s) e = ap Err (number_once (ap (λ (t : Nested). t.number) e))
