-- `calls::bin_pixels` meets its contract: each test tells a row of the table, or that its cause does not apply.
use mathlib.Core.Path.{refl, sym, ◌∙◌}
use native.Mathlib.Omega.{arith}
use borrow.Author.Rules.{rules}
use Rattle.snap.proofs.Shapes.{whole_in_range}
use Rattle.calls.specs.Tables.{offence, placed}
use Rattle.calls.proofs.Audits.{told_sound}
use Rattle.calls.proofs.bin_pixels.Goals as goal

pub returns-in_default-snapped : goal.returns-in_default-snapped
returns-in_default-snapped c =
    offence (told_sound c.in-Some.is c.audit.ensures).0 c.if-id-ge-ID_LIMIT.false _ (sym c.snap_shape-snapped.ensures ∙ search rules) refl refl

pub place-requires : goal.place-requires
place-requires c =
    let k = told_sound c.in-Some.is c.audit.ensures in
    (k.0, k.1, whole_in_range c.args.shape (sym c.snap_shape-snapped.ensures ∙ c.in-Ok.is), c.if-id-ge-ID_LIMIT.false, omega arith)

pub returns : goal.returns
returns c =
    placed (told_sound c.in-Some.is c.audit.ensures).0 c.if-id-ge-ID_LIMIT.false _ (sym c.snap_shape-snapped.ensures ∙ c.in-Ok.is) c.place.ensures
