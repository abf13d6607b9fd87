-- `calls::release` meets its contract: the blocks given back are those of the list, by its length.
use Prim.Native.Nat.{ℕ}
use Rattle.numbers.specs.Ceil.{ceil}
use Rattle.pool.specs.Words.{Layout, layout_of, tile_word}
use Rattle.lists.specs.Releasing.{release}
use mathlib.Core.Path.{ap, ap₂, ◌∙◌}
use Rattle.calls.specs.Tables.{done}
use Rattle.calls.proofs.Audits.{told_sound, a_tile, lists_layout, lists_tiles, entries_are}
use Rattle.calls.proofs.release.Goals as goal

pub returns : goal.returns
returns c =
    let k = told_sound c.in-Some.is c.audit.ensures in
    let s = c.args in
    let l = c.if-header-tile.false in
    let r = c.release.ensures in
    let blocks =
    r.given ∙ ap (λ (L : Layout). ceil (tile_word L s.pool.now s.tile.0 0) L.ids) (lists_layout k c.lists_of.ensures) ∙ ap (λ (q : ℕ). ceil q (layout_of s.pool.now).ids) (entries_are k l) in
    done k.0 (a_tile k l) (λ i. record { number = 0; blocks = blocks i })
    (r.words ∙ ap₂ (λ (L : Layout) (n : ℕ). release L n s.pool.now s.tile.0) (lists_layout k c.lists_of.ensures) (lists_tiles k c.lists_of.ensures))
