-- `poison_first`: the places of the block stand side by side.
use mathlib.Core.Path.{◌≡◌, sym, ap, ◌∙◌}
use Prim.Native.Nat.{ℕ, suc, ◌+◌, ◌*◌}
use native.Mathlib.Omega.{arith}
use lib.ListN.{length, replicate, length-replicate}
use lib.Seq.{paste}
use Rattle.std.specs.List.{between}
use Rattle.std.proofs.lemmas.List.Edits.{length-between}
use Rattle.std.proofs.lemmas.Slice.{put_mid-paste}
use Rattle.pool.specs.Words.{start}
use Rattle.pool.specs.Editions.{layout_for}
use Rattle.lists.proofs.Gives.{fill_paste}
use Rattle.lists.proofs.Lists.poison_first.Goals as goal

pub returns : goal.returns
returns c =
    let a = c.args in
    let L = layout_for a.self.layout in
    let from = c.block_index-from.result in
    let at = start L a.self.tiles + suc L.ids * a.block.0 in
    let poisons = replicate a.count L.poison in
    let e : from ≡ at = c.block_index-from.ensures ∙ omega arith in
    let size : length (between from (from + a.count) a.pool.now) ≡ a.count =
    length-between a.pool.now from (from + a.count) (omega (arith, c.requires)) ∙ omega arith in
    let filled : c.fill.new.self ≡ poisons = c.fill.ensures.after (λ y h. h) ∙ ap (λ (n : ℕ). replicate n L.poison) size in
    put_mid-paste _ _ _ _ poisons a.count filled (omega arith) (sym (length-replicate a.count L.poison))
    ∙ ap (λ (i : ℕ). paste a.pool.now i poisons a.count) e
    ∙ sym (fill_paste L a.self.tiles a.pool.now a.block.0 a.count c.requires)
