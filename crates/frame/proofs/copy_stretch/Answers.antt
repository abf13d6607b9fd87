-- `copy_stretch`: a count of 31 is the constant.
use mathlib.Core.Path.{sym, ap, ◌∙◌}
use Prim.Native.Nat.{ℕ}
use lib.ListN.{take}
use Rattle.pool.specs.Written.{written}
use Rattle.frame.proofs.copy_stretch.Goals as goal

pub returns-then-count-eq31 : goal.returns-then-count-eq31
returns-then-count-eq31 c =
    let a = c.args in
    c.copy.ensures ∙ ap (λ (n : ℕ). written a.list.now a.at (take n a.words.now)) (sym c.if-count-eq31.true)
