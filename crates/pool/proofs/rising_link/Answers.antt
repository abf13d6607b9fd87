-- `rising_link`: a row of blocks that is not empty begins with the block that it starts from.
use mathlib.Core.Path.{sym, ◌∙◌}
use native.Mathlib.Numerals.{add-one}
use Rattle.pool.proofs.Rising.{link_rising}
use Rattle.pool.proofs.rising_link.Goals as goal

pub returns-else-count-eq0 : goal.returns-else-count-eq0
returns-else-count-eq0 c = add-one _ ∙ sym (link_rising _ _ c.if-count-eq0.false)
