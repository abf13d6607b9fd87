-- `audit::screen_of` reads the screen off words 0 to 2.
use mathlib.Core.Path.{refl}
use Rattle.pool.specs.Words.{header_word}
use Rattle.audit.proofs.screen_of.Goals as goal

pub returns : goal.returns
unfolding header_word
returns c = refl
