-- `audit::link_of` reads the word after the id places.
use Rattle.audit.proofs.link_of.Goals as goal

pub returns : goal.returns
returns c = rw c.block_at.ensures
