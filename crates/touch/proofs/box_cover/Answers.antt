-- `touch::box_cover` meets its contract: a case for each answer of the test.
use Rattle.touch.proofs.box_cover.Goals as goal

pub returns-then-box_touches : goal.returns-then-box_touches
returns-then-box_touches c = c.box_touches.ensures.yes c.if-box_touches.true

pub returns-else-box_touches : goal.returns-else-box_touches
returns-else-box_touches c = c.box_touches.ensures.no c.if-box_touches.false
