-- `open_as`: each return is one row of the table, by the tests that led there.
use mathlib.Core.Path.{◌≡◌, refl, ap₂, ◌∙◌}
use mathlib.Core.Logic.{inl}
use native.Mathlib.Omega.{arith}
use Rattle.screen.specs.Screen.{tiles}
use Rattle.pool.specs.Words.{room}
use Rattle.pool.specs.Opening.{bad_screen, bad_blocks, too_short, done}
use Rattle.pool.specs.Editions.{layout_for}
use Rattle.pool.proofs.Editions.{known_sized}
use Rattle.pool.proofs.open_as.Goals as goal
use Rattle.pool.proofs.open_as.Goals.{After-room}

-- the room that is asked for is that of the screen
needed : (c : After-room) → let a = c.args in c.room.result ≡ room (layout_for a.layout) (tiles a.screen) a.blocks
needed c = c.room.ensures ∙ ap₂ (room (layout_for c.args.layout)) (c.wide.ensures ∙ c.tiles.ensures) c.wide-2.ensures

pub returns-then-not-allowed : goal.returns-then-not-allowed
returns-then-not-allowed c = bad_screen (c.allowed.ensures.no c.if-not-allowed.true) refl refl

pub returns-then-blocks-gt-MOST_BLOCKS : goal.returns-then-blocks-gt-MOST_BLOCKS
returns-then-blocks-gt-MOST_BLOCKS c = bad_blocks (c.allowed.ensures.yes c.if-not-allowed.false) (inl c.if-blocks-gt-MOST_BLOCKS.true) refl refl

pub returns-then-pool-room : goal.returns-then-pool-room
returns-then-pool-room c =
    too_short (c.allowed.ensures.yes c.if-not-allowed.false) c.if-blocks-gt-MOST_BLOCKS.false c.requires
    (omega (arith, needed (goal.at.returns-then-pool-room c).After-room)) refl refl

pub room-requires : goal.room-requires
room-requires c = (known_sized c.requires, omega (arith, (c.allowed.ensures.yes c.if-not-allowed.false).tiles≤), omega arith)

pub write_opening-requires : goal.write_opening-requires
write_opening-requires c =
    (c.requires, c.if-blocks-gt-MOST_BLOCKS.false, omega (arith, needed (goal.at.write_opening-requires c).After-room))

pub returns : goal.returns
returns c =
    done (c.allowed.ensures.yes c.if-not-allowed.false) c.if-blocks-gt-MOST_BLOCKS.false c.requires
    (omega (arith, needed (goal.at.returns c).After-room)) refl c.write_opening.ensures
