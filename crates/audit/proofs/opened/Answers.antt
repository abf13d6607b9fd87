-- `audit::opened` tests the words of the header that an opening writes, and the length, one after the other.
use mathlib.Core.Path.{◌≡◌, ap₂, subst, ◌∙◌}
use native.Mathlib.Omega.{arith}
use Rattle.numbers.proofs.Says.{says_yes, says_no}
use Rattle.screen.specs.Screen.{Allowed}
use Rattle.pool.specs.Words.{room, header_word}
use Rattle.pool.specs.Editions.{layout_for}
use Rattle.pool.proofs.Editions.{sized}
use Rattle.pool.specs.Sound.{screen_of, tiles_of, blocks_of}
use Rattle.audit.proofs.opened.Goals as goal
use Rattle.audit.proofs.opened.Goals.{After-room, Start}

-- the header's screen is within the rules
screened : (s : Start) → Allowed (screen_of s.args.pool.now)
screened s = subst Allowed s.requires.1.screen s.args.header.grid.allowed

-- the room that is asked for is that of the header
needed : (c : After-room) → let a = c.args in c.room.result ≡ room (layout_for a.header.layout) (tiles_of a.pool.now) (blocks_of a.pool.now)
needed c =
    let h = c.requires.1 in
    c.room.ensures ∙ ap₂ (room (layout_for c.args.header.layout)) (c.wide-3.ensures ∙ h.tiles) (c.wide-4.ensures ∙ h.blocks)

pub returns-then-header-gt-MOST_BLOCKS : goal.returns-then-header-gt-MOST_BLOCKS
returns-then-header-gt-MOST_BLOCKS c = says_no (λ o. omega arith)

pub returns-then-wide-header : goal.returns-then-wide-header
unfolding header_word
returns-then-wide-header c = says_no (λ o. omega arith)

pub returns-then-wide-header-2 : goal.returns-then-wide-header-2
unfolding header_word
returns-then-wide-header-2 c = says_no (λ o. omega arith)

pub rest_right-requires : goal.rest_right-requires
rest_right-requires c = (c.args.header.known, c.requires.0)

pub returns-then-not-rest_right : goal.returns-then-not-rest_right
returns-then-not-rest_right c = says_no (λ o. c.rest_right.ensures.no c.if-not-rest_right.true (record { size = o.size_at; zero = o.zero_at }))

pub room-requires : goal.room-requires
room-requires c = (sized c.args.header.layout c.args.header.known, omega (arith, (screened (goal.at.room-requires c).Start).tiles≤), omega arith)

pub returns-then-pool-room : goal.returns-then-pool-room
returns-then-pool-room c = says_no (λ o. omega (arith, needed (goal.at.returns-then-pool-room c).After-room, o.long))

pub returns : goal.returns
unfolding header_word
returns c =
    let rest = c.rest_right.ensures.yes c.if-not-rest_right.false in
    says_yes
    record {
      screen = screened (goal.at.returns c).Start;
      blocks≤ = omega arith;
      table_at = omega arith;
      blocks_at = omega arith;
      size_at = rest.size;
      zero_at = rest.zero;
      long = omega (arith, needed (goal.at.returns c).After-room);
    }
