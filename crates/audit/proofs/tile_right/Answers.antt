-- `audit::tile_right` says whether a tile has its chain: where it has entries, the walk does, and its end is compared with the word that names the last
-- block. Its mark was tested before.
use mathlib.Core.Path.{◌≡◌, ◌∙◌}
use mathlib.Core.List.{List}
use Prim.Native.Nat.{ℕ, ◌+◌}
use native.Mathlib.Omega.{arith}
use borrow.Author.Tests.{eqb-true, eqb-false}
use lib.Dec.{eqb}
use lib.ListN.{get_or}
use Rattle.numbers.specs.Ceil.{ceil}
use Rattle.numbers.specs.Says.{Says}
use Rattle.numbers.proofs.Says.{says_iff, says_and}
use Rattle.numbers.proofs.Deciding.{says_eq}
use Rattle.pool.specs.Words.{Layout, tile_word}
use Rattle.pool.specs.Editions.{layout_for}
use Rattle.pool.proofs.Editions.{sized}
use Rattle.audit.specs.Walk.{tile_start, WalkSays}
use Rattle.audit.proofs.Passing.{passes_no}
use Rattle.audit.proofs.Reading.{tile_word_lem, tile_entries, of_tile}
use Rattle.audit.proofs.Empty.{empty_right}
use Rattle.audit.proofs.tile_right.Goals as goal
use Rattle.audit.proofs.tile_right.Goals.{After-walk, After-wide-q}

-- once the tile is known as a number
module _ (L : Layout) (p : List ℕ) {k t : ℕ} (is : k ≡ t) where
  -- the words that are read are the tile's
  read : (i : ℕ) → get_or p (tile_start L k + i) 0 ≡ tile_word L p t i
  read i = tile_word_lem L p i is

  is_zero : (i : ℕ) → Says (eqb (get_or p (tile_start L k + i) 0) 0) (tile_word L p t i ≡ 0)
  is_zero i =
      let word = get_or p (tile_start L k + i) 0 in
      says_iff (λ h. omega (arith, read i, h)) (λ h. omega (arith, read i, h)) (says_eq word 0)

-- once the entries are read
entries : (c : After-wide-q) → c.wide-q.result ≡ tile_word (layout_for c.args.header.layout) c.args.pool.now c.args.tile.0 0
entries c = c.wide-q.ensures ∙ tile_entries (layout_for c.args.header.layout) c.args.pool.now c.wide.ensures

-- what the walk says, of the tile's words
told : (c : After-walk) → let a = c.args in let L = layout_for a.header.layout in let p = a.pool.now in
    WalkSays L p a.header.start a.header.blocks (tile_word L p a.tile.0 1) (tile_word L p a.tile.0 0) (ceil (tile_word L p a.tile.0 0) L.ids)
    a.marks.now c.walk.new.marks c.walk.result
told c =
    let a = c.args in
    let L = layout_for a.header.layout in
    of_tile L a.pool.now a.header.start a.header.blocks a.marks.now c.walk.new.marks c.walk.result a.tile.0
    (c.wide-q.ensures ∙ tile_entries L a.pool.now c.wide.ensures) (read L a.pool.now c.wide.ensures 1) c.blocks_for-steps.ensures c.walk.ensures

pub returns-then-not-mark_right : goal.returns-then-not-mark_right
returns-then-not-mark_right c = passes_no (λ h apart. c.mark_right.ensures.no c.if-not-mark_right.true h.mark)

pub returns-then-q-eq0 : goal.returns-then-q-eq0
returns-then-q-eq0 c =
    let a = c.args in
    let L = layout_for a.header.layout in
    empty_right L a.pool.now a.header.start a.header.blocks a.tile.0 (sized c.args.header.layout c.args.header.known).fair.ids> (omega (arith, entries (goal.at.returns-then-q-eq0 c).After-wide-q, c.if-q-eq0.true)) a.marks.now
    (says_and (is_zero L a.pool.now c.wide.ensures 1) (is_zero L a.pool.now c.wide.ensures 2))
    (c.mark_right.ensures.yes c.if-not-mark_right.false)

pub blocks_for-steps-requires : goal.blocks_for-steps-requires
blocks_for-steps-requires c = (sized c.args.header.layout c.args.header.known, omega (arith, c.type_inv.pool (tile_start (layout_for c.args.header.layout) c.wide.result)))

pub returns-in_default : goal.returns-in_default
returns-in_default c = passes_no (λ h apart. (rw c.in_default.is at (told (goal.at.returns-in_default c).After-walk)) h.run apart)

pub returns : goal.returns
returns c =
    let named = read (layout_for c.args.header.layout) c.args.pool.now c.wide.ensures 2 in
    let x = rw c.in-Some.is at (told (goal.at.returns c).After-walk) in
    record {
      yes = λ yes. (record { run = x.run; last = omega (arith, eqb-true, named, x.last_is); mark = c.mark_right.ensures.yes c.if-not-mark_right.false }, x.marked);
      no = λ no h apart. omega (arith, eqb-false, named, h.last, x.last_is);
    }
