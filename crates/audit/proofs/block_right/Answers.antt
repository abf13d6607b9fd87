-- `audit::block_right` says whether a block's places are right: where the first k hold ids, the others hold poison exactly if as many do as are left.
use mathlib.Core.Path.{◌≡◌}
use mathlib.Core.List.{List}
use Prim.Native.Nat.{ℕ, ◌+◌, ◌≤◌}
use native.Mathlib.Omega.{arith}
use lib.Dec.{eqb}
use lib.ListN.{length, get_or}
use mir.Val.{bool_byte}
use Rattle.numbers.proofs.Says.{says_no, says_iff}
use Rattle.pool.specs.Words.{edition}
use Rattle.pool.specs.Editions.{layout_for}
use Rattle.pool.proofs.Editions.{sized}
use Rattle.audit.specs.Chain.{Places, poison_in}
use Rattle.audit.proofs.Poison.{poison_more, places_count, count_places}
use Rattle.audit.proofs.Reading.{part, part-length, part_poison, part_below}
use Rattle.audit.proofs.block_right.Goals as goal
use Rattle.audit.proofs.block_right.Goals.{After-block_at-at, then-k-ids+else-wide-ids, else-k-ids}

-- the words from a place on
abbrev word_at : List ℕ → (at : ℕ) → ℕ → ℕ
word_at pool at j = get_or pool (at + j) 0

-- what is counted: the poison in the id places, and the link where it is poison
counted : (p : List ℕ) (at ids : ℕ) {r : ℕ} → at + (ids + 1) ≤ length p → r ≡ poison_in edition (λ j. get_or (part p at (ids + 1)) j 0) (length (part p at (ids + 1)))
    → r ≡ poison_in edition (word_at p at) ids + bool_byte (eqb (word_at p at ids) edition.poison)
counted p at ids long e = omega (arith, e, part_poison p at (ids + 1) long edition, poison_more edition (word_at p at) ids)

-- the block lies within the words
inside : (c : After-block_at-at) → c.block_at-at.result + (c.args.header.layout.ids + 1) ≤ length c.args.pool.now
inside c = omega (arith, c.block_at-at.ensures, c.requires.0)

pub poison_in-requires : goal.poison_in-requires
poison_in-requires c =
    let long = inside (goal.at.poison_in-requires c).After-block_at-at in
    omega (arith, part-length c.args.pool.now c.block_at-at.result (c.args.header.layout.ids + 1) long, (sized c.args.header.layout c.args.header.known).ids≤)

pub overflow_sub-poison_in : goal.overflow_sub-poison_in
overflow_sub-poison_in c =
    let long = inside (goal.at.overflow_sub-poison_in c).After-block_at-at in
    omega (arith, counted c.args.pool.now c.block_at-at.result c.args.header.layout.ids long c.poison_in.ensures)

pub returns-then-wide-ids : goal.returns-then-wide-ids
unfolding Places
returns-then-wide-ids c =
    let long = inside (goal.at.returns-then-wide-ids c).After-block_at-at in
    let p = c.args.pool.now in
    let at = c.block_at-at.result in
    let ids = c.args.header.layout.ids in
    rw (← c.block_at-at.ensures)
    (says_no (λ h. omega (arith, c.if-wide-ids.true, c.wide.ensures, counted p at ids long c.poison_in.ensures, places_count (layout_for c.args.header.layout) (word_at p at) c.args.k c.requires.1 (omega arith) h)))

pub returns : goal.returns
unfolding Places
returns c =
    let L = layout_for c.args.header.layout in
    let p = c.args.pool.now in
    let at = c.block_at-at.result in
    let ids = c.args.header.layout.ids in
    let word : ℕ → ℕ = word_at p at in
    let long = inside (goal.at.returns c).After-block_at-at in
    rw (← c.block_at-at.ensures)
    (says_iff
    (λ h.
    elim c.if-k-ids.branch [
      | then-k-ids+else-wide-ids w ↦ count_places L word c.args.k c.requires.1 (omega arith) h (omega (arith, counted p at ids long w.poison_in.ensures, w.wide.ensures))
      | else-k-ids w ↦ λ j lt. (h j, λ past. absurd (omega arith))
    ])
    (λ h j lt. (h j (omega (arith, c.requires.1))).0 lt)
    (part_below p at c.args.k (omega (arith, long, c.requires.1)) c.all_entries.ensures))
