-- `audit::chains_right` says whether all chains are right: the marks of the tiles and of the free chain together are 1 at every block.
use mathlib.Core.Path.{◌≡◌, refl}
use mathlib.Core.Bool.{Bool}
use mathlib.Core.List.{List}
use Prim.Native.Nat.{ℕ, ◌<◌, ◌≤◌}
use native.Mathlib.Omega.{arith}
use lib.ListN.{length, get_or, take}
use lib.Seq.{get_or-take, length-take-le}
use Rattle.numbers.specs.Says.{Says}
use Rattle.numbers.proofs.Says.{says_no, says_iff}
use Rattle.pool.specs.Words.{header_word}
use Rattle.pool.specs.Editions.{layout_for}
use Rattle.audit.specs.Walk.{WalkSays}
use Rattle.audit.proofs.Passing.{zeros}
use Rattle.audit.proofs.Reading.{of_free}
use Rattle.audit.proofs.chains_right.Goals as goal
use Rattle.audit.proofs.chains_right.Goals.{After-walk}

-- whether the first n marks are all 1
front_marked : {r : Bool} (marks : List ℕ) (m n : ℕ) → m ≡ n → n ≤ length marks → Says r ((b : ℕ) → b < length (take m marks) → get_or (take m marks) b 0 ≡ 1)
    → Says r ((b : ℕ) → b < n → get_or marks b 0 ≡ 1)
front_marked marks m n e h says =
    let long = length-take-le m marks (omega arith) in
    says_iff (λ all b lt. omega (arith, all b (omega arith), get_or-take m marks b 0 (omega arith)))
    (λ all b lt. omega (arith, all b (omega arith), get_or-take m marks b 0 (omega arith))) says

-- what the walk along the free blocks says, of the words of the header
told : (c : After-walk) → let a = c.args in
    WalkSays (layout_for a.header.layout) a.pool.now a.header.start c.args.header.blocks (header_word a.pool.now 5) 0 (header_word a.pool.now 4)
    c.tiles_right.new.marks c.walk.new.marks c.walk.result
unfolding header_word
told c =
    let a = c.args in
    of_free (layout_for a.header.layout) a.pool.now a.header.start c.args.header.blocks c.tiles_right.new.marks c.walk.new.marks c.walk.result refl
    c.wide.ensures c.walk.ensures

pub returns-then-not-tiles_right : goal.returns-then-not-tiles_right
returns-then-not-tiles_right c =
    says_no (λ h.
    c.tiles_right.ensures.no c.if-not-tiles_right.true h.tiles (λ b lt. omega (arith, zeros 2048 b, h.once b lt)))

pub returns-in_default : goal.returns-in_default
returns-in_default c =
    let t = c.tiles_right.ensures.yes c.if-not-tiles_right.false in
    let x = rw c.in_default.is at (told (goal.at.returns-in_default c).After-walk) in
    says_no (λ h. x h.free (λ b lt. omega (arith, zeros 2048 b, t.1 b, h.once b lt)))

pub returns : goal.returns
returns c =
    let t = c.tiles_right.ensures.yes c.if-not-tiles_right.false in
    let x = rw c.in-Some.is at (told (goal.at.returns c).After-walk) in
    let marked = front_marked c.walk.new.marks _ c.args.header.blocks (omega arith) (omega arith) c.all_marked.ensures in
    says_iff
    (λ all. record { tiles = t.0; free = x.run; once = λ b lt. omega (arith, zeros 2048 b, t.1 b, x.marked b, all b lt) })
    (λ h b lt. omega (arith, zeros 2048 b, t.1 b, x.marked b, h.once b lt))
    marked
