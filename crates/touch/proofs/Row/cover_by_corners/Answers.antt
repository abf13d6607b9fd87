-- `touch::Row::cover_by_corners` meets its contract: an edge that separates decides; where none does, all three have to keep the corners on their inner side.
use mathlib.Core.Path.{◌≡◌, sym, subst, ◌∙◌}
use mathlib.Core.Bool.{Bool, ◌||◌}
use mathlib.Core.Logic.{◌⊎◌, inl, inr, ⊎_elim}
use lib.IntN.{ℤ}
use mir.Syntax.{w64}
use mir.Val.{SFits}
use Rattle.numbers.specs.Is.{kept}
use Rattle.numbers.specs.Says.{Says}
use Rattle.numbers.proofs.Is.{is_arg}
use Rattle.touch.specs.declared.RowEdge.{RowEdge}
use Rattle.touch.specs.declared.Corners.{Corners}
use Rattle.touch.specs.declared.Cover as answer
use Rattle.touch.specs.Edges.{ApartAt}
use Rattle.touch.specs.Inner.{AllApart, AllOnSide, corners_at, CoverAt}
use Rattle.touch.proofs.Answers.{says_or, enclosed_at, says_whole_or_part}
use Rattle.touch.proofs.Row.cover_by_corners.Goals as goal
use Rattle.touch.proofs.Row.cover_by_corners.Goals.{After-separates-3}

-- the sides are read as they are
module _ (e : RowEdge) {l m : ℤ} {v : Corners} (f : SFits w64 l) (g : SFits w64 m) (h : v ≡ corners_at e (kept w64 l) (kept w64 m)) where
  corners : v ≡ corners_at e l m
  corners = h ∙ (λ i. corners_at e ((is_arg w64 f).same i) ((is_arg w64 g).same i))

  apart : {r : Bool} → Says r (AllApart e.third v) → Says r (ApartAt e l m)
  apart {r} = subst (λ (u : Corners). Says r (AllApart e.third u)) corners

  within : {r : Bool} → Says r (AllOnSide e.third v) → Says r (AllOnSide e.third (corners_at e l m))
  within {r} = subst (λ (u : Corners). Says r (AllOnSide e.third u)) corners

-- whether an edge separates
any-apart : (c : After-separates-3)
    → Says ((c.separates.result || c.separates-2.result) || c.separates-3.result)
    ((ApartAt c.args.self.edges.ab c.args.left c.args.right ⊎ ApartAt c.args.self.edges.bc c.args.left c.args.right)
    ⊎ ApartAt c.args.self.edges.ca c.args.left c.args.right)
any-apart c =
    let ab = apart c.args.self.edges.ab c.ranges.left c.ranges.right c.corners_at-ab_corners.ensures c.separates.ensures in
    let bc = apart c.args.self.edges.bc c.ranges.left c.ranges.right c.corners_at-bc_corners.ensures c.separates-2.ensures in
    let ca = apart c.args.self.edges.ca c.ranges.left c.ranges.right c.corners_at-ca_corners.ensures c.separates-3.ensures in
    says_or (says_or ab bc) ca

pub returns-then-separates : goal.returns-then-separates
returns-then-separates c = λ h. ⊎_elim (⊎_elim h.ab h.bc) h.ca ((any-apart (goal.at.returns-then-separates c).After-separates-3).yes c.if-separates.true)

pub returns : goal.returns
returns c =
    let e = c.args.self.edges in
    let l = c.ranges.left in
    let r = c.ranges.right in
    let none = (any-apart (goal.at.returns c).After-separates-3).no c.if-separates.false in
    subst (λ (u : answer.Cover). CoverAt u e c.args.left c.args.right) (sym c.whole_or_part.ensures)
    (says_whole_or_part
    (enclosed_at e c.args.left c.args.right (within e.ab l r c.corners_at-ab_corners.ensures c.keeps.ensures) (within e.bc l r c.corners_at-bc_corners.ensures c.keeps-2.ensures)
    (within e.ca l r c.corners_at-ca_corners.ensures c.keeps-3.ensures))
    (record { ab = λ h. none (inl (inl h)); bc = λ h. none (inl (inr h)); ca = λ h. none (inr h) }))
