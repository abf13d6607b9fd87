-- `touch::Row::cover` meets its contract: the first edge that separates decides; where none does, all three have to keep the corners on their inner side.
use mathlib.Core.Path.{◌≡◌, sym, subst, ◌∙◌}
use mathlib.Core.Bool.{Bool}
use lib.IntN.{ℤ}
use mir.Syntax.{w64}
use mir.Val.{SFits}
use Rattle.numbers.specs.Is.{kept}
use Rattle.numbers.specs.Says.{Says}
use Rattle.numbers.proofs.Is.{is_arg}
use Rattle.numbers.proofs.Says.{says_iff}
use Rattle.touch.specs.declared.RowEdge.{RowEdge}
use Rattle.touch.specs.declared.Ends.{Ends}
use Rattle.touch.specs.declared.Cover as answer
use Rattle.touch.specs.Edges.{ApartAt}
use Rattle.touch.specs.Inner.{AllOnSide, corners_at, CoverAt, ends_at, Outer, Inner}
use Rattle.touch.proofs.Answers.{enclosed_at, says_whole_or_part}
use Rattle.touch.proofs.Extremes.{outer_is_apart, inner_is_on_side}
use Rattle.touch.proofs.Row.cover.Goals as goal

-- the sides are read as they are
module _ (e : RowEdge) {l m : ℤ} {v : Ends} (f : SFits w64 l) (g : SFits w64 m) (h : v ≡ ends_at e (kept w64 l) (kept w64 m)) where
  ends : v ≡ ends_at e l m
  ends = h ∙ (λ i. ends_at e ((is_arg w64 f).same i) ((is_arg w64 g).same i))

  apart : {r : Bool} → Says r (Outer e.third v) → Says r (ApartAt e l m)
  apart {r} k = let o = outer_is_apart e l m in says_iff o.0 o.1 (subst (λ (u : Ends). Says r (Outer e.third u)) ends k)

  within : {r : Bool} → Says r (Inner e.third v) → Says r (AllOnSide e.third (corners_at e l m))
  within {r} k = let o = inner_is_on_side e l m in says_iff o.0 o.1 (subst (λ (u : Ends). Says r (Inner e.third u)) ends k)

pub returns-then-outer : goal.returns-then-outer
returns-then-outer c = λ h.
    h.ab ((apart c.args.self.edges.ab c.ranges.left c.ranges.right c.ends_at-ab_ends.ensures c.outer.ensures).yes c.if-outer.true)

pub returns-then-outer-2 : goal.returns-then-outer-2
returns-then-outer-2 c = λ h.
    h.bc ((apart c.args.self.edges.bc c.ranges.left c.ranges.right c.ends_at-bc_ends.ensures c.outer-2.ensures).yes c.if-outer-2.true)

pub returns-then-outer-3 : goal.returns-then-outer-3
returns-then-outer-3 c = λ h.
    h.ca ((apart c.args.self.edges.ca c.ranges.left c.ranges.right c.ends_at-ca_ends.ensures c.outer-3.ensures).yes c.if-outer-3.true)

pub returns : goal.returns
returns c =
    let e = c.args.self.edges in
    let l = c.ranges.left in
    let r = c.ranges.right in
    let ab = c.ends_at-ab_ends.ensures in
    let bc = c.ends_at-bc_ends.ensures in
    let ca = c.ends_at-ca_ends.ensures in
    subst (λ (u : answer.Cover). CoverAt u e c.args.left c.args.right) (sym c.whole_or_part.ensures)
    (says_whole_or_part
    (enclosed_at e c.args.left c.args.right (within e.ab l r ab c.inner.ensures) (within e.bc l r bc c.inner-2.ensures) (within e.ca l r ca c.inner-3.ensures))
    (record {
      ab = (apart e.ab l r ab c.outer.ensures).no c.if-outer.false;
      bc = (apart e.bc l r bc c.outer-2.ensures).no c.if-outer-2.false;
      ca = (apart e.ca l r ca c.outer-3.ensures).no c.if-outer-3.false;
    }))
