-- `inside::inside` meets its contract: each test tells a row of the table, or that its cause does not apply.
use mathlib.Core.Path.{refl}
use Rattle.numbers.proofs.Says.{says_and}
use Rattle.inside.specs.Inside.{out_of_range, done}
use Rattle.inside.proofs.inside.Goals as goal

pub returns-then-not-in_range : goal.returns-then-not-in_range
returns-then-not-in_range c =
    let o = (says_and c.one_shape.ensures c.one_shape-2.ensures).yes c.if-not-one_shape.false in
    let first = c.shape_at-inner.ensures in
    let second = c.shape_at-outer.ensures in
    out_of_range o.0 o.1 (rw (first, second) at ((says_and c.in_range.ensures c.in_range-2.ensures).no c.if-not-in_range.true)) refl

pub returns : goal.returns
returns c =
    let o = (says_and c.one_shape.ensures c.one_shape-2.ensures).yes c.if-not-one_shape.false in
    let first = c.shape_at-inner.ensures in
    let second = c.shape_at-outer.ensures in
    let r = rw (first, second) at ((says_and c.in_range.ensures c.in_range-2.ensures).yes c.if-not-in_range.false) in
    done o.0 o.1 r.0 r.1 _ (rw (first, second) at c.is_inside.ensures) refl
