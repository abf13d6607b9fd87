-- `calls::corner_cover` meets its contract: the answer is that of the test, which the rectangle of a tile of the screen allows.
use Rattle.screen.proofs.Laws.{rectangle_proper, rectangle_has_area, column<, row<}
use borrow.Author.Rules.{rules}
use Rattle.calls.proofs.Asking.{answered_as}
use Rattle.calls.proofs.corner_cover.Goals as goal

pub answer-requires : goal.answer-requires
answer-requires c =
    let s = c.args in
    λ o.
    let column = column< s.screen o.screen s.tile.0 in
    let row = row< s.screen o.screen s.tile.0 o.tile in
    (o.in_range, rectangle_proper s.screen o.screen column row, rectangle_has_area s.screen o.screen column row)

pub returns : goal.returns
returns c = answered_as (λ r p. search rules) c.answer.ensures
