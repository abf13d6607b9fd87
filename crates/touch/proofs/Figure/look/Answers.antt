-- `touch::Figure::look` meets its contract: a shape that touches covers wholly exactly if all edges have the corners on their inner side.
use mathlib.Core.Path.{refl, sym, subst}
use mathlib.Core.Bool.{Bool, true, false}
use Rattle.numbers.specs.Says.{Says}
use Rattle.numbers.proofs.Says.{says_iff}
use Rattle.screen.specs.declared.Rectangle.{Rectangle}
use Rattle.shape.specs.declared.Shape.{Shape}
use Rattle.touch.specs.declared.Cover as answer
use Rattle.touch.specs.Touches.{Touches}
use Rattle.touch.specs.Corner.{triangle}
use Rattle.touch.specs.Edges.{starts, row_edges}
use Rattle.touch.specs.Cover.{Wholly, CoverSays}
use Rattle.touch.specs.Look.{whole_or_part}
use Rattle.touch.proofs.Covering.{outline_enclosed_is_wholly}
use Rattle.touch.proofs.Answers.{enclosed_at}
use Rattle.touch.proofs.Figure.look.Goals as goal

told : {shape : Shape} {q : Rectangle} (w : Bool) → Touches shape q → Says w (Wholly shape q) → CoverSays (whole_or_part w) shape q
told true t s = s.yes refl
told false t s = (t, s.no refl)

pub returns-clause-cover : goal.returns-clause-cover
returns-clause-cover c =
    let q : Rectangle = c.args.rectangle in
    let e = c.args.self.edges in
    let h = c.in-Some.ensures in
    let w = outline_enclosed_is_wholly c.args.self.outline c.requires.area.1 in
    subst (λ (r : answer.Cover). CoverSays r (triangle (starts e)) q) (sym c.whole_or_part.ensures)
    (told _ h.0 (says_iff w.0 w.1 (enclosed_at (row_edges e q.top q.bottom) q.left q.right h.1 h.2 h.3)))
