-- `inside::is_inside` meets its contract: the three vertices are all that a shape has, some of them repeated, and the shape of the figure is the second.
use mathlib.Core.Path.{◌≡◌, ap, subst, ◌∙◌}
use mathlib.Core.Bool.{Bool}
use mathlib.Core.Logic.{◌↔◌}
use Rattle.numbers.specs.Says.{Says}
use Rattle.numbers.proofs.Says.{says_no, says_iff}
use Rattle.shape.specs.declared.Vertex.{Vertex}
use Rattle.shape.specs.declared.Shape.{Shape}
use Rattle.touch.specs.declared.Three.{Three}
use Rattle.touch.specs.Corner.{three, triangle}
use Rattle.touch.specs.Edges.{starts}
use Rattle.touch.specs.Cover.{HasPoint}
use Rattle.touch.proofs.Covering.{point_as_triangle}
use Rattle.inside.specs.Inside.{Inside}
use Rattle.inside.proofs.Means.{ThreeInside, inside_by_three}
use Rattle.inside.proofs.AndThen.{made, not_made}
use Rattle.inside.proofs.is_inside.Goals as goal
use Rattle.inside.proofs.is_inside.Goals.{Joined-has_point, then-has_point, else-has_point}

-- what is told of the triangle of the second's vertices is told of the second
told : (t : Joined-has_point) (v : Vertex) {r : Bool} → Says r (HasPoint (triangle (starts t.figure_of-outer.result.edges)) v.x v.y)
    → Says r (HasPoint t.args.second v.x v.y)
told t v {r} h =
    let second : Shape = t.args.second in
    let same : starts t.figure_of-outer.result.edges ≡ three second = ap starts t.figure_of-outer.ensures ∙ t.three_of.ensures in
    says_iff (point_as_triangle second).1 (point_as_triangle second).0
    (subst (λ (w : Three). Says r (HasPoint (triangle w) v.x v.y)) same h)

-- the first is inside the second exactly if the three vertices are points of that
by_three : (t : Joined-has_point) → let a = t.args in
    ThreeInside t.three_of-2.result a.second ↔ Inside a.first a.second
by_three t =
    let a = t.args in
    rw t.three_of-2.ensures (inside_by_three a.first a.second)

-- the first two vertices
first_two : (c : Joined-has_point) → let v = c.three_of-2.result in let second = c.args.second in
    Says c.if-has_point.value (HasPoint second v.a.x v.a.y × HasPoint second v.b.x v.b.y)
first_two c =
    let v : Three = c.three_of-2.result in
    let a = told c v.a c.has_point.ensures in
    elim c.if-has_point.branch [
      | then-has_point w ↦ made a w.if-has_point.true (told c v.b w.has_point-then-has_point.ensures) w.value-is
      | else-has_point w ↦ not_made a w.if-has_point.false w.value-is
    ]

pub returns-then-has_point-2 : goal.returns-then-has_point-2
returns-then-has_point-2 c =
    let t = (goal.at.returns-then-has_point-2 c).Joined-has_point in
    let v : Three = c.three_of-2.result in
    let h = (first_two t).yes c.if-has_point-2.true in
    says_iff (λ k. (by_three t).0 (h.0, h.1, k)) (λ i. ((by_three t).1 i).2) (told t v.c c.has_point-then-has_point-2.ensures)

pub returns-else-has_point-2 : goal.returns-else-has_point-2
returns-else-has_point-2 c =
    let t = (goal.at.returns-else-has_point-2 c).Joined-has_point in
    let none = (first_two t).no c.if-has_point-2.false in
    rw c.if-has_point-2.false (says_no (λ i. let h = (by_three t).1 i in none (h.0, h.1)))
