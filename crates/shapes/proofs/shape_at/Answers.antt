-- `shapes::shape_at` meets its contract: each word that is read is what stands in the list, and the kind picks the shape.
use mathlib.Core.Path.{◌≡◌, sym, ap, ◌∙◌}
use mathlib.Core.Bool.{true, false}
use Prim.Native.Nat.{ℕ, ◌+◌}
use native.Mathlib.Omega.{arith}
use borrow.Author.Rules.{rules}
use lib.ListN.{get_or}
use lib.IntN.{ℤ, pos}
use lib.Signed.{lt_z}
use mir.Syntax.{w32}
use mir.Val.{of_z}
use Rattle.numbers.specs.Is.{kept}
use Rattle.numbers.proofs.Is.{kept_is}
use Rattle.shape.specs.declared.Vertex.{Vertex}
use Rattle.shape.specs.declared.Shape.TheVariants.{Point, Line, Triangle}
use Rattle.shapes.specs.Shapes.{words_from, vertex_from}
use Rattle.shapes.proofs.Words.{read_as}
use Rattle.shapes.proofs.ByKind.{up_to_1, kind_2, past_2}
use Rattle.shapes.proofs.shape_at.Goals as goal
use Rattle.shapes.proofs.shape_at.Goals.{In-minus2147483648-to-1, In-2, In_default}

abbrev read : (x y : ℤ) → Vertex
read x y = record { x = kept w32 x; y = kept w32 y }

reads : (w : ℕ → ℤ) (x y : ℕ) → kept w32 (w x) ≡ w x → kept w32 (w y) ≡ w y → read (w x) (w y) ≡ vertex_from w x y
reads w x y e f = λ i. record { x = e i; y = f i }

pub returns-in-minus2147483648-to-1 : goal.returns-in-minus2147483648-to-1
returns-in-minus2147483648-to-1 c =
    let w : ℕ → ℤ = words_from c.args.list.now c.args.at in
    let here : c.args.at ≡ c.args.at + 0 = omega arith in
    let word : kept w32 (get_or c.args.list.now c.args.at (pos 0)) ≡ w 0
    = kept_is w32 _ (omega arith) ∙ ap (λ (k : ℕ). get_or c.args.list.now k (pos 0)) here in
    let test : lt_z (kept w32 (get_or c.args.list.now c.args.at (pos 0))) (pos 2) ≡ true = cc in
    ap Point (reads w 1 2 (kept_is w32 (w 1) (omega arith)) (kept_is w32 (w 2) (omega arith))) ∙ sym (up_to_1 w (ap (λ (z : ℤ). lt_z z (pos 2)) (sym word) ∙ test))

pub returns-in-2 : goal.returns-in-2
returns-in-2 c =
    let w : ℕ → ℤ = words_from c.args.list.now c.args.at in
    let here : c.args.at + 0 ≡ c.args.at = omega arith in
    let is : of_z w32 (get_or c.args.list.now c.args.at (pos 0)) ≡ 2 = omega arith in
    let a = reads w 1 2 (kept_is w32 (w 1) (omega arith)) (kept_is w32 (w 2) (omega arith)) in
    let b = reads w 3 4 (kept_is w32 (w 3) (omega arith)) (kept_is w32 (w 4) (omega arith)) in
    (λ i. Line (a i) (b i)) ∙ sym (kind_2 w (ap (λ (k : ℕ). get_or c.args.list.now k (pos 0)) here ∙ read_as (omega arith) is))

pub returns-in_default : goal.returns-in_default
returns-in_default c =
    let w : ℕ → ℤ = words_from c.args.list.now c.args.at in
    let here : c.args.at ≡ c.args.at + 0 = omega arith in
    let at-0 = ap (λ (k : ℕ). get_or c.args.list.now k (pos 0)) here in
    let word : kept w32 (get_or c.args.list.now c.args.at (pos 0)) ≡ w 0 = kept_is w32 _ (omega arith) ∙ at-0 in
    let test : lt_z (kept w32 (get_or c.args.list.now c.args.at (pos 0))) (pos 2) ≡ false = cc in
    let not-2 : of_z w32 (get_or c.args.list.now c.args.at (pos 0)) ≡ 2 → ⊥ = search rules in
    let a = reads w 1 2 (kept_is w32 (w 1) (omega arith)) (kept_is w32 (w 2) (omega arith)) in
    let b = reads w 3 4 (kept_is w32 (w 3) (omega arith)) (kept_is w32 (w 4) (omega arith)) in
    let d = reads w 5 6 (kept_is w32 (w 5) (omega arith)) (kept_is w32 (w 6) (omega arith)) in
    (λ i. Triangle (a i) (b i) (d i)) ∙ sym (past_2 w (ap (λ (z : ℤ). lt_z z (pos 2)) (sym word) ∙ test) (λ e. not-2 (ap (of_z w32) (at-0 ∙ e))))
