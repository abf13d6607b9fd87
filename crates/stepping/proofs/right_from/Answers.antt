-- `stepping::right_from` meets its contract. The invariant: the columns passed are hit, and those of them that are enclosed are found.
use Prim.Native.Nat.{ℕ, ◌+◌}
use mathlib.Core.Path.{sym, subst, ◌∙◌}
use native.Mathlib.Omega.{arith}
use Rattle.screen.specs.declared.Span.{Span}
use Rattle.touch.proofs.Covering.{cover_says_clear, cover_says_enclosed}
use Rattle.walk.specs.Row.{EnclosedIn}
use Rattle.walk.proofs.Lists.{up_to}
use Rattle.stepping.specs.Row.{Hull}
use Rattle.stepping.proofs.Hulls.{hull_right}
use Rattle.stepping.proofs.Rows.{columns≤}
use Rattle.stepping.proofs.right_from.Goals as goal

pub returns-then-not-is_touched : goal.returns-then-not-is_touched
returns-then-not-is_touched c =
    let l = c.loop-end in
    let cover = c.cover_in-cover in
    let missed = sym c.is_touched.ensures ∙ c.if-not-is_touched.true in
    record {
      reach = record { from = omega arith; within = omega arith; all = l.invariant.hit; ends = λ h. (cover_says_clear cover.result cover.ensures).no missed };
      whole = l.invariant.whole;
    }

pub grown-found-requires : goal.grown-found-requires
grown-found-requires c = omega (arith, columns≤ c.args.grid.screen c.args.grid.allowed)

pub loop-end-preserved : goal.loop-end-preserved
loop-end-preserved c =
    let l = c.loop-end in
    let s = c.args in
    let cover = c.cover_in-cover in
    let P = EnclosedIn s.grid.screen s.row.edges in
    record {
      hit = up_to l.invariant.hit ((cover_says_clear cover.result cover.ensures).yes (sym c.is_touched.ensures ∙ c.if-not-is_touched.false));
      whole =
          λ n from h.
          subst (λ (r : Span). Hull P n from (l.end + 1) r) (sym c.grown-found.ensures)
          (hull_right P (l.invariant.whole n from h) cover.result (cover_says_enclosed cover.result cover.ensures));
    }

pub returns-clause-whole : goal.returns-clause-whole
returns-clause-whole c =
    let l = c.loop-end in
    let P = EnclosedIn c.args.grid.screen c.args.row.edges in
    λ n from h. subst (λ (k : ℕ). Hull P n from k l.found) (omega arith) (l.invariant.whole n from h)
