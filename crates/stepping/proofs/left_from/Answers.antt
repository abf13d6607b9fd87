-- `stepping::left_from` meets its contract. The invariant: the columns passed are hit, and those of them that are enclosed are found.
use Prim.Native.Nat.{ℕ, ◌-◌}
use mathlib.Core.Path.{sym, subst, ◌∙◌}
use native.Mathlib.Omega.{arith}
use Rattle.screen.specs.declared.Span.{Span}
use Rattle.touch.proofs.Covering.{cover_says_clear, cover_says_enclosed}
use Rattle.walk.specs.Row.{ClearIn, EnclosedIn}
use Rattle.stepping.specs.Row.{Hull}
use Rattle.stepping.proofs.Hulls.{hull_left}
use Rattle.stepping.proofs.Rows.{columns≤}
use Rattle.stepping.proofs.Runs.{down_to, back_stop}
use Rattle.stepping.proofs.left_from.Goals as goal

pub returns-then-not-is_touched : goal.returns-then-not-is_touched
returns-then-not-is_touched c =
    let l = c.loop-before in
    let s = c.args in
    let cover = c.cover_in-cover in
    let low = l.invariant.low≤ in
    let missed = sym c.is_touched.ensures ∙ c.if-not-is_touched.true in
    let P = EnclosedIn s.grid.screen s.row.edges in
    record {
      back =
          record {
            within = omega arith;
            to = omega arith;
            all = λ k u v. l.invariant.hit k (omega arith) v;
            ends = λ k e h. back_stop (ClearIn s.grid.screen s.row.edges) (omega arith) ((cover_says_clear cover.result cover.ensures).no missed) k e;
          };
      whole = λ n to h. subst (λ (k : ℕ). Hull P n k to l.found) (omega arith) (l.invariant.whole n to h);
    }

pub grown-found-requires : goal.grown-found-requires
grown-found-requires c = omega (arith, columns≤ c.args.grid.screen c.args.grid.allowed)

pub loop-before-preserved : goal.loop-before-preserved
loop-before-preserved c =
    let l = c.loop-before in
    let s = c.args in
    let cover = c.cover_in-cover in
    let P = EnclosedIn s.grid.screen s.row.edges in
    record {
      low≤ = omega arith;
      hit =
          down_to (omega arith) l.invariant.hit
          ((cover_says_clear cover.result cover.ensures).yes (sym c.is_touched.ensures ∙ c.if-not-is_touched.false));
      whole =
          λ n to h.
          subst (λ (r : Span). Hull P n (l.before - 1) to r) (sym c.grown-found.ensures)
          (hull_left P (l.invariant.whole n to h) cover.result (omega arith) (cover_says_enclosed cover.result cover.ensures));
    }

pub returns-clause-whole : goal.returns-clause-whole
returns-clause-whole c =
    let l = c.loop-before in
    let low = l.invariant.low≤ in
    let P = EnclosedIn c.args.grid.screen c.args.row.edges in
    λ n to h. subst (λ (k : ℕ). Hull P n k to l.found) (omega arith) (l.invariant.whole n to h)
