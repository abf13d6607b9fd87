-- `calls::place` meets its contract. The touched tiles are one list without a tile twice, so that `lists` counts and appends by it.
use mathlib.Core.Path.{refl, sym, ap₂, subst, ◌∙◌}
use Prim.Native.Nat.{ℕ}
use native.Mathlib.Omega.{arith}
use lib.ListN.{take}
use Rattle.numbers.specs.Flag.{flagged, plains}
use Rattle.numbers.proofs.Flag.{flagged<}
use Rattle.screen.specs.declared.Screen.{Screen}
use Rattle.walk.proofs.Exists.{flags_exist}
use Rattle.stepping.specs.Stepped.{TestsSay}
use Rattle.pool.specs.Words.{Layout, layout_of}
use Rattle.pool.specs.Sound.{screen_of, tiles_of}
use Rattle.lists.specs.Appending.{need, append_named}
use Rattle.lists.proofs.AppendLoop.{named_appends}
use Rattle.calls.specs.Tables.{no_room, done}
use Rattle.calls.proofs.Audits.{lists_layout, lists_tiles}
use Rattle.calls.proofs.Placing.{touched_here, as_many, gains_by_flags, all_among}
use Rattle.calls.proofs.place.Goals as goal

pub need-blocks-requires : goal.need-blocks-requires
need-blocks-requires c =
    rw c.wide.ensures (all_among c.requires.0 c.requires.1 c.walk_through-walked.ensures.walked c.requires.4 c.lists_of-lists.ensures)

pub returns-then-wide-blocks : goal.returns-then-wide-blocks
returns-then-wide-blocks c =
    let e =
    c.need-blocks.ensures
    ∙ ap₂ (λ (L : Layout) (n : ℕ). need L c.args.pool.now (plains (take n c.walk_through-walked.new.list))) (lists_layout (c.requires.0, c.requires.1) c.lists_of-lists.ensures) c.wide.ensures in
    no_room _ (touched_here c.requires.0 c.requires.1 c.walk_through-walked.ensures.walked) (omega (arith, e, c.wide-2.ensures, c.free.ensures)) refl refl

pub append_all-requires : goal.append_all-requires
append_all-requires c =
    record {
      among = rw c.wide.ensures (all_among c.requires.0 c.requires.1 c.walk_through-walked.ensures.walked c.requires.4 c.lists_of-lists.ensures);
      in_range = flagged< c.args.id c.requires.3;
      enough = omega (arith, c.need-blocks.ensures, c.wide-2.ensures, c.free.ensures);
    }

pub returns : goal.returns
returns c =
    let p = c.args.pool.now in
    let new = c.walk_through-walked.new.list in
    let e = c.need-blocks.ensures ∙ ap₂ (λ (L : Layout) (n : ℕ). need L p (plains (take n new))) (lists_layout (c.requires.0, c.requires.1) c.lists_of-lists.ensures) c.wide.ensures in
    let flags = flags_exist (screen_of p) c.requires.0.opened.screen c.args.shape in
    done (plains (take c.walk_through-walked.result.count new)) (touched_here c.requires.0 c.requires.1 c.walk_through-walked.ensures.walked) (omega (arith, e, c.if-wide-blocks.false, c.wide-2.ensures, c.free.ensures))
    flags.0 flags.1
    c.walk_through-walked.result.tests (subst (λ (d : Screen). TestsSay d c.args.shape c.walk_through-walked.result.tests) c.requires.1.screen c.walk_through-walked.ensures.tests)
    (λ i. record {
      number = 0;
      tiles = sym (as_many c.requires.0 c.requires.1 c.walk_through-walked.ensures.walked c.requires.4) i;
      blocks = (c.narrow.ensures ∙ e) i;
      tests = c.walk_through-walked.result.tests;
    })
    (c.append_all.ensures ∙ (λ i. append_named (lists_layout (c.requires.0, c.requires.1) c.lists_of-lists.ensures i) (lists_tiles (c.requires.0, c.requires.1) c.lists_of-lists.ensures i) p (take (c.wide.ensures i) new) c.args.id)
    ∙ named_appends (layout_of p) (tiles_of p) p (λ u. flagged c.args.id (flags.0 u)) c.args.id (take c.walk_through-walked.result.count new)
    (gains_by_flags c.requires.0 c.requires.1 c.walk_through-walked.ensures.walked c.requires.4 c.args.id flags.0 flags.1))
