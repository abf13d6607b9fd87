-- `audit::audit_as` says whether the words are a sound pool: its header is right, and its chains are.
use mathlib.Core.Path.{ap, subst, sym}
use mathlib.Core.List.{List}
use Prim.Native.Nat.{ℕ}
use native.Mathlib.Omega.{arith}
use Rattle.pool.specs.Words.{Layout, start, room}
use Rattle.pool.specs.Sound.{Opened, Sound as SoundPool}
use Rattle.pool.specs.Editions.{layout_for}
use Rattle.pool.proofs.Editions.{sized}
use Rattle.audit.specs.Answer.{HeaderOf}
use Rattle.audit.specs.declared.header.Header.{Header}
use Rattle.audit.proofs.Answers.{header_fits}
use Rattle.audit.proofs.Whole.{sound_right, right_sound}
use Rattle.audit.proofs.audit_as.Goals as goal

-- the layout is the header's own
module _ {L : Layout} {p : List ℕ} {h : Header} (a : HeaderOf L p h) where
  own : HeaderOf (layout_for h.layout) p h
  own = subst (λ (M : Layout). HeaderOf M p h) (sym a.layout) a

  own-opened : Opened L p → Opened (layout_for h.layout) p
  own-opened o = subst (λ (M : Layout). Opened M p) (sym a.layout) o

  own-sound : SoundPool L p → SoundPool (layout_for h.layout) p
  own-sound s = subst (λ (M : Layout). SoundPool M p) (sym a.layout) s

  of-own : SoundPool (layout_for h.layout) p → SoundPool L p
  of-own s = subst (λ (M : Layout). SoundPool M p) a.layout s

pub returns-then-pool-layout : goal.returns-then-pool-layout
unfolding room start
returns-then-pool-layout c = λ s. omega (arith, s.opened.long)

pub screen_of-screen-requires : goal.screen_of-screen-requires
screen_of-screen-requires c = omega (arith, (sized c.args.layout c.requires).fair.header>)

pub returns-then-not-allowed : goal.returns-then-not-allowed
returns-then-not-allowed c = λ s. c.allowed.ensures.no c.if-not-allowed.true (rw c.screen_of-screen.ensures s.opened.screen)

pub header_of-header-requires : goal.header_of-header-requires
header_of-header-requires c = (omega (arith, (sized c.args.layout c.requires).fair.header>), c.screen_of-screen.ensures, c.requires)

pub opened-requires : goal.opened-requires
opened-requires c =
    let a = c.header_of-header.ensures in
    (omega (arith, ap (λ (M : Layout). M.header) a.layout), own a)

pub returns-then-not-opened : goal.returns-then-not-opened
returns-then-not-opened c = λ s. c.opened.ensures.no c.if-not-opened.true (own-opened c.header_of-header.ensures s.opened)

pub chains_right-requires : goal.chains_right-requires
unfolding room start
chains_right-requires c =
    let o = c.opened.ensures.yes c.if-not-opened.false in
    let h = header_fits o (own c.header_of-header.ensures) in
    (omega (arith, (sized c.args.layout c.requires).fair.header>), omega (arith, h), omega (arith, h), omega (arith, o, h))

pub returns-then-not-chains_right : goal.returns-then-not-chains_right
returns-then-not-chains_right c = λ sound.
    let a = c.header_of-header.ensures in
    let h = own a in
    let e = c.header_of-header.result.layout in
    c.chains_right.ensures.no c.if-not-chains_right.true
    (right_sound (layout_for e) (sized e c.header_of-header.result.known).fair.ids> c.args.pool.now h.start h.blocks h.tiles (own-sound a sound))

pub returns : goal.returns
returns c =
    let a = c.header_of-header.ensures in
    let h = own a in
    let e = c.header_of-header.result.layout in (
      of-own a
          (sound_right (layout_for e) (sized e c.header_of-header.result.known).fair.ids> c.args.pool.now h.start h.blocks h.tiles (c.opened.ensures.yes c.if-not-opened.false)
          (c.chains_right.ensures.yes c.if-not-chains_right.false)),
      a,
    )
