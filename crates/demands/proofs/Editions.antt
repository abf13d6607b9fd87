-- The second edition has two block sizes; words are read in the one layout that they can be a pool of; and those of the second edition are none of the first.
use mathlib.Core.Path.{sym, subst}
use mathlib.Core.Logic.{⊎_elim}
use Prim.Native.Nat.{ℕ}
use native.Mathlib.Omega.{arith}
use Rattle.pool.specs.Words.{Layout, second, Known, two_32, two_64, layout_of}
use Rattle.pool.specs.Sound.{Sound}
use Rattle.pool.proofs.Editions.{layout_known, known-second, opened_layout}
use Rattle.demands.specs.Editions.{SizesOfTheSecond, SoundAsTheySay, OpenedAsAsked, NoPoolOfTheFirst}
use Rattle.demands.proofs.Demand3.{accepted-opening, fresh}

pub sizes_of_the_second : SizesOfTheSecond
sizes_of_the_second words = (
  known-second words,
  ⊎_elim (λ e. subst (λ (n : ℕ). Known (second n)) (sym e) two_32) (λ e. subst (λ (n : ℕ). Known (second n)) (sym e) two_64),
)

pub sound_as_they_say : SoundAsTheySay
sound_as_they_say p = (
  (λ S. (layout_of p, layout_known p, S)),
  (λ r. subst (λ (L : Layout). Sound L p) (sym (opened_layout r.1 r.2.opened)) r.2),
)

pub opened_as_asked : OpenedAsAsked
opened_as_asked L d N old p O = let P = fresh (accepted-opening O) in (P.layout, P.sound)

pub no_pool_of_the_first : NoPoolOfTheFirst
no_pool_of_the_first p words O S = omega (arith, O.table_at, S.opened.table_at)
