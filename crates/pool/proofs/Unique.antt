-- The words settle what they say: two states that the same words show are equal.
use mathlib.Core.Path.{◌≡◌, sym, ◌∙◌}
use mathlib.Core.List.{List, []}
use Prim.Native.Nat.{ℕ}
use native.Mathlib.Omega.{arith}
use lib.Seq.{ext_get_or}
use Rattle.pool.specs.Words.{Layout, Fair, block_word}
use Rattle.pool.specs.State.{Chained, empty, State}
use Rattle.pool.specs.Sound.{TileShows, Shows}
use Rattle.pool.proofs.Chain.{blocks_unique}
use Rattle.pool.proofs.Lists.{list_of_tile}

pub tile_unique : {L : Layout} {T N : ℕ} {p : List ℕ} {t : ℕ} {x y : Chained} → Fair L → TileShows L T N p t x → TileShows L T N p t y → x ≡ y
tile_unique {L} {T} {N} {p} {t} {x} {y} A k l =
    let e : x.blocks ≡ y.blocks
    = blocks_unique L.ids L.poison (block_word L T p) x.blocks y.blocks x.list y.list (sym k.first ∙ l.first) k.held l.held in
    let f : x.list ≡ y.list = sym (list_of_tile A k) ∙ list_of_tile A l in
    let g : x.mark ≡ y.mark = sym k.mark ∙ l.mark in
    λ i. record { blocks = e i; list = f i; mark = g i }

pub state_unique : {L : Layout} {T N : ℕ} {p : List ℕ} {s r : State} → Fair L → Shows L T N p s → Shows L T N p r → s ≡ r
state_unique {L} {T} {N} {p} {s} {r} A R Q =
    let e : s.free ≡ r.free
    = blocks_unique L.ids L.poison (block_word L T p) s.free r.free [] [] (sym R.first ∙ Q.first) R.poisoned Q.poisoned in
    let f : s.tiles ≡ r.tiles = ext_get_or empty s.tiles r.tiles (R.tiled ∙ sym Q.tiled)
    (λ t ht. tile_unique A (R.tile t (omega (arith, R.tiled))) (Q.tile t (omega (arith, R.tiled)))) in
    λ i. record { free = e i; tiles = f i }
