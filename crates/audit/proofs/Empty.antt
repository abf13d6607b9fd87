-- A tile without entries has its chain exactly if it names no block, and there is nothing to walk along.
use mathlib.Core.Path.{◌≡◌}
use mathlib.Core.Bool.{Bool}
use mathlib.Core.List.{List}
use Prim.Native.Nat.{ℕ, ◌<◌}
use native.Mathlib.Omega.{arith}
use Rattle.numbers.specs.Ceil.{ceil}
use Rattle.numbers.specs.Says.{Says}
use Rattle.pool.specs.Words.{Layout, tile_word}
use Rattle.pool.specs.State.{times}
use Rattle.pool.proofs.Parts.{ceil_none}
use Rattle.audit.specs.Walk.{Passes, MarkRight, TileRight, chain_of}

module _ (L : Layout) (p : List ℕ) (from n t : ℕ) (0<ids : 0 < L.ids) (empty : tile_word L p t 0 ≡ 0) where
  no_steps : ceil (tile_word L p t 0) L.ids ≡ 0
  no_steps = rw empty (ceil_none L.ids 0<ids)

  pub empty_right : {r : Bool} (v : List ℕ) → Says r ((tile_word L p t 1 ≡ 0) × (tile_word L p t 2 ≡ 0)) → MarkRight L p n t
      → Passes r (TileRight L p from n t) n v v (λ b. times b (chain_of L p from t))
  empty_right v h m = record {
    yes =
        λ e. (
          record { run = rw no_steps (record { chain = (h.yes e).0; filled = tt }); last = rw no_steps (h.yes e).1; mark = m },
          λ b. rw no_steps (omega arith),
        );
    no = λ e k apart. h.no e (rw no_steps at k.run.chain, rw no_steps at k.last);
  }
