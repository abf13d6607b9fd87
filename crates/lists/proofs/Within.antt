-- A change within the room: it keeps the length, the tail of the slice, and every word of the header but 4 and 5.
use mathlib.Core.Path.{◌≡◌, refl, ◌∙◌}
use mathlib.Core.Logic.{◌≢◌}
use mathlib.Core.List.{List}
use Prim.Native.Nat.{ℕ, suc, ◌≤◌, ◌<◌}
use native.Mathlib.Omega.{arith}
use lib.ListN.{get_or}
use lib.Seq.{get_or-set_other}
use Rattle.pool.specs.Words.{Layout, start, room, header_set, tile_set, block_set}
use Rattle.pool.proofs.Words.{row_within, header≤start, start≤room, header_set_other, header_tile_set, header_block_set, length-header_set, length-tile_set, length-block_set}
use Rattle.pool.proofs.Header.{Keeps}

pub record Within (L : Layout) (T N : ℕ) (p q : List ℕ) : Type 0 where
  pub keeps : Keeps L p q
  pub tail : (i : ℕ) → room L T N ≤ i → get_or q i 0 ≡ get_or p i 0

module _ {L : Layout} {T N : ℕ} where
  pub within_none : {p : List ℕ} → Within L T N p p
  within_none = record { keeps = record { long = refl; fixed = λ k hk k4 k5. refl }; tail = λ i hi. refl }

  pub within_then : {p q r : List ℕ} → Within L T N p q → Within L T N q r → Within L T N p r
  within_then v w = record {
    keeps = record {
      long = w.keeps.long ∙ v.keeps.long;
      fixed = λ k hk k4 k5. w.keeps.fixed k hk k4 k5 ∙ v.keeps.fixed k hk k4 k5;
    };
    tail = λ i hi. w.tail i hi ∙ v.tail i hi;
  }

  -- a word of the header, which is word 4 or 5
  pub within_header : (p : List ℕ) (k v : ℕ) → k < L.header → ((j : ℕ) → j ≢ 4 → j ≢ 5 → j ≢ k) → Within L T N p (header_set p k v)
  unfolding header_set
  within_header p k v hk ne = record {
    keeps = record { long = length-header_set p k v; fixed = λ j hj j4 j5. header_set_other p k v j (ne j j4 j5) };
    tail = λ i hi. get_or-set_other p k i v 0 (omega (arith, header≤start L T, start≤room L T N));
  }

  pub within_tile : (p : List ℕ) (t i v : ℕ) → t < T → i < L.tile → Within L T N p (tile_set L p t i v)
  unfolding tile_set start
  within_tile p t i v ht hi = record {
    keeps = record { long = length-tile_set L p t i v; fixed = λ k hk k4 k5. header_tile_set L p t i v k hk };
    tail = λ j hj. get_or-set_other p _ j v 0 (omega (arith, row_within L.tile hi ht, start≤room L T N));
  }

  pub within_block : (p : List ℕ) (b k v : ℕ) → b < N → k ≤ L.ids → Within L T N p (block_set L T p b k v)
  unfolding block_set room
  within_block p b k v hb hk =
      let hk' : k < suc L.ids = omega arith in
      record {
        keeps = record { long = length-block_set L T p b k v; fixed = λ j hj j4 j5. header_block_set L T p b k v j hj };
        tail = λ j hj. get_or-set_other p _ j v 0 (omega (arith, row_within (suc L.ids) hk' hb));
      }
