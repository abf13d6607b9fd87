-- The list that is read off the words of a tile is the list that the state says.
use mathlib.Core.Path.{◌≡◌, refl, ap, ap₂, ◌∙◌}
use mathlib.Core.Logic.{⊎_elim}
use mathlib.Core.List.{List, [], ◌∷◌, ◌++◌}
use Prim.Native.Nat.{ℕ, zero, suc, ◌+◌, ◌*◌, ◌-◌, ◌≤◌, ◌<◌}
use native.Mathlib.Nat.{le_of_suc-le-suc, not-suc-le-zero}
use native.Mathlib.Omega.{arith}
use lib.ListN.{length, get_or, take, drop, length-append, get_or-append}
use lib.Seq.{get_or-append-add, get_or-drop, get_or-take, length-take-le, ext_get_or}
use Rattle.numbers.proofs.Ceil.{lt_or_ge, ceil_enough, ceil-least}
use Rattle.pool.specs.Words.{Layout, Fair, block_word}
use Rattle.pool.specs.State.{Chained, State, tile_of, link_to, Holds}
use Rattle.pool.specs.Sound.{TileShows, Shows}
use Rattle.pool.specs.Lists.{table, gather, list_of}
use Rattle.pool.proofs.Parts.{ceil≤}

pub length-table : (n : ℕ) (f : ℕ → ℕ) → length (table n f) ≡ n
length-table zero f = refl
length-table (suc n) f = ap suc (length-table n (λ k. f (suc k)))

pub get_or-table : (n : ℕ) (f : ℕ → ℕ) (k d : ℕ) → k < n → get_or (table n f) k d ≡ f k
get_or-table zero f k d h = absurd (not-suc-le-zero h)
get_or-table (suc n) f zero d h = refl
get_or-table (suc n) f (suc k) d h = get_or-table n (λ j. f (suc j)) k d (le_of_suc-le-suc h)

pub table_same : (n : ℕ) (f g : ℕ → ℕ) → ((k : ℕ) → k < n → f k ≡ g k) → table n f ≡ table n g
table_same zero f g h = refl
table_same (suc n) f g h =
    ap₂ (λ (x : ℕ) (xs : List ℕ). x ∷ xs) (h 0 (omega arith)) (table_same n (λ k. f (suc k)) (λ k. g (suc k)) (λ k l. h (suc k) (omega arith)))

-- ---- the places of a chain, gathered

module _ (ids poison : ℕ) (g : ℕ → ℕ → ℕ) where
  pub length-gather : (n : ℕ) (bs list : List ℕ) → length bs ≤ n → Holds ids poison g bs list → length (gather ids g n (link_to bs)) ≡ ids * length bs
  length-gather zero [] list h r = omega arith
  length-gather (suc n) [] list h r = omega arith
  length-gather zero (b ∷ bs) list h r = absurd (not-suc-le-zero h)
  length-gather (suc n) (b ∷ bs) list h r =
      length-append (table ids (g b)) (gather ids g n (g b ids))
      ∙ rw (length-table, r.0, length-gather n bs (drop ids list) (le_of_suc-le-suc h) r.2) (omega arith)

  pub get_or-gather : (n : ℕ) (bs list : List ℕ) (i : ℕ) → length bs ≤ n → i < ids * length bs → Holds ids poison g bs list
      → get_or (gather ids g n (link_to bs)) i poison ≡ get_or list i poison
  get_or-gather n [] list i h l r = absurd (omega arith)
  get_or-gather zero (b ∷ bs) list i h l r = absurd (not-suc-le-zero h)
  get_or-gather (suc n) (b ∷ bs) list i h l r =
      ⊎_elim
      (λ (hi : i < ids).
      get_or-append (table ids (g b)) (gather ids g n (g b ids)) poison i (rw length-table hi) ∙ get_or-table ids (g b) i poison hi ∙ r.1 i hi)
      (λ (hi : ids ≤ i).
      let e : i ≡ length (table ids (g b)) + (i - ids) = omega (arith, length-table ids (g b)) in
      ap (λ (k : ℕ). get_or (table ids (g b) ++ gather ids g n (g b ids)) k poison) e
      ∙ get_or-append-add (table ids (g b)) (gather ids g n (g b ids)) (i - ids) poison
      ∙ rw r.0 (get_or-gather n bs (drop ids list) (i - ids) (le_of_suc-le-suc h) (omega arith) r.2)
      ∙ get_or-drop ids list (i - ids) poison
      ∙ ap (λ (k : ℕ). get_or list k poison) (omega arith))
      (lt_or_ge i ids)

  pub take-gather : (n : ℕ) (bs list : List ℕ) → length bs ≤ n → length list ≤ ids * length bs → Holds ids poison g bs list
      → take (length list) (gather ids g n (link_to bs)) ≡ list
  take-gather n bs list h l r =
      let whole = gather ids g n (link_to bs) in
      let len = length-gather n bs list h r in
      let len' : length (take (length list) whole) ≡ length list = length-take-le (length list) whole (omega arith) in
      ext_get_or poison (take (length list) whole) list len'
      (λ i hi. get_or-take (length list) whole i poison (omega arith) ∙ get_or-gather n bs list i h (omega arith) r)

-- ---- the number of blocks of a tile, as orders of products

module _ {L : Layout} {T N : ℕ} {p : List ℕ} {t : ℕ} {x : Chained} (A : Fair L) (k : TileShows L T N p t x) where
  pub blocks_enough : length x.list ≤ L.ids * length x.blocks
  blocks_enough = rw k.many (ceil_enough (length x.list) L.ids A.ids>)

  pub blocks_least : L.ids * length x.blocks < length x.list + L.ids
  blocks_least = rw k.many (ceil-least (length x.list) L.ids A.ids>)

  pub blocks≤entries : length x.blocks ≤ length x.list
  blocks≤entries = rw k.many (ceil≤ L.ids A.ids> (length x.list))

  -- ---- the list of a tile

  pub list_of_tile : list_of L T p t ≡ x.list
  unfolding list_of
  list_of_tile =
      rw (k.entries, k.first)
      (take-gather L.ids L.poison (block_word L T p) (length x.list) x.blocks x.list blocks≤entries blocks_enough k.held)

pub list_of_shows : {L : Layout} {T N : ℕ} {p : List ℕ} {s : State} → Fair L → Shows L T N p s → (t : ℕ) → t < T → list_of L T p t ≡ (tile_of s t).list
list_of_shows A R t ht = list_of_tile A (R.tile t ht)
