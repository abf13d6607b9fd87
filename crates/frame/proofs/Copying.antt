-- A tile's list that is copied into a buffer, one stretch after the other; and all lists, one behind the other.
use mathlib.Core.Path.{◌≡◌, sym, ap, ◌∙◌}
use mathlib.Core.List.{List}
use Prim.Native.Nat.{ℕ, ◌+◌, ◌-◌, ◌≤◌, ◌<◌, min}
use native.Mathlib.Omega.{arith}
use lib.ListN.{length, get_or, take, drop}
use lib.Seq.{length-take-le, take-add}
use Rattle.pool.specs.Words.{Layout, tile_word, block_word}
use Rattle.pool.specs.Sound.{blocks_of}
use Rattle.pool.specs.Lists.{list_of}
use Rattle.pool.specs.Written.{written, Puts}
use Rattle.pool.proofs.Putting.{puts_none, puts_then}
use Rattle.lists.specs.Reach.{BlockIn, Among}
use Rattle.frame.specs.declared.Stretch.{Stretch}
use Rattle.frame.specs.Frame.{Stretches}
use Rattle.frame.proofs.Following.{Following, follow-start, follow-part, follow_step, named_in}
use Rattle.frame.proofs.Pieces.{length_part, get_d_part}

-- the first `done` entries of a tile's list stand in the buffer from `at` on and before `next`; the link names the block with the next ones
pub record Copying (L : Layout) (T : ℕ) (p : List ℕ) (t : ℕ) (old : List ℕ) (at : ℕ) (new : List ℕ) (link next : ℕ) : Type 0 where
  pub done : ℕ
  pub follows : Following L.ids L.poison (block_word L T p) (blocks_of p) (list_of L T p t) link done
  pub put : Puts old at (take done (list_of L T p t)) new next

module _ {L : Layout} {p : List ℕ} {T t : ℕ} (G : Among L p T t) {old : List ℕ} {at : ℕ} where
  pub copy_start : Copying L T p t old at old (tile_word L p t 1) at
  copy_start = record { done = 0; follows = follow-start G; put = puts_none old at }

  module _ {new : List ℕ} {link next : ℕ} (C : Copying L T p t old at new link next) where
    reached : next ≡ at + C.done
    reached = C.put.next_is ∙ ap (λ (n : ℕ). at + n) (length-take-le C.done (list_of L T p t) C.follows.upto)

    module _ (more : next < at + length (list_of L T p t)) where
      pub copy_block : (0 < link) × BlockIn L T p (link - 1) L.ids
      copy_block = named_in G C.follows (omega (arith, reached))

      module _ {left : ℕ} {r : Stretch} (left_is : left ≡ at + length (list_of L T p t) - next) (S : Stretches L T p link left r) where
        share : r.count ≡ min L.ids (length (list_of L T p t) - C.done)
        share = let e : left ≡ length (list_of L T p t) - C.done = omega (arith, reached) in S.count_is ∙ ap (min L.ids) e

        -- its entries lie in the pool, and there are some, no more than are left
        pub copy_part : (r.at + r.count ≤ length p) × (0 < r.count) × (r.count ≤ left)
        copy_part = (omega (arith, S.at_is, S.count_is, copy_block.1), omega (arith, S.count_is, G.sized.ids≥), omega (arith, S.count_is))

        pub copy_step : {new' : List ℕ} → new' ≡ written new next (take r.count (drop r.at p)) → Copying L T p t old at new' r.link (next + r.count)
        unfolding block_word
        copy_step {new'} e =
            let list = list_of L T p t in
            let more' : C.done < length list = omega (arith, reached) in
            let part = take r.count (drop r.at p) in
            let size : length part ≡ r.count = length_part r.at r.count p copy_part.0 in
            let same : part ≡ take r.count (drop C.done list) =
            follow-part C.follows more' r.count share part size
            (λ j hj. get_d_part r.at r.count p j hj ∙ ap (λ (i : ℕ). get_or p (i + j) 0) S.at_is) in
            let behind : Puts new next part new' (next + r.count) = record { next_is = ap (λ (n : ℕ). next + n) (sym size); after_is = e } in
            record {
              done = C.done + r.count;
              follows = rw S.link_is (follow_step C.follows more' r.count share);
              put = rw (take-add C.done r.count list, ← same) (puts_then C.put behind);
            }
