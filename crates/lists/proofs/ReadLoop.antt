-- What the loop that follows a chain to a place keeps: the chain that is left, the ids that it holds, and that the one at the place is the one asked for.
use mathlib.Core.Path.{◌≡◌, sym, ap, ◌∙◌}
use mathlib.Core.List.{List, [], ◌∷◌}
use Prim.Native.Nat.{ℕ, ◌+◌, ◌*◌, ◌-◌, ◌≤◌, ◌<◌}
use native.Mathlib.Omega.{arith}
use lib.ListN.{length, get_or, drop, length-drop}
use lib.Seq.{get_or-drop}
use Rattle.pool.specs.Words.{Layout, room, tile_word, block_word}
use Rattle.pool.specs.State.{tile_of, link_to, times, Holds}
use Rattle.pool.specs.Sound.{blocks_of}
use Rattle.pool.specs.Lists.{list_of}
use Rattle.pool.proofs.Times.{times_head, times-tail}
use Rattle.pool.proofs.Lists.{blocks_enough, list_of_shows}
use Rattle.pool.proofs.State.{tile_block<}
use Rattle.pool.proofs.Chain.{get_or_within}
use Rattle.lists.specs.Reach.{BlockIn, Among}
use Rattle.lists.proofs.Reaches.{block_in, shown, roomed}

-- The link leads to the chain `blocks`, which holds `list`, and at place `left` of that stands v.
pub record Reading (L : Layout) (T N : ℕ) (p : List ℕ) (link left v : ℕ) : Type 0 where
  pub blocks : List ℕ
  pub list : List ℕ
  pub linked : link ≡ link_to blocks
  pub held : Holds L.ids L.poison (block_word L T p) blocks list
  pub enough : length list ≤ L.ids * length blocks
  pub inside : left < length list
  pub long : room L T N ≤ length p
  pub below : (b : ℕ) → 0 < times b blocks → b < N
  pub value : get_or list left 0 ≡ v

pub reading_start : {L : Layout} {p : List ℕ} {T t : ℕ} (G : Among L p T t) (place : ℕ) → place < tile_word L p t 0
    → Reading L T (blocks_of p) p (tile_word L p t 1) place (get_or (list_of L T p t) place 0)
reading_start {L} {p} {T} {t} G place h =
    let R = shown G in
    let k = R.tile t G.tile in
    let x = tile_of G.sound.state t in
    let e = list_of_shows G.sized.fair R t G.tile in
    record {
      blocks = x.blocks;
      list = x.list;
      linked = k.first;
      held = k.held;
      enough = blocks_enough G.sized.fair k;
      inside = omega (arith, k.entries);
      long = roomed G;
      below = tile_block< R t;
      value = ap (λ (l : List ℕ). get_or l place 0) (sym e);
    }

module _ {L : Layout} {T N : ℕ} {p : List ℕ} {link left v : ℕ} (G : Reading L T N p link left v) where
  -- the link leads to a block, whose words lie in the pool
  pub reading_block : (0 < link) × BlockIn L T p (link - 1) L.ids
  reading_block = go G.blocks G.linked G.enough G.below
    where
      go : (bs : List ℕ) → link ≡ link_to bs → length G.list ≤ L.ids * length bs → ((b : ℕ) → 0 < times b bs → b < N)
          → (0 < link) × BlockIn L T p (link - 1) L.ids
      go [] l enough below = absurd (omega (arith, G.inside))
      go (b ∷ bs) l enough below =
          let w : link - 1 ≡ b = omega arith in
          (omega arith, rw w (block_in L T N p b _ G.long (below b (times_head b bs)) (omega arith)))

  -- the place is in a later block
  pub reading_step : (next : ℕ) → next ≡ block_word L T p (link - 1) L.ids → L.ids ≤ left → Reading L T N p next (left - L.ids) v
  reading_step next en far = go G.blocks G.linked G.held G.enough G.below
    where
      go : (bs : List ℕ) → link ≡ link_to bs → Holds L.ids L.poison (block_word L T p) bs G.list
          → length G.list ≤ L.ids * length bs → ((b : ℕ) → 0 < times b bs → b < N) → Reading L T N p next (left - L.ids) v
      go [] l r enough below = absurd (omega (arith, G.inside))
      go (b ∷ bs) l r enough below =
          let w : link - 1 ≡ b = omega arith in
          let n = length-drop L.ids G.list in
          let at : L.ids + (left - L.ids) ≡ left = omega arith in
          rw (en, w)
          (record {
            blocks = bs;
            list = drop L.ids G.list;
            linked = r.0;
            held = r.2;
            enough = omega arith;
            inside = omega (arith, G.inside);
            long = G.long;
            below = λ c hc. below c (times-tail c b bs hc);
            value = get_or-drop L.ids G.list (left - L.ids) 0 ∙ ap (λ (i : ℕ). get_or G.list i 0) at ∙ G.value;
          })

  -- or in this one
  pub reading_end : left < L.ids → block_word L T p (link - 1) left ≡ v
  reading_end near = go G.blocks G.linked G.held G.enough
    where
      go : (bs : List ℕ) → link ≡ link_to bs → Holds L.ids L.poison (block_word L T p) bs G.list
          → length G.list ≤ L.ids * length bs → block_word L T p (link - 1) left ≡ v
      go [] l r enough = absurd (omega (arith, G.inside))
      go (b ∷ bs) l r enough =
          let w : link - 1 ≡ b = omega arith in
          rw w (r.1 left near ∙ get_or_within G.list left L.poison 0 G.inside ∙ G.value)
