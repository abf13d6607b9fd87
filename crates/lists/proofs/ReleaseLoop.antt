-- What the loop that gives a tile's blocks back keeps: the chain that is left, the free chain, and how many blocks have been given back.
use mathlib.Core.Path.{◌≡◌, sym, ap, ◌∙◌}
use mathlib.Core.Logic.{◌≢◌}
use mathlib.Core.List.{List, [], ◌∷◌}
use Prim.Native.Nat.{ℕ, zero, suc, ◌+◌, ◌*◌, ◌-◌, ◌≤◌, ◌<◌}
use native.Mathlib.Nat.{not-suc-le-zero}
use native.Mathlib.Omega.{arith}
use lib.ListN.{length, drop, set}
use Rattle.numbers.specs.Ceil.{ceil}
use Rattle.pool.specs.Words.{Layout, room, header_word, tile_word, block_word, tile_set}
use Rattle.pool.specs.Editions.{Sized}
use Rattle.pool.specs.State.{tile_of, link_to, times, Holds}
use Rattle.pool.specs.Sound.{blocks_of}
use Rattle.pool.proofs.Times.{one_same, one_other, times_head, times-tail, times_differ, times_in_tiles-at}
use Rattle.pool.proofs.Chain.{frame}
use Rattle.pool.proofs.Lists.{blocks≤entries}
use Rattle.pool.proofs.State.{times≤, tile_block<}
use Rattle.pool.proofs.Total.{chain_and_free≤}
use Rattle.lists.specs.Releasing.{give_block, give_chain, release}
use Rattle.lists.specs.Reach.{Among, Givable}
use Rattle.lists.proofs.Gives.{give_one}
use Rattle.lists.proofs.Reaches.{block_in, shown, roomed}

-- The link leads to the chain `blocks`, which is left, and `given` of m blocks have been given back; the blocks of `free` are free. To give back what
-- is left, in n steps, ends in the words e.
pub record Giving (L : Layout) (T N : ℕ) (p : List ℕ) (link given : ℕ) (e : List ℕ) (m : ℕ) : Type 0 where
  pub sized : Sized L
  pub n : ℕ
  pub blocks : List ℕ
  pub list : List ℕ
  pub free : List ℕ
  pub linked : link ≡ link_to blocks
  pub ends : give_chain L T n (link_to blocks) p ≡ e
  pub steps : length blocks ≤ n
  pub counted : given + length blocks ≡ m
  pub sum : length free + length blocks ≤ N
  pub few : N ≤ 2048
  pub most : m ≤ 2048
  pub long : room L T N ≤ length p
  pub once : (c : ℕ) → times c blocks + times c free ≤ 1
  pub below : (c : ℕ) → 0 < times c blocks → c < N
  pub count : header_word p 4 ≡ length free
  pub first : header_word p 5 ≡ link_to free
  pub poisoned : Holds L.ids L.poison (block_word L T p) free []
  pub held : Holds L.ids L.poison (block_word L T p) blocks list

pub giving_start : {L : Layout} {p : List ℕ} {T t : ℕ} → Among L p T t
    → Giving L T (blocks_of p) p (tile_word L p t 1) 0 (give_chain L T (tile_word L p t 0) (tile_word L p t 1) p)
    (ceil (tile_word L p t 0) L.ids)
giving_start {L} {p} {T} {t} G =
    let R = shown G in
    let s = G.sound.state in
    let k = R.tile t G.tile in
    let x = tile_of s t in
    let many : length x.blocks ≡ ceil (tile_word L p t 0) L.ids = k.many ∙ ap (λ (q : ℕ). ceil q L.ids) (sym k.entries) in
    let sum : length s.free + length x.blocks ≤ blocks_of p = chain_and_free≤ R t in
    record {
      sized = G.sized;
      n = length x.list;
      blocks = x.blocks;
      list = x.list;
      free = s.free;
      linked = k.first;
      ends = rw (k.entries, k.first);
      steps = blocks≤entries G.sized.fair k;
      counted = omega (arith, many);
      sum = sum;
      few = G.sound.opened.blocks≤;
      most = omega (arith, G.sound.opened.blocks≤);
      long = roomed G;
      once = λ c. omega (arith, times≤ R c, times_in_tiles-at c s.tiles t);
      below = tile_block< R t;
      count = R.count;
      first = R.first;
      poisoned = R.poisoned;
      held = k.held;
    }

module _ {L : Layout} {T N : ℕ} {p : List ℕ} {link given : ℕ} {e : List ℕ} {m : ℕ} (G : Giving L T N p link given e m) (nz : link ≢ 0) where
  -- the link leads to a block, which can be given back
  pub giving_block : (0 < link) × Givable L p T (link - 1) × (given < m)
  giving_block = go G.blocks G.linked G.below G.sum G.counted
    where
      go : (bs : List ℕ) → link ≡ link_to bs → ((c : ℕ) → 0 < times c bs → c < N) → length G.free + length bs ≤ N → given + length bs ≡ m
          → (0 < link) × Givable L p T (link - 1) × (given < m)
      go [] l below sum counted = absurd (nz l)
      go (b ∷ bs) l below sum counted =
          let hb : b < N = below b (times_head b bs) in
          let w : link - 1 ≡ b = omega arith in (
            omega arith,
            rw w (record { sized = G.sized; block = block_in L T N p b _ G.long hb (omega arith); number = omega (arith, G.few); fits = omega (arith, G.count, G.few) }),
            omega arith,
          )

  pub giving_step : (q : List ℕ) (next more : ℕ) → more ≡ given + 1 → q ≡ give_block L T p (link - 1) → next ≡ block_word L T p (link - 1) L.ids
      → Giving L T N q next more e m
  unfolding give_chain
  giving_step q next more em eq en = go G.n G.blocks G.linked G.ends G.steps G.counted G.sum G.once G.below G.held
    where
      go : (n : ℕ) (bs : List ℕ) → link ≡ link_to bs → give_chain L T n (link_to bs) p ≡ e → length bs ≤ n → given + length bs ≡ m
          → length G.free + length bs ≤ N → ((c : ℕ) → times c bs + times c G.free ≤ 1) → ((c : ℕ) → 0 < times c bs → c < N)
          → Holds L.ids L.poison (block_word L T p) bs G.list → Giving L T N q next more e m
      go n [] l ends steps counted sum once below r = absurd (nz l)
      go zero (b ∷ bs) l ends steps counted sum once below r = absurd (not-suc-le-zero steps)
      go (suc n) (b ∷ bs) l ends steps counted sum once below r =
          let w : link - 1 ≡ b = omega arith in
          let z : times b bs ≡ 0 = omega (arith, once b, one_same b) in
          let E = give_one L T N G.sized.fair p b G.free G.long (below b (times_head b bs)) (omega (arith, once b, one_same b)) G.count G.first G.poisoned in
          rw (eq, en, w)
          (record {
            sized = G.sized;
            n = n;
            blocks = bs;
            list = drop L.ids G.list;
            free = b ∷ G.free;
            linked = r.0;
            ends = rw r.0 at ends;
            steps = omega arith;
            counted = omega arith;
            sum = omega arith;
            few = G.few;
            most = G.most;
            long = rw E.within.keeps.long G.long;
            once = λ c. omega (arith, once c);
            below = λ c hc. below c (times-tail c b bs hc);
            count = E.count;
            first = E.first;
            poisoned = E.poisoned;
            held = frame L.ids L.poison (block_word L T p) (block_word L T (give_block L T p b)) bs (drop L.ids G.list)
                (λ c hc. E.blocks c (omega (arith, one_other c b (times_differ c b bs hc z)))) r.2;
          })

-- at the link 0 all is given back
pub giving_end : {L : Layout} {T N : ℕ} {p : List ℕ} {link given : ℕ} {e : List ℕ} {m : ℕ} → Giving L T N p link given e m → link ≡ 0 → (p ≡ e) × (given ≡ m)
unfolding give_chain
giving_end {L} {T} {N} {p} {link} {given} {e} {m} G l = go G.n G.blocks G.linked G.ends G.counted
  where
    go : (n : ℕ) (bs : List ℕ) → link ≡ link_to bs → give_chain L T n (link_to bs) p ≡ e → given + length bs ≡ m → (p ≡ e) × (given ≡ m)
    go zero [] w ends c = (ends, omega arith)
    go (suc n) [] w ends c = (ends, omega arith)
    go n (b ∷ bs) w ends c = absurd (omega arith)

-- the stores at the end, at the places i, j and k
pub release_stores : (L : Layout) (T : ℕ) (p : List ℕ) (t : ℕ) (g : List ℕ) (i j k : ℕ)
    → g ≡ give_chain L T (tile_word L p t 0) (tile_word L p t 1) p
    → i ≡ L.header + L.tile * t + 0 → j ≡ L.header + L.tile * t + 1 → k ≡ L.header + L.tile * t + 2
    → set (set (set g i 0) j 0) k 0 ≡ release L T p t
unfolding release tile_set
release_stores L T p t g i j k e a b c = rw (a, b, c, e)
