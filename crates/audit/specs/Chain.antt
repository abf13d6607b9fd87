-- What steps along links meet, and when that is a chain that holds entries. Said of any blocks: word b k is word k of block b.
use Rattle.std.specs.Prelude.{◌≡◌, List, [], ◌∷◌, ℕ, zero, suc, ◌+◌, ◌-◌, ◌<◌, ◌≤◌, min, eqb}
use Rattle.numbers.specs.Sum.{sum_to, one}
use Rattle.pool.specs.Words.{Layout}
use Rattle.pool.specs.State.{times}

-- the blocks that s steps meet, from the block that `link` names; next b is the link of block b
abbrev pub follow : (next : ℕ → ℕ) (s link : ℕ) → List ℕ
follow next zero link = []
follow next (suc s) link = (link - 1) ∷ follow next s (next (link - 1))

-- from `link` on the links name the blocks bs, each one of n, and then end by 0
abbrev pub Chain : (next : ℕ → ℕ) (n link : ℕ) (bs : List ℕ) → Type 0
Chain next n link [] = link ≡ 0
Chain next n link (b ∷ bs) = (link ≡ suc b) × (b < n) × Chain next n (next b) bs

-- q entries lie in the blocks bs from the front, up to `ids` in each: holds b k says that block b holds k of them
abbrev pub Filled : (holds : ℕ → ℕ → Type 0) (ids q : ℕ) (bs : List ℕ) → Type 0
Filled holds ids q [] = Unit {0}
Filled holds ids q (b ∷ bs) = holds b (min ids q) × Filled holds ids (q - ids) bs

-- of the places of a block, the first k hold entries, and the others poison
unfoldable pub Places : Layout → (word : ℕ → ℕ) (k : ℕ) → Type 0
Places L word k = (j : ℕ) → j < L.ids → (j < k → word j < L.limit) × (k ≤ j → word j ≡ L.poison)

-- how many of the first n words are poison
abbrev pub poison_in : Layout → (word : ℕ → ℕ) (n : ℕ) → ℕ
poison_in L word n = sum_to n (λ j. one (eqb (word j) L.poison))

-- how often b stands in the first t of a row of lists
abbrev pub times_in_first : (b : ℕ) (chain : ℕ → List ℕ) (t : ℕ) → ℕ
times_in_first b chain zero = 0
times_in_first b chain (suc t) = times_in_first b chain t + times b (chain t)

module _ (L : Layout) (word : ℕ → ℕ → ℕ) where
  -- the link of a block
  abbrev pub next : (b : ℕ) → ℕ
  next b = word b L.ids

  -- the s blocks from `link` on are a chain, among n blocks, that holds q entries
  pub record Run (n link q s : ℕ) : Type 0 where
    pub chain : Chain next n link (follow next s link)
    pub filled : Filled (λ b. Places L (word b)) L.ids q (follow next s link)
