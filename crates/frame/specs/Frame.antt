-- All lists of a pool, one after the other; and what a step along a chain promises.
use Rattle.std.specs.Prelude.{◌≡◌, List, [], ◌++◌, ℕ, zero, suc, ◌+◌, ◌*◌, ◌-◌, min, length}
use Rattle.pool.specs.Words.{Layout, start, block_word}
use Rattle.pool.specs.Lists.{table, list_of}
use Rattle.frame.specs.declared.Stretch.{Stretch}

-- the lists of the first n tiles, one after the other
abbrev pub lists_of : Layout → (T : ℕ) → List ℕ → (n : ℕ) → List ℕ
lists_of L T p zero = []
lists_of L T p (suc t) = lists_of L T p t ++ list_of L T p t

-- where each of the lists of T tiles starts among them, and where the last one ends
abbrev pub starts_of : Layout → (T : ℕ) → List ℕ → List ℕ
starts_of L T p = table (suc T) (λ t. length (lists_of L T p t))

-- ---- on the way

-- of `left` entries, those that stand in the block that a link names: where they start, how many they are, and the link to the next block
pub record Stretches (L : Layout) (T : ℕ) (p : List ℕ) (link left : ℕ) (r : Stretch) : Type 0 where
  pub at_is : r.at ≡ start L T + suc L.ids * (link - 1)
  pub count_is : r.count ≡ min L.ids left
  pub link_is : r.link ≡ block_word L T p (link - 1) L.ids
