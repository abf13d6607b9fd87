-- The closed tiles along an axis cover it from 0 to where the screen ends, and nothing else. All that is needed is that each tile ends where the next begins, so
-- this holds at any scale.
use mathlib.Core.Path.{◌≡◌, sym, subst, ◌∙◌}
use mathlib.Core.Logic.{⊎_elim}
use Prim.Native.Nat.{ℕ, zero, suc, ◌+◌, ◌*◌, ◌-◌, ◌≤◌, ◌<◌}
use native.Mathlib.Omega.{arith}
use lib.IntN.{ℤ, pos, ◌*ℤ◌}
use lib.Signed.{◌≤ℤ◌, ◌<ℤ◌}
use Rattle.numbers.proofs.Diff.{diff_pos, diff_any, diff_mul, diff_eq, ≤ℤ_trans, <ℤ-≤ℤ, ≤ℤ_or-<}
use Rattle.screen.specs.Screen.{across}
use Rattle.screen.specs.Rectangle.{near, far, Meets}
use Rattle.screen.proofs.Sizes.{across≥}
use Rattle.screen.proofs.Laws.{near_rises, near_first, far-near, far_last, far≤glass}

-- z lies in one of the tiles from first to last: from n times where it begins to n times where it ends
pub record LiesIn (extent s n : ℕ) (z : ℤ) (first last : ℕ) : Type 0 where
  pub tile : ℕ
  pub first≤ : first ≤ tile
  pub ≤last : tile ≤ last
  pub from : (pos n *ℤ near extent s tile) ≤ℤ z
  pub to : z ≤ℤ (pos n *ℤ far extent s tile)

module _ (extent s n : ℕ) (z : ℤ) where
  along : (m first last : ℕ) → first + m ≡ last → last < across extent s
      → (pos n *ℤ near extent s first) ≤ℤ z → z ≤ℤ (pos n *ℤ far extent s last) → LiesIn extent s n z first last
  along zero first last e h l r =
      record { tile = last; first≤ = omega arith; ≤last = omega arith; from = subst (λ (k : ℕ). (pos n *ℤ near extent s k) ≤ℤ z) (omega arith) l; to = r }
  along (suc m) first last e h l r =
      ⊎_elim
      (λ (t : z ≤ℤ (pos n *ℤ far extent s first)). record { tile = first; first≤ = omega arith; ≤last = omega arith; from = l; to = t })
      (λ (t : (pos n *ℤ far extent s first) <ℤ z). further (along m (first + 1) last (omega arith) h (subst (λ (y : ℤ). (pos n *ℤ y) ≤ℤ z) (far-near extent s first (omega arith)) (<ℤ-≤ℤ t)) r))
      (≤ℤ_or-< z (pos n *ℤ far extent s first))
    where
      further : LiesIn extent s n z (first + 1) last → LiesIn extent s n z first last
      further w = let f = w.first≤ in record { tile = w.tile; first≤ = omega arith; ≤last = w.≤last; from = w.from; to = w.to }

  -- what lies from where the first begins to where the last ends lies in one of them
  pub between_tiles : {first last : ℕ} → first ≤ last → last < across extent s
      → (pos n *ℤ near extent s first) ≤ℤ z → z ≤ℤ (pos n *ℤ far extent s last) → LiesIn extent s n z first last
  between_tiles {first} {last} h = along (last - first) first last (omega arith)

-- a number from 0 to where the screen ends lies in one of the tiles
pub in_a_tile : (extent s : ℕ) → 1 ≤ extent → (z : ℤ) → pos 0 ≤ℤ z → z ≤ℤ pos (16 * extent) → (k : ℕ) × (k < across extent s) × Meets extent s z z k
in_a_tile extent s e z l h =
    let a = across≥ extent s e in
    let f : LiesIn extent s 1 z 0 (across extent s - 1)
    = between_tiles extent s 1 z (omega arith) (omega arith)
    (subst (λ (y : ℤ). y ≤ℤ z) (sym (one-times (near extent s 0) ∙ near_first extent s)) l)
    (subst (λ (y : ℤ). z ≤ℤ y) (sym (one-times (far extent s (across extent s - 1)) ∙ far_last extent s (across extent s - 1) (omega arith))) h) in
    let last = f.≤last in (
      f.tile,
      omega arith,
      record {
        from = subst (λ (y : ℤ). y ≤ℤ z) (one-times (near extent s f.tile)) f.from;
        to = subst (λ (y : ℤ). z ≤ℤ y) (one-times (far extent s f.tile)) f.to;
      },
    )
  where
    one-times : (y : ℤ) → pos 1 *ℤ y ≡ y
    one-times y = diff_eq (diff_mul (diff_pos 1) (diff_any y)) (diff_any y) (omega arith)

-- and no other number does
pub tile_within_the_glass : (extent s : ℕ) (z : ℤ) (k : ℕ) → Meets extent s z z k → (pos 0 ≤ℤ z) × (z ≤ℤ pos (16 * extent))
tile_within_the_glass extent s z k m =
    (≤ℤ_trans (subst (λ (y : ℤ). y ≤ℤ near extent s k) (near_first extent s) (near_rises extent s (omega arith))) m.from, ≤ℤ_trans m.to (far≤glass extent s k))
