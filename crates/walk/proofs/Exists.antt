-- Each shape has its list of touched tiles and its flags, on every screen within the rules: whether a tile is touched, and whether it is wholly covered, is
-- decided by the corners, tile by tile.
use Prim.Native.Nat.{ℕ, zero, suc, ◌+◌, ◌≤◌, ◌<◌}
use mathlib.Core.Path.{refl, subst}
use mathlib.Core.Bool.{Bool, true, false}
use mathlib.Core.List.{List}
use mathlib.Core.Logic.{◌⊎◌, inl, inr, ⊎_elim}
use native.Mathlib.Omega.{arith}
use lib.ListN.{length, set, take, replicate, length-replicate}
use Rattle.numbers.specs.Says.{Says}
use Rattle.screen.specs.declared.Screen.{Screen}
use Rattle.screen.specs.Screen.{Allowed, tiles}
use Rattle.screen.specs.Rectangle.{rectangle}
use Rattle.screen.proofs.Laws.{rectangle_proper, rectangle_has_area, column<, row<}
use Rattle.shape.specs.declared.Shape.{Shape}
use Rattle.touch.specs.declared.Cover.{Cover}
use Rattle.touch.specs.Touches.{Touches}
use Rattle.touch.specs.Cover.{Wholly, CoverSays}
use Rattle.touch.proofs.Answers.{corner_says_touching, enclosed, enclosed_says_wholly}
use Rattle.walk.specs.Touched.{TouchedTiles, FlagsOf}
use Rattle.walk.specs.Lists.{IsTouched, Below, Lists}
use Rattle.walk.proofs.Lists.{lists_none, lists_iff, lists_run, lists_skip, lists_few, run_none, run_more}
use Rattle.walk.proofs.Touched.{lists_touched}

-- ---- what is decided of each number can be listed

module _ (P : ℕ → Type 0) (T : ℕ) (decided : (t : ℕ) → t < T → P t ⊎ (P t → ⊥)) (old : List ℕ) (room : T ≤ length old) where
  record Listing (m : ℕ) : Type 0 where
    count : ℕ
    new : List ℕ
    lists : Lists (Below m P) count old new

  -- the number m is appended where it satisfies P
  next : {m : ℕ} → m < T → Listing m → P m ⊎ (P m → ⊥) → Listing (suc m)
  next {m} h l =
      ⊎_elim
      (λ (p : P m).
      let few = lists_few l.count l.lists (λ t q. q.0) in
      let size = l.lists.size in
      let run = run_more P 0 (run_none P 0 m l.count l.new) p (omega arith) in
      let before : Lists (Below (0 + m) P) l.count old l.new
      = subst (λ (k : ℕ). Lists (Below k P) l.count old l.new) (omega arith) l.lists in
      let new = set l.new l.count (0 + m) in
      record {
        count = l.count + 1;
        new = new;
        lists =
            subst (λ (k : ℕ). Lists (Below k P) (l.count + 1) old new) (omega arith)
            (lists_run P before run (λ k u v. subst P (omega arith) p));
      })
      (λ (n : P m → ⊥). record { count = l.count; new = l.new; lists = lists_skip P (omega arith) (λ t u v p. n (subst P (omega arith) p)) l.lists })

  listing : (m : ℕ) → m ≤ T → Listing m
  listing zero h = record { count = 0; new = old; lists = lists_none (Below 0 P) old (λ t q. let b = q.0 in omega arith) }
  listing (suc m) h = next h (listing m (omega arith)) (decided m h)

-- ---- the touched tiles

decided : {P : Type 0} {r : Bool} → Says r P → P ⊎ (P → ⊥)
decided {r = true} h = inl (h.yes refl)
decided {r = false} h = inr (h.no refl)

module _ (d : Screen) (a : Allowed d) (shape : Shape) where
  touched_decided : (t : ℕ) → t < tiles d → IsTouched d shape t ⊎ (IsTouched d shape t → ⊥)
  touched_decided t h =
      ⊎_elim
      (λ (p : Touches shape (rectangle d t)). inl (h, p))
      (λ (n : Touches shape (rectangle d t) → ⊥). inr (λ p. n p.1))
      (decided (corner_says_touching shape (rectangle d t) (rectangle_proper d a (column< d a t) (row< d a t h))))

  pub touched_tiles_exist : (ts : List ℕ) × TouchedTiles d shape ts
  touched_tiles_exist =
      let long = length-replicate {A = ℕ} (tiles d) 0 in
      let l = listing (IsTouched d shape) (tiles d) touched_decided (replicate {A = ℕ} (tiles d) 0) (omega arith) (tiles d) (omega arith) in
      let all = lists_iff (Below (tiles d) (IsTouched d shape)) (IsTouched d shape) (λ t p. p.1) (λ t p. (p.0, p)) l.lists in
      (take l.count l.new, lists_touched (omega arith) all)

  pub flags_exist : (flag : ℕ → Bool) × FlagsOf d shape flag
  flags_exist = (
    (λ t. enclosed shape (rectangle d t)),
    λ t h. enclosed_says_wholly shape (rectangle d t) (rectangle_has_area d a (column< d a t) (row< d a t h)),
  )

  -- each tile is covered in one of the three ways
  pub cover_exists : (t : ℕ) → t < tiles d → (r : Cover) × CoverSays r shape (rectangle d t)
  cover_exists t h = go (decided (flags_exist.1 t h)) (touched_decided t h)
    where
      go : Wholly shape (rectangle d t) ⊎ (Wholly shape (rectangle d t) → ⊥) → IsTouched d shape t ⊎ (IsTouched d shape t → ⊥)
          → (r : Cover) × CoverSays r shape (rectangle d t)
      go (inl w) p = (Cover.Wholly, w)
      go (inr n) (inl p) = (Cover.Partly, (p.1, n))
      go (inr n) (inr o) = (Cover.Apart, λ k. o (h, k))
