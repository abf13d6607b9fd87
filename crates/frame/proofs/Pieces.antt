-- A part of a list, and a list that is written into another in pieces, of which one may begin before another ends.
use mathlib.Core.Path.{◌≡◌, sym, ap, ◌∙◌}
use mathlib.Core.List.{List, [], ◌∷◌, ◌++◌}
use Prim.Native.Nat.{ℕ, suc, ◌+◌, ◌-◌, ◌≤◌, ◌<◌}
use native.Mathlib.Nat.{le_of_suc-le-suc, not-suc-le-zero}
use native.Mathlib.Omega.{arith}
use lib.ListN.{length, get_or, set, take, drop, length-drop}
use lib.Seq.{set-set, set_comm, length-take-le, get_or-take, get_or-drop, take-add}
use Rattle.pool.specs.Written.{written}
use Rattle.pool.proofs.Written.{written_none, written_next, written-append}
use Rattle.pool.proofs.Putting.{take-written}

pub length_part : (from count : ℕ) (p : List ℕ) → from + count ≤ length p → length (take count (drop from p)) ≡ count
length_part from count p h = length-take-le count (drop from p) (omega (arith, length-drop from p))

pub get_d_part : (from count : ℕ) (p : List ℕ) (j : ℕ) → j < count → get_or (take count (drop from p)) j 0 ≡ get_or p (from + j) 0
get_d_part from count p j h = get_or-take count (drop from p) j 0 h ∙ get_or-drop from p j 0

-- a word before them may be set before
written_behind : (p : List ℕ) (from i v : ℕ) (words : List ℕ) → i < from → set (written p from words) i v ≡ written (set p i v) from words
written_behind p from i v [] h = ap (λ (q : List ℕ). set q i v) (written_none p from) ∙ sym (written_none (set p i v) from)
written_behind p from i v (w ∷ words) h =
    ap (λ (q : List ℕ). set q i v) (written_next p from w words)
    ∙ written_behind (set p from w) (suc from) i v words (omega arith)
    ∙ ap (λ (q : List ℕ). written q (suc from) words) (set_comm p from i w v (omega arith))
    ∙ sym (written_next (set p i v) from w words)

-- what is written over is gone
written_over : (p : List ℕ) (from : ℕ) (old new : List ℕ) → length old ≤ length new → written (written p from old) from new ≡ written p from new
written_over p from [] new h = ap (λ (q : List ℕ). written q from new) (written_none p from)
written_over p from (a ∷ old) [] h = absurd (not-suc-le-zero h)
written_over p from (a ∷ old) (b ∷ new) h =
    written_next (written p from (a ∷ old)) from b new
    ∙ ap (λ (q : List ℕ). written (set q from b) (suc from) new) (written_next p from a old)
    ∙ ap (λ (q : List ℕ). written q (suc from) new) (written_behind (set p from a) (suc from) from b old (omega arith))
    ∙ ap (λ (q : List ℕ). written (written q (suc from) old) (suc from) new) (set-set p from a b)
    ∙ written_over (set p from b) (suc from) old new (le_of_suc-le-suc h)
    ∙ sym (written_next p from b new)

-- with the first k numbers of a list written, n of them from the m-th on reach from before k to k or past it
pub written_piece : (p : List ℕ) (at : ℕ) (list : List ℕ) (k m n : ℕ) → m ≤ k → k ≤ m + n → m + n ≤ length list
    → written (written p at (take k list)) (at + m) (take n (drop m list)) ≡ written p at (take (m + n) list)
written_piece p at list k m n low high long =
    let front = take m list in
    let size : length front ≡ m = length-take-le m list (omega arith) in
    let piece = take n (drop m list) in
    let sizes : length (take (k - m) (drop m list)) ≤ length piece
    = omega (arith, length_part m (k - m) list (omega arith), length_part m n list (omega arith)) in
    let split : take k list ≡ front ++ take (k - m) (drop m list) = (
    let e : k ≡ m + (k - m) = omega arith in
    ap (λ (i : ℕ). take i list) e ∙ take-add m (k - m) list) in
    let cut = written-append p at front (take (k - m) (drop m list)) in
    ap (λ (l : List ℕ). written (written p at l) (at + m) piece) split
    ∙ ap (λ (q : List ℕ). written q (at + m) piece) (cut ∙ ap (λ (i : ℕ). written (written p at front) (at + i) (take (k - m) (drop m list))) size)
    ∙ written_over (written p at front) (at + m) (take (k - m) (drop m list)) piece sizes
    ∙ ap (λ (i : ℕ). written (written p at front) (at + i) piece) (sym size)
    ∙ sym (written-append p at front piece)
    ∙ ap (written p at) (sym (take-add m n list))

-- what was written at the start, read again
pub read_again : (p part : List ℕ) (n : ℕ) → length part ≡ n → n ≤ length p → take n (drop 0 (written p 0 part)) ≡ part
read_again p part n e h = ap (λ (i : ℕ). take i (written p 0 part)) (sym e) ∙ take-written p part (omega arith)
