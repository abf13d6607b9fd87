-- `fill`: the words of the part are replaced, and those around it stay.
use mathlib.Core.Path.{◌≡◌, sym, ap, ◌∙◌}
use mathlib.Core.List.{List, ◌++◌, append_assoc}
use Prim.Native.Nat.{ℕ, ◌+◌, ◌-◌, ◌≤◌}
use native.Mathlib.Omega.{arith}
use lib.ListN.{length, replicate, take, drop, length-replicate, length-take, length-drop}
use borrow.Rule.Slice.PartMut.{put_mid, mid_of}
use Rattle.std.proofs.lemmas.List.Edits.{paste_all}
use Rattle.std.proofs.lemmas.Slice.{put_mid-paste}
use Rattle.pool.specs.Written.{written}
use Rattle.pool.proofs.Written.{written_is}
use Rattle.pool.proofs.fill.Goals as goal

-- a part of so many words, each replaced by v
filled : (p part : List ℕ) (from n v : ℕ) → from + n ≤ length p → part ≡ replicate n v → put_mid from (from + n - from) p part ≡ written p from (replicate n v)
filled p part from n v h e =
    let vs : List ℕ = replicate n v in
    let long : n ≡ length vs = sym (length-replicate n v) in
    let end : from + length vs ≡ from + n = omega (arith, long) in
    put_mid-paste from (from + n - from) p part vs n e (omega arith) long
    ∙ paste_all p from vs n long
    ∙ sym (append_assoc (take from p) vs (drop (from + n) p))
    ∙ sym (written_is p from vs (omega arith) ∙ ap (λ (m : ℕ). take from p ++ vs ++ drop m p) end)

-- a part is as long as its ends are apart
part-length : (p : List ℕ) (from n : ℕ) → from + n ≤ length p → length (mid_of from (from + n - from) p) ≡ n
part-length p from n h =
    let m : from + n - from ≡ n = omega arith in
    rw m (length-take n (drop from p) ∙ omega (arith, length-drop from p))

pub returns : goal.returns
returns c =
    let a = c.args in
    filled a.pool.now _ a.from a.count a.word c.requires
    (c.fill.ensures.after (λ y e. e) ∙ ap (λ (n : ℕ). replicate n a.word) (part-length a.pool.now a.from a.count c.requires))
