-- `touch::overlap` meets its contract: the four sides are read as they are, and the four tests are the four orders.
use mathlib.Core.Path.{◌≡◌}
use native.Mathlib.Omega.{arith}
use lib.IntN.{ℤ}
use mir.Syntax.{w32, w64}
use mir.Val.{SFits, to_z, of_z}
use Rattle.std.proofs.Common.{rules}
use Rattle.std.proofs.lemmas.Int.{ints, to_z-of_z}
use Rattle.touch.proofs.Answers.{overlap_says}
use Rattle.touch.proofs.overlap.Goals as goal

widened : (z : ℤ) → SFits w32 z → to_z w64 (of_z w64 z) ≡ z
widened z f = omega (arith, ints)

pub returns : goal.returns
returns c =
    let p = c.args.around in
    let q = c.args.rectangle in
    let pl : SFits w32 p.left = search rules in
    let pr : SFits w32 p.right = search rules in
    let pt : SFits w32 p.top = search rules in
    let pb : SFits w32 p.bottom = search rules in
    let ql : SFits w64 q.left = search rules in
    let qr : SFits w64 q.right = search rules in
    let qt : SFits w64 q.top = search rules in
    let qb : SFits w64 q.bottom = search rules in
    simp (to_z-of_z, widened) (overlap_says p q)
