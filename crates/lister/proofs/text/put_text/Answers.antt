-- `put_text`: a part that is copied over is the buffer with the text from there on.
use mathlib.Core.Path.{◌≡◌, refl, sym, ◌∙◌}
use mathlib.Core.List.{List, append_assoc}
use Prim.Native.Nat.{ℕ, ◌+◌, ◌≤◌}
use native.Mathlib.Omega.{arith}
use lib.ListN.{length, take, drop}
use Rattle.std.proofs.lemmas.List.{drop-drop}
use Rattle.std.proofs.lemmas.List.Edits.{sets-eq}
use Rattle.pool.specs.Written.{written}
use borrow.Rule.Slice.PartMut.{put_mid}
use Rattle.lister.proofs.text.put_text.Goals as goal

landed : (p text part : List ℕ) (at n : ℕ) → part ≡ text → n ≡ length text → at + length text ≤ length p → put_mid at n p part ≡ written p at text
unfolding written
landed p text part at n e f h = rw (e, f, drop-drop) (sym (sets-eq text p at h ∙ append_assoc (take at p) text (drop (at + length text) p)))

pub returns : goal.returns
returns c =
    record { next_is = refl; after_is = landed _ _ _ _ _ c.copy_from_slice.ensures.after (omega arith) c.requires }
