-- What is said of bytes that are too long.
use mathlib.Core.List.{List}
use Prim.Native.Nat.{ℕ, ◌≤◌, ◌<◌}
use native.Mathlib.Omega.{arith}
use lib.ListN.{length, take}
use Rattle.pool.specs.Written.{Puts}
use Rattle.lister.specs.Answer.{too_long, BytesSay}
use Rattle.lister.proofs.Writing.{puts_all}

pub said_long : {p q bytes : List ℕ} {j : ℕ} → Puts p 0 too_long q j → 162000 ≤ length p → 65536 < length bytes → BytesSay bytes (take j q)
said_long P room h = record { long = λ l. puts_all P (omega arith); odd = λ l. absurd (omega arith); whole = λ l. absurd (omega arith) }
