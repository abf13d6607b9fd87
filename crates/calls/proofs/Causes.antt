-- Where neither the id nor the shape is a cause, the shape may be placed.
use mathlib.Core.Path.{◌≡◌}
use Prim.Native.Nat.{ℕ, ◌<◌}
use native.Mathlib.Omega.{arith}
use Rattle.shape.specs.declared.Shape.{Shape}
use Rattle.shape.specs.Shape.{InRange}
use Rattle.pool.specs.Words.{id_limit}
use Rattle.calls.specs.Tables.{CauseSays}

pub neither_says : {shape : Shape} {id number : ℕ} → CauseSays shape id number → number ≡ 0 → (id < id_limit) × InRange shape
neither_says (CauseSays.bad_id i n) z = absurd (omega arith)
neither_says (CauseSays.out_of_range i o n) z = absurd (omega arith)
neither_says (CauseSays.neither i o n) z = (i, o)
