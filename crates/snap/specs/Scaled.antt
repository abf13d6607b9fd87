-- What a product by sixteen is in f32. A finite f32 is ±m * 2 ^ e, and 2 ^ e is up e / down e.
use Rattle.std.specs.Prelude.{◌*◌, ◌^◌, ◌≤◌, ◌≡◌, not, T, Float}
use Rattle.std.specs.Float.{nan, inf, fin}
use Rattle.std.specs.Float.Ieee.{up, down}
use Rattle.std.specs.Float.Ieee.Exact.{HasValue}
use Rattle.std.specs.Float.Ieee.Scale.{finite}

-- w is sixteen times v, with its sign
abbrev pub SixteenTimes : Float → Float → Type 0
SixteenTimes nan w = ⊥
SixteenTimes (inf s) w = ⊥
SixteenTimes (fin s m e) w = HasValue w s (16 * (m * up e)) (down e)

-- sixteen times v is 2 ^ 128 or more in size, where f32 ends, and w the infinity of its sign
abbrev pub TooLarge : Float → Float → Type 0
TooLarge nan w = ⊥
TooLarge (inf s) w = ⊥
TooLarge (fin s m e) w = (w ≡ inf s) × (2 ^ 128 * down e ≤ 16 * (m * up e))

-- a finite product is exact, and a finite v has no other product but an infinity
pub record Scaled (v w : Float) : Type 0 where
  pub exact : T (finite w) → SixteenTimes v w
  pub large : T (finite v) → T (not (finite w)) → TooLarge v w
