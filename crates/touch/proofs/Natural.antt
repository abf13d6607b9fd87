-- The plane of the proofs: the vertices, the rectangle and the corner test in naturals, where `omega` works. Each coordinate of the integers' plane has one and the same number added.
use Prim.Native.Nat.{ℕ, ◌+◌, ◌*◌, ◌<◌, ◌≤◌, min, max}
use mathlib.Core.Logic.{◌⊎◌}

pub record Spot : Type 0 where
  pub x : ℕ
  pub y : ℕ

-- a closed rectangle, from l to r and from t to b
pub record Frame : Type 0 where
  pub l : ℕ
  pub r : ℕ
  pub t : ℕ
  pub b : ℕ

pub record Ordered (T : Frame) : Type 0 where
  pub wide : T.l ≤ T.r
  pub high : T.t ≤ T.b

-- some weighted mean of the three lies in the frame
pub record Hits (A B C : Spot) (T : Frame) : Type 0 where
  pub u : ℕ
  pub v : ℕ
  pub w : ℕ
  pub some : 0 < u + v + w
  pub left : (u + v + w) * T.l ≤ u * A.x + v * B.x + w * C.x
  pub right : u * A.x + v * B.x + w * C.x ≤ (u + v + w) * T.r
  pub top : (u + v + w) * T.t ≤ u * A.y + v * B.y + w * C.y
  pub bottom : u * A.y + v * B.y + w * C.y ≤ (u + v + w) * T.b

-- the bounding box of the three meets the frame
pub record BoxMeets (A B C : Spot) (T : Frame) : Type 0 where
  pub left : T.l ≤ max A.x (max B.x C.x)
  pub right : min A.x (min B.x C.x) ≤ T.r
  pub top : T.t ≤ max A.y (max B.y C.y)
  pub bottom : min A.y (min B.y C.y) ≤ T.b

-- the value at (x, y) of the edge from A to B is (x − A.x)(B.y − A.y) − (y − A.y)(B.x − A.x), which is turn A B (x, y) − turn B A (x, y)
abbrev pub turn : Spot → Spot → ℕ → ℕ → ℕ
turn A B x y = x * B.y + A.x * y + B.x * A.y

-- the value is above 0
abbrev pub Pos : Spot → Spot → ℕ → ℕ → Type 0
Pos A B x y = turn B A x y < turn A B x y

-- the value is at most 0
abbrev pub NotPos : Spot → Spot → ℕ → ℕ → Type 0
NotPos A B x y = turn A B x y ≤ turn B A x y

-- all four corners are above 0
pub record Beyond (A B : Spot) (T : Frame) : Type 0 where
  pub lt : Pos A B T.l T.t
  pub rt : Pos A B T.r T.t
  pub lb : Pos A B T.l T.b
  pub rb : Pos A B T.r T.b

-- all four corners are above 0, and the third is not
pub record Out (A B C : Spot) (T : Frame) : Type 0 where
  pub third : NotPos A B C.x C.y
  pub corners : Beyond A B T

-- the edge between A and B separates; the value of B–A is that of A–B, negated
abbrev pub Parts : Spot → Spot → Spot → Frame → Type 0
Parts A B C T = Out A B C T ⊎ Out B A C T

-- the corner test
pub record Passes (A B C : Spot) (T : Frame) : Type 0 where
  pub box : BoxMeets A B C T
  pub ab : Parts A B C T → ⊥
  pub bc : Parts B C A T → ⊥
  pub ca : Parts C A B T → ⊥
