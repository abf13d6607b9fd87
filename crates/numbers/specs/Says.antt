-- What a test's answer means.
use Rattle.std.specs.Prelude.{◌≡◌, Bool, true, false}

-- the answer r says exactly whether P holds
pub record Says (r : Bool) (P : Type 0) : Type 0 where
  pub yes : r ≡ true → P
  pub no : r ≡ false → P → ⊥
