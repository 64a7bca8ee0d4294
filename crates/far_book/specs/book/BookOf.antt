-- A book as its callers see it.
use Rattle.std.specs.Prelude.{ℕ, List}

-- the hand that it was given, its device, and the sealed logs in the order in which they were sealed, oldest first
pub record BookOf (N D : Type 0) : Type 0 where
  pub near : N
  pub device : D
  pub order : List ℕ
