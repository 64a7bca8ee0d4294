-- What an event does to the world, by name. What each is, is for who tells of worlds to say.
use Rattle.std.specs.Prelude.{ℕ}

pub data Change : Type 0 where
  Stays : Change
  Opens : ℕ → Change
  Closes : ℕ → Change
  Views : ℕ → ℕ → Change
  Reads : ℕ → ℕ → ℕ → ℕ → Change
  Writes : ℕ → ℕ → ℕ → ℕ → Change
  Makes : ℕ → ℕ → ℕ → ℕ → Change
  Marks : ℕ → Change
  Unmarks : ℕ → Change
  Moves : ℕ → ℕ → Change
  GoesFar : ℕ → Change
  ComesNear : ℕ → ℕ → Change
  Drops : ℕ → ℕ → Change
  Releases : ℕ → Change
  Holds : ℕ → Change
