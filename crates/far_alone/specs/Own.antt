-- What a mutator knows of itself.
use Rattle.std.specs.Prelude.{ℕ, ◌/◌, Bool, false, cond, ◌==◌, ◌&&◌, Option, Some, None, List}
use Rattle.far_word.specs.declared.sizes.TheConstants.{CELLS}
use Rattle.far_core.specs.world.World.{World, Object}

-- whether its scope is open, the bytes of its objects, and which of them it views
pub record Own : Type 0 where
  pub opened : Bool
  pub object : ℕ → Option (List ℕ)
  pub viewed : ℕ → Bool

-- at the start its scope is closed, and it has no object and no view
abbrev pub nothing : Own
nothing = record { opened = false; object = λ _. None; viewed = λ _. false }

-- what a world says of a mutator
abbrev pub bytes_in_world : Option Object → Option (List ℕ)
bytes_in_world None = None
bytes_in_world (Some o) = Some o.bytes

abbrev pub own_of : World → ℕ → Own
own_of w m = record {
  opened = w.opened m;
  object = λ p. cond (p / CELLS == m) (bytes_in_world (w.object p)) None;
  viewed = λ p. (p / CELLS == m) && w.viewed p;
}
