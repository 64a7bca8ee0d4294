-- What each form of naming owes.
use Rattle.std.proofs.Common.{◌≡◌, ℕ, ◌*◌, ◌<◌, ◌^◌, true, Some}
use Rattle.far_word.specs.declared.sizes.TheConstants.{CELLS}
use Rattle.far_word.specs.Pointer.{read_of}
use Rattle.far_events.specs.declared.event.Event.TheVariants.{Name}
use Rattle.far_events.specs.declared.naming.Naming.{Naming}
use Rattle.far_events.specs.events.Naming.{IsNaming, naming_row, naming_change}
use Rattle.far_events.specs.events.Touch.{CellAt, BookView, Touches}
use Rattle.far_core.specs.laws.Worlds.{Causes}
use Rattle.far_events.specs.state.Law.{Law}
use Rattle.far_events.specs.state.State.{State}
use Rattle.far_core.specs.world.Changes.{Step}
use Rattle.far_core.specs.world.WorldOf.{world_of}

-- the form is made on a cell: its words say it, and it is legal
pub record IsMade (s : State) (p new : ℕ) (form : Naming) : Type 0 where
  pub law : Law s
  pub fits : new < 2 ^ 64
  pub cell : p < CELLS * s.mutators
  pub naming : IsNaming form (read_of (s.cell p)) (read_of new)
  pub legal : (naming_row s p new form).Legal

pub record NamingOwed (p new : ℕ) (form : Naming) : Type 0 where
  pub keeps : (s : State) → IsMade s p new form → Law (naming_row s p new form).after
  pub does : (s : State) → IsMade s p new form → Step (naming_change p form) (world_of s) (world_of (naming_row s p new form).after)
  pub within : (s : State) → Touches s (record { word = Some (CellAt p); part = BookView }) (naming_row s p new form).after
  pub names : (s : State) → (naming_row s p new form).after.cell p ≡ new
  pub reports : (s : State) → Law s → (naming_row s p new form).Reports (naming_row s p new form).after
  pub causes : (old : ℕ) → IsNaming form (read_of old) (read_of new) → Causes (Name p old new) (naming_change p form)
