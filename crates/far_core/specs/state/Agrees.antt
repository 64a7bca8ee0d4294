-- What views may rest on.
use Rattle.std.specs.Prelude.{◌≡◌, ℕ, ◌/◌, true, false, Some}
use Rattle.far_word.specs.declared.mark.Marks.{Marks}
use Rattle.far_word.specs.declared.pointer.Place.{Place}
use Rattle.far_word.specs.declared.pointer.PtrWord.TheVariants.{Near}
use Rattle.far_word.specs.declared.sizes.TheConstants.{CELLS}
use Rattle.far_word.specs.Pointer.{read_of}
use Rattle.far_events.specs.state.State.{State}
use Rattle.far_events.specs.state.Law.{in_use}
use Rattle.far_events.specs.events.Legal.{IsOpen}

-- each view is a held place of an open owner, whose pointer still names that place with neither MOVE nor DROP; and
-- each cell that an owner uses is used and not dropped
pub record Agrees (s : State) : Type 0 where
  pub opened : (p : ℕ) (place : Place) → s.held p ≡ Some place → IsOpen s (p / CELLS)
  pub names : (p : ℕ) (place : Place) → s.held p ≡ Some place →
      (len ds : ℕ) × (m : Marks) × (read_of (s.cell p) ≡ Some (Near len ds place m)) × (m.moved ≡ false) × (m.dropped ≡ false)
  pub uses : (p : ℕ) → s.used p ≡ true → in_use (read_of (s.cell p)) ≡ true
