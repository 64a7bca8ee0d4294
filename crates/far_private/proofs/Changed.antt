-- A range of an object that was read, changed and written.
use Rattle.std.proofs.Common.{◌≡◌, ℕ, ap, ◌∙◌, List}
use Rattle.far_events.specs.state.State.{State}
use Rattle.far_private.specs.Changes.{Changes}
use Rattle.far_private.specs.Objects.{IsRead, Objects, objects_of, with_written}
use Rattle.far_private.specs.Steps.{Keeps}

-- what was taken, changed and written
pub changes_so : (outcome : List ℕ → Unit {0} → List ℕ → Type 0) (s t : State) (p from count : ℕ) (read bytes : List ℕ) (u : Objects) → Keeps s t → IsRead (objects_of s) p from count read → outcome read tt bytes →
    u ≡ with_written p from bytes (objects_of t) → Changes outcome p from count bytes (objects_of s) u
changes_so outcome s t p from count read bytes u k told called written = record { read = read; told = told; called = called; written = written ∙ ap (with_written p from bytes) k.objects }
