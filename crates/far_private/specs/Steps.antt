-- What steps inside a call leave of a state.
use Rattle.std.specs.Prelude.{◌≡◌, ℕ, Option, Some}
use Rattle.far_word.specs.declared.mark.Marks.{Marks}
use Rattle.far_word.specs.declared.pointer.Place.{Place}
use Rattle.far_word.specs.declared.pointer.PtrWord.{PtrWord}
use Rattle.far_word.specs.declared.pointer.PtrWord.TheVariants.{Near}
use Rattle.far_events.specs.state.State.{State}
use Rattle.far_private.specs.Objects.{objects_of}

-- callers see no change, and owners are as they were
pub record Keeps (s t : State) : Type 0 where
  pub mutators : t.mutators ≡ s.mutators
  pub used : t.used ≡ s.used
  pub named : (p : ℕ) → s.cell p ≡ 0 → t.cell p ≡ 0
  pub objects : objects_of t ≡ objects_of s
  pub scope : t.scope ≡ s.scope
  pub remembered : t.remembered ≡ s.remembered

-- a cell says near, at this place
abbrev pub SaysAt : Option PtrWord → Place → Type 0
SaysAt o place = (len ds : ℕ) × (marks : Marks) × (o ≡ Some (Near len ds place marks))
