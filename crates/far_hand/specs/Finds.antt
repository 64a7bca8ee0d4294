-- What may be found in a pointer's cell, where one word of it is known: its owner may have added marks meanwhile, and nothing else.
use Rattle.std.specs.Prelude.{◌≡◌, ℕ, true, false, Option, Some, None, option_map}
use Rattle.far_word.specs.declared.mark.Marks.{Marks}
use Rattle.far_word.specs.declared.pointer.PtrWord.{PtrWord}
use Rattle.far_word.specs.declared.pointer.PtrWord.TheVariants.{Free, Near, Far}
use Rattle.far_word.specs.Pointer.{read_of}
use Rattle.far_events.specs.events.Naming.{no_marks}

-- the marks of what a word says; none, where it is free or no pointer
abbrev pub marks_in : Option PtrWord → Marks
marks_in None = no_marks
marks_in (Some Free) = no_marks
marks_in (Some (Near len ds place marks)) = marks
marks_in (Some (Far len ds marks)) = marks

-- what a pointer says, but for the marks that an owner may add: HOT, MOVE, DROP and DIRTY. No owner adds DIRTY to a quiet object, but the known word may be from before the object
-- was quiet
abbrev pub bare : PtrWord → PtrWord
bare Free = Free
bare (Near len ds place marks) = Near len ds place record { hot = false; evac = marks.evac; moved = false; dropped = false; dirty = false }
bare (Far len ds marks) = Far len ds record { hot = false; evac = marks.evac; moved = false; dropped = false; dirty = false }

abbrev pub body_of : Option PtrWord → Option PtrWord
body_of = option_map bare

-- the same object at the same place with the same EVAC; HOT, MOVE, DROP and DIRTY at least where they were known
pub record Finds (known found : ℕ) : Type 0 where
  pub body : body_of (read_of found) ≡ body_of (read_of known)
  pub hot : (marks_in (read_of known)).hot ≡ true → (marks_in (read_of found)).hot ≡ true
  pub moved : (marks_in (read_of known)).moved ≡ true → (marks_in (read_of found)).moved ≡ true
  pub dropped : (marks_in (read_of known)).dropped ≡ true → (marks_in (read_of found)).dropped ≡ true
  pub dirty : (marks_in (read_of known)).dirty ≡ true → (marks_in (read_of found)).dirty ≡ true
