-- What a call of the book makes of a state.
use Rattle.std.specs.Prelude.{ℕ, Bool, true, false, ◌+◌, ◌==◌, if◌then◌else◌, Option, Some, None, List, [], ◌∷◌, ◌++◌}
use Rattle.far_word.specs.declared.pointer.Place.{Place}
use Rattle.far_word.specs.declared.pointer.PtrWord.{PtrWord}
use Rattle.far_word.specs.declared.pointer.PtrWord.TheVariants.{Free, Near, Far}
use Rattle.far_word.specs.Header.{head_word}
use Rattle.far_word.specs.Pointer.{read_of, word_of}
use Rattle.far_word.specs.Sizes.{words_for}
use Rattle.far_events.specs.declared.event.Event.TheVariants.{Name, Mark}
use Rattle.far_events.specs.events.Copies.{data_at}
use Rattle.far_events.specs.events.Naming.{no_marks, unmarked}
use Rattle.far_events.specs.events.Ranges.{with_row}
use Rattle.far_events.specs.events.Step.{after}
use Rattle.far_events.specs.state.State.{State, put, addr}

-- the cell of an object that lies near, without marks but DIRTY, and that as said
abbrev pub near_word : Bool → ℕ → ℕ → Place → ℕ
near_word dirty len ds place = word_of (Near len ds place (unmarked dirty))

-- the cell of an object that is far, without marks
abbrev pub far_word : ℕ → ℕ → ℕ
far_word len ds = word_of (Far len ds no_marks)

-- a header for p, and a row of data words behind it, are written at a place
abbrev pub with_written_span : State → ℕ → ℕ → ℕ → Place → (ℕ → ℕ) → State
with_written_span s p len ds place row = record s { word = with_row (put s.word (addr place) (head_word p len ds)) (addr place + 1) (words_for len) row }

-- the same, with data words of 0
abbrev pub with_blank_span : State → ℕ → ℕ → ℕ → Place → State
with_blank_span s p len ds place = with_written_span s p len ds place (λ _. 0)

-- a new object of zeros is placed: its span is written, and p's cell, which was free, names it
abbrev pub placed : State → ℕ → ℕ → ℕ → Place → State
placed s p len ds place = after (with_blank_span s p len ds place) (Name p 0 (near_word true len ds place))

-- a cell is free
abbrev pub with_free_cell : State → ℕ → State
with_free_cell s p = record s { cell = put s.cell p 0 }

-- the cell of a dropped object is free again, and its span, if it lay near, is dead
abbrev pub retired : State → ℕ → State
retired s p = after s (Name p (s.cell p) 0)

-- a near pointer whose place lies in a sealed log has EVAC
abbrev pub marked : State → ℕ → State
marked s p = after s (Mark p)

-- a near object is copied to a place, and its cell names that, without marks but DIRTY, as it was; the span at its old place is dead. Nothing else is moved
abbrev pub moved_of : State → ℕ → Place → Option PtrWord → State
moved_of s p place None = s
moved_of s p place (Some Free) = s
moved_of s p place (Some (Near len ds from marks)) = after (with_written_span s p len ds place (data_at s.word from)) (Name p (s.cell p) (near_word marks.dirty len ds place))
moved_of s p place (Some (Far len ds marks)) = s

abbrev pub moved : State → ℕ → Place → State
moved s p place = moved_of s p place (read_of (s.cell p))

-- a near object stays where it lies, without marks but DIRTY, as it was
abbrev pub stayed_of : State → ℕ → Option PtrWord → State
stayed_of s p None = s
stayed_of s p (Some Free) = s
stayed_of s p (Some (Near len ds place marks)) = after s (Name p (s.cell p) (near_word marks.dirty len ds place))
stayed_of s p (Some (Far len ds marks)) = s

abbrev pub stayed : State → ℕ → State
stayed s p = stayed_of s p (read_of (s.cell p))

-- the words of a near object are stored, and its cell says far, without marks; its span is dead
abbrev pub evicted_of : State → ℕ → Option PtrWord → State
evicted_of s p None = s
evicted_of s p (Some Free) = s
evicted_of s p (Some (Near len ds place marks)) = after s (Name p (s.cell p) (far_word len ds))
evicted_of s p (Some (Far len ds marks)) = s

abbrev pub evicted : State → ℕ → State
evicted s p = evicted_of s p (read_of (s.cell p))

-- a far object comes to a place with a row of words, and its cell names that, without marks
abbrev pub fetched_of : State → ℕ → Place → (ℕ → ℕ) → Option PtrWord → State
fetched_of s p place row None = s
fetched_of s p place row (Some Free) = s
fetched_of s p place row (Some (Near len ds from marks)) = s
fetched_of s p place row (Some (Far len ds marks)) = after (with_written_span s p len ds place row) (Name p (s.cell p) (near_word false len ds place))

abbrev pub fetched : State → ℕ → Place → (ℕ → ℕ) → State
fetched s p place row = fetched_of s p place row (read_of (s.cell p))

-- the sealed logs, oldest first, once a span was placed: where it opened another log, the one that was open is the youngest
abbrev pub order_after : State → List ℕ → Place → List ℕ
order_after s order place = if place.log == s.current then order else order ++ s.current ∷ []
