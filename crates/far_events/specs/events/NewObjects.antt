-- A new object whose first bytes are given, made by one call: the events that it stands for, of an owner that is closed before and after it, and what they leave.
use Rattle.std.specs.Prelude.{◌+◌, ℕ, true, List, [], ◌∷◌, ◌++◌}
use Rattle.far_word.specs.declared.pointer.Place.{Place}
use Rattle.far_word.specs.declared.pointer.PtrWord.TheVariants.{Near}
use Rattle.far_word.specs.Header.{head_word}
use Rattle.far_word.specs.Pointer.{word_of}
use Rattle.far_word.specs.Sizes.{words_for}
use Rattle.far_events.specs.declared.event.Event.{Event}
use Rattle.far_events.specs.declared.event.Event.TheVariants.{Adopt, Name, Put}
use Rattle.far_events.specs.events.Accesses.{cools, moved_word, overwrites, written_word}
use Rattle.far_events.specs.events.Naming.{unmarked}
use Rattle.far_events.specs.events.NewSpans.{with_span}
use Rattle.far_events.specs.events.Ranges.{puts, with_row}
use Rattle.far_events.specs.events.Written.{written_words}
use Rattle.far_events.specs.state.State.{State, addr, put}
use Rattle.far_events.specs.state.Words.{with_bytes}

-- the data words of an object whose first bytes are these, and the others 0
abbrev pub words_with : List ℕ → ℕ → ℕ
words_with bytes = with_bytes (λ _. 0) 0 bytes

-- the cell of an object that lies near, without marks but DIRTY
abbrev pub made_word : ℕ → ℕ → Place → ℕ
made_word len ds place = word_of (Near len ds place (unmarked true))

-- the book writes a header and zeros, and names them by p's free cell
abbrev pub places_zeros : ℕ → ℕ → ℕ → Place → List Event
places_zeros p len ds place = Put place.log place.at (head_word p len ds) ∷ (puts place.log (place.at + 1) (words_for len) (λ _. 0) ++ (Name p 0 (made_word len ds place) ∷ []))

-- and the owner takes the pointer over, writes the bytes over the first within a scope, and has HOT taken away
abbrev pub places_with : ℕ → ℕ → ℕ → ℕ → Place → List ℕ → List Event
places_with m p len ds place bytes =
    places_zeros p len ds place ++ ((Adopt m p ∷ overwrites m p 0 (written_words (λ _. 0) 0 bytes)) ++ cools m p (moved_word (written_word (made_word len ds place))) (made_word len ds place))

-- a header for p and these words are written at a place, and the span there is taken, named by p's cell, which is used
abbrev pub made_with : State → ℕ → ℕ → ℕ → Place → List ℕ → State
made_with s p len ds place bytes = record (with_span (record s { word = with_row (put s.word (addr place) (head_word p len ds)) (addr place + 1) (words_for len) (words_with bytes) }) p (made_word len ds place) len place) {
  used = put s.used p true;
}
