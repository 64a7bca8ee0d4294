-- Events that one call stands for, of an owner that is closed before and after it.
use Rattle.std.specs.Prelude.{◌≡◌, ◌/◌, ◌^◌, ℕ, true, None, bit_or, List, [], ◌∷◌, ◌++◌, length, slice_index}
use Rattle.far_word.specs.declared.mark.Mark.TheVariants.{Dirty, Hot, Moved}
use Rattle.far_word.specs.declared.sizes.TheConstants.{CELLS}
use Rattle.far_word.specs.Mark.{position}
use Rattle.far_events.specs.declared.event.Event.{Event}
use Rattle.far_events.specs.declared.event.Event.TheVariants.{Ask, Close, Name, Open, Pin, ReadEpoch, Soil}
use Rattle.far_events.specs.events.Owners.{IsClosed}
use Rattle.far_events.specs.events.Ranges.{stores, with_row}
use Rattle.far_events.specs.events.Step.{data_word}
use Rattle.far_events.specs.events.Written.{written_words}
use Rattle.far_events.specs.state.State.{State, put}

-- a pointer that its owner uses, which is closed and remembers no epoch
pub record IsAtRest (s : State) (m p : ℕ) : Type 0 where
  pub closed : IsClosed s m
  pub fresh : s.remembered m ≡ None
  pub own : p / CELLS ≡ m
  pub used : s.used p ≡ true

-- its owner opens a scope, pins it, and closes the scope
abbrev pub heats : ℕ → ℕ → List Event
heats m p = ReadEpoch m ∷ Open m ∷ Pin m p ∷ Close m ∷ []

-- the same, and words are stored meanwhile
abbrev pub overwrites : ℕ → ℕ → ℕ → List ℕ → List Event
overwrites m p first words = ReadEpoch m ∷ Open m ∷ Pin m p ∷ Soil m p ∷ (stores m p first words ++ (Close m ∷ []))

-- its owner asks for it to be moved, and it stays where it lies
abbrev pub cools : ℕ → ℕ → ℕ → ℕ → List Event
cools m p asked new = Ask m p Moved ∷ Name p asked new ∷ []

-- words of an object that its bytes from one on are written into
abbrev pub words_over : State → ℕ → ℕ → List ℕ → List ℕ
words_over s p from bytes = written_words (λ i. s.word (data_word s p i)) from bytes

abbrev pub overwrites_in : State → ℕ → ℕ → ℕ → List ℕ → List Event
overwrites_in s m p from bytes = overwrites m p (from / 8) (words_over s p from bytes)

-- ---- what is left of a scope in the cell of the object that was viewed
abbrev pub hot_word : ℕ → ℕ
hot_word w = bit_or w (2 ^ position Hot)

abbrev pub written_word : ℕ → ℕ
written_word w = bit_or (hot_word w) (2 ^ position Dirty)

abbrev pub moved_word : ℕ → ℕ
moved_word w = bit_or w (2 ^ position Moved)

abbrev pub with_cell : State → ℕ → ℕ → State
with_cell s p w = record s { cell = put s.cell p w }

-- the object's words are others, and its cell has HOT and DIRTY
abbrev pub overwritten : State → ℕ → ℕ → List ℕ → State
overwritten s p from bytes = record (with_cell s p (written_word (s.cell p))) {
  word = with_row s.word (data_word s p (from / 8)) (length (words_over s p from bytes)) (λ k. slice_index (words_over s p from bytes) k);
}
