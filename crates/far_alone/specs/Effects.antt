-- What the calls of a mutator make of a heap's core: one function on states for each.
use Rattle.std.specs.Prelude.{ℕ, Option, Some, None, is_some, List, Bool, not, ◌||◌, if◌then◌else◌}
use Rattle.far_word.specs.declared.mark.Mark.TheVariants.{Dropped}
use Rattle.far_word.specs.declared.pointer.Place.{Place}
use Rattle.far_word.specs.Bytes.{packed_word}
use Rattle.far_word.specs.Pointer.{read_of}
use Rattle.far_word.specs.Sizes.{words_for}
use Rattle.far_events.specs.events.Ranges.{with_row}
use Rattle.far_events.specs.declared.event.Event.TheVariants.{Adopt, Ask}
use Rattle.far_events.specs.events.Soil.{after_soil}
use Rattle.far_events.specs.events.Step.{after, after_pin, scope_word_of, near_data, data_len, place_to_view}
use Rattle.far_events.specs.state.State.{State, put}
use Rattle.far_book.specs.book.Effects.{placed, retired}
use Rattle.far_alone.specs.Objects.{data_of, with_range}

-- a new object of len zeros: a book places it, and its owner adopts it
abbrev pub with_object : State → ℕ → ℕ → ℕ → ℕ → Place → State
with_object s m p len ds place = after (placed s p len ds place) (Adopt m p)

-- the epoch at which a scope opens: the one that its owner read, or else the heap's
abbrev pub epoch_for : Option ℕ → ℕ → ℕ
epoch_for None epoch = epoch
epoch_for (Some e) epoch = e

-- an owner has read the epoch
abbrev pub with_epoch : State → ℕ → State
with_epoch s m = record s { remembered = put s.remembered m (Some s.epoch) }

-- an owner's scope is open
abbrev pub with_scope : State → ℕ → State
with_scope s m = let e : Option ℕ = Some (epoch_for (s.remembered m) s.epoch) in
    record s { remembered = put s.remembered m e; scope = put s.scope m (scope_word_of e) }

-- an object is viewed by its owner: after_pin, unless it is held already
abbrev pub with_view : State → ℕ → State
with_view s p = if is_some (s.held p) then s else after_pin s p

-- a pin of an object gives no view: it isn't viewed already, and its cell isn't near, or has EVAC, MOVE or DROP
abbrev pub is_slow : State → ℕ → Bool
is_slow s p = not (is_some (s.held p) || is_some (place_to_view (read_of (s.cell p))))

-- an object has other bytes in the place of those from here on; its cell has DIRTY, and its owner has soiled it
abbrev pub with_data : State → ℕ → ℕ → List ℕ → State
with_data s p from bytes = record (after_soil s p) {
  word = with_row s.word (near_data (read_of (s.cell p))) (words_for (data_len s p)) (packed_word (with_range (data_of s p) from bytes));
}

-- an object is dropped: its owner asks for it, and its cell is retired
abbrev pub without_object : State → ℕ → ℕ → State
without_object s m p = retired (after s (Ask m p Dropped)) p
