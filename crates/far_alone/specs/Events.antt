-- The events of a core by which what a mutator asks for is carried out: a list for each.
use Rattle.std.specs.Prelude.{ℕ, ◌+◌, ◌-◌, ◌*◌, ◌/◌, ◌%◌, Bool, true, false, ◌==◌, ◌||◌, ◌&&◌, not, nat_lt, Option, Some, None, is_some, List, [], ◌∷◌, ◌++◌, map, if◌then◌else◌}
use Rattle.std.specs.List.{range_with_len}
use Rattle.far_word.specs.declared.mark.Mark.TheVariants.{Dropped, Moved}
use Rattle.far_word.specs.declared.pointer.Place.{Place}
use Rattle.far_word.specs.declared.pointer.PtrWord.{PtrWord}
use Rattle.far_word.specs.declared.pointer.PtrWord.TheVariants.{Free, Near, Far}
use Rattle.far_word.specs.Bytes.{packed_word}
use Rattle.far_word.specs.Header.{head_word}
use Rattle.far_word.specs.Pointer.{read_of}
use Rattle.far_word.specs.Sizes.{words_for}
use Rattle.far_events.specs.events.Copies.{data_at}
use Rattle.far_events.specs.declared.event.Event.{Event}
use Rattle.far_events.specs.declared.event.Event.TheVariants.{ReadEpoch as ReadsEpoch, Open as Opens, Pin as Pins, Load as Loads, Store as Stores, Soil as Soils, Adopt as Adopts, Put as Puts, Name as Names, Ask as Asks, See as Sees}
use Rattle.far_events.specs.events.Step.{after}
use Rattle.far_events.specs.state.State.{State}
use Rattle.far_book.specs.book.Effects.{near_word}
use Rattle.far_alone.specs.Dereference.{come, comes_to, sought}
use Rattle.far_alone.specs.Effects.{is_slow, with_view}

-- a new object: its header and zeros are put, its cell is named, and its owner adopts it
abbrev pub zero_puts : Place → ℕ → List Event
zero_puts place count = map (λ i. Puts place.log (place.at + 1 + i) 0) (range_with_len 0 count)

abbrev pub new_events : ℕ → ℕ → ℕ → Option ℕ → Option Place → List Event
new_events m len ds None place = []
new_events m len ds (Some p) None = []
new_events m len ds (Some p) (Some place) =
    (Puts place.log place.at (head_word p len ds) ∷ zero_puts place (words_for len)) ++ Names p 0 (near_word true len ds place) ∷ Adopts m p ∷ []

-- the epoch is read for an opening, unless it was read already
abbrev pub open_events : State → ℕ → List Event
open_events s m = if is_some (s.remembered m) then Opens m ∷ [] else ReadsEpoch m ∷ Opens m ∷ []

-- one pin, unless the object is held already
abbrev pub view_events : State → ℕ → ℕ → List Event
view_events s m p = if is_some (s.held p) then [] else Pins m p ∷ []

-- an object is asked for by its owner, where it is near
abbrev pub asked_events_of : ℕ → ℕ → Option PtrWord → List Event
asked_events_of m p None = []
asked_events_of m p (Some Free) = []
asked_events_of m p (Some (Near len ds place marks)) = Asks m p Moved ∷ []
asked_events_of m p (Some (Far len ds marks)) = []

abbrev pub asked_events : State → ℕ → ℕ → List Event
asked_events s m p = asked_events_of m p (read_of (s.cell p))

-- one pin, which gives no view, and then the owner's asking
abbrev pub sought_events : State → ℕ → ℕ → List Event
sought_events s m p = view_events s m p ++ asked_events (with_view s p) m p

-- a span is written: a header for p is put, and a row of data words behind it
abbrev pub row_puts : Place → ℕ → (ℕ → ℕ) → List Event
row_puts place count row = map (λ i. Puts place.log (place.at + 1 + i) (row i)) (range_with_len 0 count)

abbrev pub span_events : ℕ → ℕ → ℕ → Place → (ℕ → ℕ) → List Event
span_events p len ds place row = Puts place.log place.at (head_word p len ds) ∷ row_puts place (words_for len) row

-- the book's naming of p's cell, near and without marks but DIRTY, and that as said
abbrev pub name_events : State → ℕ → Bool → ℕ → ℕ → Place → List Event
name_events s p dirty len ds place = Names p (s.cell p) (near_word dirty len ds place) ∷ []

-- an object is brought to a place: of a near one with EVAC its words are written there, and its cell is named; of a near one without EVAC the cell alone is named; of a far one the
-- words that were stored are written there, and its cell is named. What the book looks at before, which changes nothing, isn't told
abbrev pub come_events_of : State → ℕ → Option Place → Option PtrWord → List Event
come_events_of s p None o = []
come_events_of s p (Some place) None = []
come_events_of s p (Some place) (Some Free) = []
come_events_of s p (Some place) (Some (Near len ds from marks)) =
    if marks.evac then span_events p len ds place (data_at s.word from) ++ name_events s p marks.dirty len ds place else name_events s p marks.dirty len ds place
come_events_of s p (Some place) (Some (Far len ds marks)) = span_events p len ds place (s.stored p) ++ name_events s p false len ds place

abbrev pub come_events : State → ℕ → List Event
come_events s p = come_events_of s p (comes_to s p) (read_of (s.cell p))

-- an object is dereferenced: one pin, and where that gives no view, its owner's asking, what brings it to where a view may rest, and a pin again
abbrev pub dereference_events : State → ℕ → ℕ → List Event
dereference_events s m p =
    if is_slow s p then sought_events s m p ++ come_events (sought s m p) p ++ view_events (come (sought s m p) p) m p else view_events s m p

-- the first word of a range, and how many words it touches
abbrev pub first_word : ℕ → ℕ
first_word from = from / 8

abbrev pub words_touched : ℕ → ℕ → ℕ
words_touched from count = (from + count + 7) / 8 - from / 8

abbrev pub load_events : ℕ → ℕ → ℕ → ℕ → List Event
load_events m p first count = map (λ i. Loads m p i) (range_with_len first count)

-- the words of which a range changes a part alone: the first one, and the last one where it is another
abbrev pub starts_inside : ℕ → ℕ → Bool
starts_inside from count = not (from % 8 == 0) || nat_lt (from + count) (8 * (from / 8) + 8)

abbrev pub ends_inside : ℕ → ℕ → Bool
ends_inside from count = nat_lt 1 (words_touched from count) && not ((from + count) % 8 == 0)

abbrev pub first_loads : ℕ → ℕ → ℕ → ℕ → List Event
first_loads m p from count = if starts_inside from count then Loads m p (from / 8) ∷ [] else []

abbrev pub last_loads : ℕ → ℕ → ℕ → ℕ → List Event
last_loads m p from count = if ends_inside from count then Loads m p ((from + count) / 8) ∷ [] else []

abbrev pub part_events : ℕ → ℕ → ℕ → ℕ → List Event
part_events m p from count = first_loads m p from count ++ last_loads m p from count

-- its owner soils an object before it stores into it, unless it has soiled it since its scope was opened
abbrev pub soil_events : State → ℕ → ℕ → List Event
soil_events s m p = if s.soiled p then [] else Soils m p ∷ []

abbrev pub store_events : ℕ → ℕ → ℕ → ℕ → List ℕ → List Event
store_events m p first count after = map (λ i. Stores m p i (packed_word after i)) (range_with_len first count)

-- an object is dropped: its owner asks for it, and its cell is looked at and freed
abbrev pub drop_events : State → ℕ → ℕ → List Event
drop_events s m p = Asks m p Dropped ∷ Sees p ∷ Names p ((after s (Asks m p Dropped)).cell p) 0 ∷ []
