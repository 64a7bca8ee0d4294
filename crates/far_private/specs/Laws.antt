-- What the steps of a private heap's calls come to for its callers.
use Rattle.std.specs.Prelude.{◌≡◌, ℕ, ◌+◌, ◌/◌, ◌<◌, ◌≤◌, true, false, Some, None, List, length, IsSome, slice_index, slice_range}
use Rattle.far_word.specs.declared.mark.Mark.TheVariants.{Dropped, Moved}
use Rattle.far_word.specs.declared.pointer.Place.{Place}
use Rattle.far_word.specs.declared.sizes.TheConstants.{CELLS, LONGEST}
use Rattle.far_word.specs.declared.pointer.PtrWord.{PtrWord}
use Rattle.far_word.specs.Pointer.{read_of, without_owner_marks, word_of}
use Rattle.far_word.specs.Sizes.{size_of, words_for}
use Rattle.far_events.specs.declared.event.Event.TheVariants.{Adopt, Ask}
use Rattle.far_events.specs.events.Accesses.{hot_word, overwritten, with_cell}
use Rattle.far_events.specs.events.Copies.{Alike}
use Rattle.far_events.specs.events.Pin.{place_to_view}
use Rattle.far_events.specs.events.Step.{after}
use Rattle.far_events.specs.state.Law.{IsStored, Law}
use Rattle.far_core.specs.state.Room.{room}
use Rattle.far_events.specs.state.State.{State}
use Rattle.far_book.specs.book.Dealing.{goal, moved_now}
use Rattle.far_book.specs.book.Effects.{fetched, placed, retired}
use Rattle.far_book.specs.book.Fetching.{far_len, room_for}
use Rattle.far_evac.specs.Owned.{KeepsObjects}
use Rattle.far_alone.specs.Dereference.{says_near}
use Rattle.far_alone.specs.Objects.{data_of}
use Rattle.far_private.specs.Objects.{IsRead, Settled, len_in, objects_of, with_new, with_written, without}
use Rattle.far_private.specs.Steps.{Keeps}

-- HOT that is set or taken changes nothing that callers see
abbrev pub HeatKeeps : Type 0
HeatKeeps = (s : State) (p : ℕ) → Law s → Settled s → s.used p ≡ true → Keeps s (with_cell s p (hot_word (s.cell p)))

abbrev pub CoolKeeps : Type 0
CoolKeeps = (s t : State) (p : ℕ) → Law s → Settled s → s.used p ≡ true → IsSome (place_to_view (read_of (s.cell p))) →
    ((v : PtrWord) → read_of (s.cell p) ≡ Some v → t ≡ with_cell s p (word_of (without_owner_marks v))) → Keeps s t

-- nor does a round, in any of its steps
abbrev pub RoundKeeps : Type 0
RoundKeeps = (s t : State) → KeepsObjects s t → Keeps s t

-- a near object that is asked for is moved, or stays
abbrev pub MoveKeeps : Type 0
MoveKeeps = (s v t : State) (p : ℕ) (place : Place) → Law s → Settled s → s.used p ≡ true → says_near (read_of (s.cell p)) ≡ true →
    v ≡ after s (Ask (p / CELLS) p Moved) → goal v p ≡ Some place → t ≡ moved_now v p place → Keeps s t

-- a far one is fetched
abbrev pub FetchKeeps : Type 0
FetchKeeps = (s t : State) (p : ℕ) (place : Place) (row : ℕ → ℕ) → Law s → s.used p ≡ true → says_near (read_of (s.cell p)) ≡ false → room_for s p ≡ Some place → IsStored row (far_len (read_of (s.cell p))) →
    (s.honest ≡ true → Alike row (s.stored p) (words_for (far_len (read_of (s.cell p))))) → t ≡ fetched s p place row → Keeps s t

-- a new object is placed and adopted: a pointer that had none has zeros
abbrev pub PlaceMakes : Type 0
PlaceMakes = (s v u : State) (p len ds : ℕ) (place : Place) → Law s → Settled s → s.cell p ≡ 0 → p < 2048 → 0 < len → len ≤ LONGEST → ds < 256 → room s (size_of len) true ≡ Some place →
    v ≡ placed s p len ds place → u ≡ after v (Adopt (p / CELLS) p) → Settled u × (objects_of u ≡ with_new p len ds (objects_of s)) × ((objects_of s).object p ≡ None)

-- an object is dropped and retired
abbrev pub DropLeaves : Type 0
DropLeaves = (s v u : State) (p : ℕ) → Law s → Settled s → s.used p ≡ true → v ≡ after s (Ask (p / CELLS) p Dropped) → u ≡ retired v p →
    Settled u × (objects_of u ≡ without p (objects_of s))

-- what is read of a near object is the range of its bytes
abbrev pub ReadTells : Type 0
ReadTells = (s : State) (p from count : ℕ) (out : List ℕ) → Law s → s.used p ≡ true → says_near (read_of (s.cell p)) ≡ true → out ≡ slice_range (data_of s p) from (from + count) → IsRead (objects_of s) p from count out

-- a write replaces the range, and nothing else
abbrev pub WriteChanges : Type 0
WriteChanges = (s t : State) (p from : ℕ) (new : List ℕ) → Law s → Settled s → s.used p ≡ true → IsSome (place_to_view (read_of (s.cell p))) → 0 < length new → from + length new ≤ len_in (objects_of s) p →
    from + length new ≤ LONGEST → ((k : ℕ) → slice_index new k < 256) → t ≡ overwritten s p from new → Settled t × (objects_of t ≡ with_written p from new (objects_of s))
