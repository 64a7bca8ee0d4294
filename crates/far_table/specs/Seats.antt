-- What a contract sees of a seat.
use Rattle.std.specs.Prelude.{◌≡◌, ◌+◌, ◌*◌, ◌/◌, ◌%◌, ◌<◌, ◌≤◌, ℕ, Option, Some, None, Result, Ok, Err, List, slice_index}
use Rattle.atomic_table.specs.Seated.{TableId}
use Rattle.far_word.specs.declared.pointer.Place.{Place}
use Rattle.far_word.specs.declared.sizes.TheConstants.{CELLS, EPOCH_END, LOG_WORDS, MOST_LOGS}
use Rattle.far_word.specs.Sizes.{words_for}
use Rattle.far_events.specs.declared.event.Reply.{Reply}
use Rattle.far_events.specs.declared.event.Reply.TheVariants.{Held, Word}
use Rattle.far_events.specs.state.State.{addr}
use Rattle.far_table.specs.View.{CopierView, OwnerView}
use Rattle.far_table.specs.Views.{held_at, len_of, object_at}

-- the table that it is of, and its view
pub record Seated : Type 0 where
  pub table : TableId
  pub view : OwnerView

-- the same of a copier's
pub record CopierSeated : Type 0 where
  pub table : TableId
  pub view : CopierView

-- the number that a seat keeps is the epoch that its view remembers
abbrev pub Remembers : Option ℕ → ℕ → Type 0
Remembers epoch n = (e : ℕ) → epoch ≡ Some e → (e ≡ n) × (n < EPOCH_END)

-- of each object that is held: it is the owner's, the address of its first data word stands in the owner's list, and its words lie within the logs, and within those of the heap
pub record HasPlace (o : OwnerView) (places : List ℕ) (p : ℕ) (place : Place) : Type 0 where
  pub own : p / CELLS ≡ o.number
  pub here : slice_index places (p % CELLS) ≡ addr place + 1
  pub fits : addr place + 1 + words_for (len_of (object_at o p)) ≤ MOST_LOGS * LOG_WORDS
  pub inside : addr place + 1 + words_for (len_of (object_at o p)) ≤ o.logs * LOG_WORDS

abbrev pub HasPlaces : OwnerView → List ℕ → Type 0
HasPlaces o places = (p : ℕ) (place : Place) → held_at o p ≡ Some place → HasPlace o places p place

-- what a pin answers
abbrev pub pin_reply : Result Place ℕ → Reply
pin_reply (Ok place) = Held place
pin_reply (Err found) = Word found

-- where the data words of an object begin whose place is held; 0 where none is
abbrev pub data_begin : Option Place → ℕ
data_begin None = 0
data_begin (Some place) = addr place + 1
