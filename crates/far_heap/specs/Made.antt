-- Steps of a mutator as events of the core.
use Rattle.std.specs.Prelude.{◌≡◌, ◌⊎◌, ℕ}
use Rattle.far_word.specs.declared.pointer.Place.{Place}
use Rattle.far_word.specs.Pointer.{read_of}
use Rattle.far_events.specs.declared.event.Event.{Event}
use Rattle.far_events.specs.declared.event.Event.TheVariants.{Adopt, Pin}
use Rattle.far_events.specs.declared.event.Reply.{Reply}
use Rattle.far_events.specs.declared.event.Reply.TheVariants.{Held, Word}
use Rattle.far_table.specs.Seats.{Seated}
use Rattle.far_table.specs.Tells.{OwnerMade, OwnerRefused}
use Rattle.far_table.specs.Views.{said_ds, said_len}
use Rattle.far_heap.specs.declared.view.Tried.{Tried}
use Rattle.far_heap.specs.declared.view.Tried.TheVariants.{View as Viewed, Slow}
use Rattle.far_heap.specs.Mine.{IsSlow, Mine, ds_in, len_in, mine_of}

-- one event led from this mutator to that, with this answer: it was legal in a state of the core in which the mutator was as said, and made there
pub record MadeBy (e : Event) (m : Mine) (r : Reply) (n : Mine) : Type 0 where
  pub seat : Seated
  pub later : Seated
  pub before : mine_of seat ≡ m
  pub after : mine_of later ≡ n
  pub made : OwnerMade e seat.view r later.view

-- a dereference was one pin, which found the object's place, or that word
abbrev pub Pinned : ℕ → Mine → Tried → Mine → Type 0
Pinned p m (Viewed view) n = (place : Place) × MadeBy (Pin m.number p) m (Held place) n
Pinned p m (Slow word) n = MadeBy (Pin m.number p) m (Word word) n

-- a pin of an object that isn't viewed found a word on which no view may rest
abbrev pub IsFoundSlow : ℕ → Mine → Type 0
IsFoundSlow p m = (word : ℕ) × Pinned p m (Slow word) m × IsSlow (len_in m p) (ds_in m p) (read_of word)

-- ---- a new object is taken over
-- an event wasn't legal in a state of the core in which the mutator was as said
pub record RefusedBy (e : Event) (m : Mine) : Type 0 where
  pub seat : Seated
  pub before : mine_of seat ≡ m
  pub refused : OwnerRefused e seat.view

-- a word says another length or data structure
abbrev pub SaysOther : ℕ → ℕ → ℕ → Type 0
SaysOther len ds word = said_len (read_of word) ≡ len → said_ds (read_of word) ≡ ds → ⊥

-- the object that was found isn't of this length and data structure, or none was found
abbrev pub FindsOther : ℕ → ℕ → ℕ → Mine → Type 0
FindsOther p len ds m = ((word : ℕ) × (n : Mine) × MadeBy (Adopt m.number p) m (Word word) n × SaysOther len ds word) ⊎ RefusedBy (Adopt m.number p) m
