-- What an event leaves as it is: whatever changed, the event says so.
use Rattle.std.specs.Prelude.{◌≡◌, ℕ, ◌+◌, ◌*◌, ◌/◌, ◌⊎◌, true, Option, Some, None}
use Rattle.far_word.specs.declared.mark.Mark.{Mark as MarkKind}
use Rattle.far_word.specs.declared.pointer.Place.{Place}
use Rattle.far_word.specs.declared.sizes.TheConstants.{CELLS, LOG_WORDS}
use Rattle.far_events.specs.declared.event.Event.{Event}
use Rattle.far_events.specs.declared.event.Event.TheVariants.{ReadEpoch, Open, Pin, Store, Soil, Close, Adopt, Put, Name, Mark, Ask, Get, Clear, Advance, Look, Offer, Claim, ReadLength, Read, Write, Finish, Collect}
use Rattle.far_events.specs.state.State.{State}
use Rattle.far_events.specs.events.Write.{target_at}
use Rattle.far_events.specs.events.Step.{data_word, is_legal, step_of, touches}
use Rattle.far_events.specs.events.Touch.{Spot, EpochAt, ScopeAt, CellAt, WordAt, JobAt, Part, NoPart, Remembers, Uses, Rests, Soils, LetsGo, BookView, CopierAt, Touches}

-- what an owner remembers, uses, holds and has soiled changes by an event of this owner alone; the book's view by a naming, as a log is given back, by
-- what begins a round, leaves it, or sees an owner clear, and as a job is offered; a copier's view by its own events alone
abbrev pub PartBy : Event → Part → Type 0
PartBy e NoPart = Unit {0}
PartBy e (Remembers m) = e ≡ ReadEpoch m
PartBy e (Uses p) = (e ≡ Adopt (p / CELLS) p) ⊎ ((k : MarkKind) × (e ≡ Ask (p / CELLS) p k))
PartBy e (Rests p) = e ≡ Pin (p / CELLS) p
PartBy e (Soils p) = e ≡ Soil (p / CELLS) p
PartBy e (LetsGo m) = e ≡ Close m
PartBy e BookView = ((p old new : ℕ) × (e ≡ Name p old new)) ⊎ (((l at : ℕ) × (e ≡ Get l at true)) ⊎ (((p : ℕ) × (e ≡ Clear p)) ⊎ (((logs : ℕ) × (e ≡ Advance logs)) ⊎ (((m : ℕ) × (e ≡ Look m)) ⊎ ((j p : ℕ) × (to : Place) × (e ≡ Offer j p to))))))
PartBy e (CopierAt c) = ((j old : ℕ) × (e ≡ Claim c j old)) ⊎ ((e ≡ ReadLength c) ⊎ (((i : ℕ) × (e ≡ Read c i)) ⊎ (((i : ℕ) × (e ≡ Write c i)) ⊎ (e ≡ Finish c))))

-- the epoch changes by Advance; a scope word by its owner's Open or Close; a cell by its owner's pin, request or soiling, a mark set or
-- cleared, or a naming of it; a data word by its owner's Store, a Put of just this word, or a copier's Write;
-- a job word by an Offer of this job, a copier that takes or finishes it, or as it is emptied
abbrev pub WordBy : State → Event → Option Spot → Type 0
WordBy s e None = Unit {0}
WordBy s e (Some EpochAt) = (logs : ℕ) × (e ≡ Advance logs)
WordBy s e (Some (ScopeAt m)) = (e ≡ Open m) ⊎ (e ≡ Close m)
WordBy s e (Some (CellAt p)) = (e ≡ Pin (p / CELLS) p) ⊎ ((e ≡ Mark p) ⊎ (((old new : ℕ) × (e ≡ Name p old new)) ⊎ (((k : MarkKind) × (e ≡ Ask (p / CELLS) p k)) ⊎ ((e ≡ Clear p) ⊎ (e ≡ Soil (p / CELLS) p)))))
WordBy s e (Some (WordAt a)) = ((p i w : ℕ) × (e ≡ Store (p / CELLS) p i w) × (a ≡ data_word s p i)) ⊎ (((l at w : ℕ) × (e ≡ Put l at w) × (a ≡ l * LOG_WORDS + at)) ⊎ ((c i : ℕ) × (e ≡ Write c i) × (a ≡ target_at (s.copying.task c) i)))
WordBy s e (Some (JobAt j)) = ((p : ℕ) × (to : Place) × (e ≡ Offer j p to)) ⊎ (((c old : ℕ) × (e ≡ Claim c j old)) ⊎ (((c : ℕ) × (e ≡ Finish c)) ⊎ ((old : ℕ) × (e ≡ Collect j old))))

pub record Leaves (s : State) (e : Event) : Type 0 where
  pub within : Touches s (touches s e) (step_of s e).0
  pub part : is_legal s e ≡ true → PartBy e (touches s e).part
  pub word : is_legal s e ≡ true → WordBy s e (touches s e).word

abbrev pub EventsLeave : Type 0
EventsLeave = (s : State) (e : Event) → Leaves s e
