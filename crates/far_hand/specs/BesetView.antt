-- What a beset hand's book knows of the core, and what a call of the hand is.
use Rattle.std.specs.Prelude.{◌≡◌, ◌+◌, ℕ, Option, Some, None, slice_get}
use Rattle.far_events.specs.declared.event.Event.{Event}
use Rattle.far_events.specs.declared.event.Reply.{Reply}
use Rattle.far_core.specs.state.CoreState.{core_state}
use Rattle.far_events.specs.state.Law.{Law}
use Rattle.far_events.specs.state.State.{State}
use Rattle.far_hand.specs.declared.beset.Beset.{Beset}
use Rattle.far_hand.specs.Masked.{masked, word_at, is_counted}
use Rattle.far_hand.specs.MayBe.{Made, MayBeBeside, Shows, Tells, beside_itself}
use Rattle.far_hand.specs.Others.{after_turn}

abbrev pub beset_view : Beset → State
beset_view hand = masked (core_state hand.core) (word_at hand.found.items) (is_counted hand.counted.items) (word_at hand.jobs)

-- the core's state, as others may change it until the next call
abbrev pub beset_may_be : Beset → State → Type 0
beset_may_be hand = MayBeBeside (beset_view hand) (core_state hand.core)

-- the others' next event
abbrev pub next_event : Beset → Option Event
next_event hand = slice_get hand.events.items hand.made

-- how many events of the list the others are past, once they had their turn
abbrev pub passed : Option Event → ℕ → ℕ
passed None made = made
passed (Some e) made = made + 1

-- the core's state once others had their turn
abbrev pub turned : Beset → State
turned hand = after_turn (core_state hand.core) (next_event hand)

-- from a hand to a later one: others have their turn, in which the next event of the list is made, if it is an owner's or a copier's, and legal; then this
-- event is made, with this answer; and nothing else happens
pub record TurnThen (hand : Beset) (e : Event) (r : Reply) (later : Beset) : Type 0 where
  pub turn : beset_may_be hand (turned hand)
  pub call : Made (turned hand) e r (core_state later.core)
  pub list : later.events ≡ hand.events
  pub past : later.made ≡ passed (next_event hand) hand.made

-- ---- what is so of each beset hand
pub core_may_be : (hand : Beset) → beset_may_be hand (core_state hand.core)
core_may_be hand = beside_itself (core_state hand.core) (word_at hand.found.items) (is_counted hand.counted.items) (word_at hand.jobs) hand.core.law hand.finds hand.finds_jobs

pub beset_lawful : (hand : Beset) (x : State) → beset_may_be hand x → Law x
beset_lawful hand x may = may.law

pub beset_shown : (hand : Beset) (x : State) → beset_may_be hand x → Shows (beset_view hand) x
beset_shown hand x may = may.shown

pub beset_there : (hand : Beset) → ∥ ((x : State) × beset_may_be hand x) ∥₁
beset_there hand = ∣ (core_state hand.core, core_may_be hand) ∣₁

pub beset_alone : (hand : Beset) → ⊥ → (x : State) → beset_may_be hand x → x ≡ beset_view hand
beset_alone hand still x may = absurd still

pub beset_told : (hand later : Beset) (e : Event) (r : Reply) → TurnThen hand e r later → ∥ Tells (beset_may_be hand) (beset_may_be later) e r ∥₁
beset_told hand later e r told = ∣ record { was = turned hand; now = core_state later.core; might = told.turn; may = core_may_be later; call = told.call } ∣₁
