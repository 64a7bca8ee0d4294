-- Which logs are in the core's round beside those that the evacuator holds. Once the epoch has risen there are none; before, a round that was given up may have
-- left some, in which nothing lies: giving up takes a log out of the round by its objects.
use Rattle.std.specs.Prelude.{◌≡◌, ℕ, Bool, true, false, eqb, Option, Some, List}
use Rattle.std.specs.List.{AllByRecursion, IsDistinct}
use Rattle.far_word.specs.declared.mark.Marks.{Marks}
use Rattle.far_word.specs.declared.pointer.Place.{Place}
use Rattle.far_word.specs.declared.pointer.PtrWord.TheVariants.{Near}
use Rattle.far_word.specs.Pointer.{read_of}
use Rattle.far_events.specs.declared.event.Event.{Event}
use Rattle.far_events.specs.events.Ranges.{after_events}
use Rattle.far_events.specs.events.Step.{Fits}
use Rattle.far_events.specs.state.Law.{Law}
use Rattle.far_events.specs.state.State.{State}
use Rattle.far_hand.specs.Others.{OthersChange}
use Rattle.far_book.specs.book.Own.{own_part}
use Rattle.far_evac.specs.declared.answers.Polled.{Polled}
use Rattle.far_evac.specs.declared.answers.Progress.{Progress}
use Rattle.far_evac.specs.declared.answers.RoundEnd.{RoundEnd}
use Rattle.far_evac.specs.declared.phase.Phase.TheVariants.{Evacuating}
use Rattle.far_evac.specs.AnyHand.{KnowsMoment, MarksSome, Polls}
use Rattle.far_evac.specs.AnyTurns.{RunsRound, StopsRound, TurnsMade, TurnsTo}
use Rattle.far_evac.specs.ByCopying.{EvacuatesBy, GivesUpBy, StopsBy}
use Rattle.far_evac.specs.Choosing.{after_aborting, after_selecting, is_spent}
use Rattle.far_evac.specs.Marking.{after_marking}
use Rattle.far_evac.specs.Moment.{Moment, Tally, with_core}
use Rattle.far_evac.specs.MomentLaw.{MomentLaw, has_risen, is_idle}
use Rattle.far_evac.specs.RoundSteps.{among}
use Rattle.far_evac.specs.Turns.{IsRound, turns_made}
use Rattle.far_evac.specs.Waiting.{after_polling}
use Rattle.far_evac.specs.Walk.{ended, walked}

-- each object that lies in a log of the core's round, dropped or not, lies in one of the collection set
abbrev pub NoneStrays : Moment → Type 0
NoneStrays m = (p len ds : ℕ) (place : Place) (marks : Marks) → read_of (m.core.cell p) ≡ Some (Near len ds place marks) → m.core.round place.log ≡ true → among m.collection place.log ≡ true

-- ---- where it is so
-- where the core has no round, as at the start
abbrev pub NoRoundStraysNone : Type 0
NoRoundStraysNone = (m : Moment) → ((l : ℕ) → m.core.round l ≡ false) → NoneStrays m

-- once the epoch has risen
abbrev pub RisenStraysNone : Type 0
RisenStraysNone = (m : Moment) → MomentLaw m → has_risen m.phase ≡ true → NoneStrays m

-- ---- it stays so through each call of a round, turns, and whole rounds
abbrev pub SelectingStraysNone : Type 0
SelectingStraysNone = (m : Moment) (logs : List ℕ) → MomentLaw m → is_idle m.phase ≡ true → NoneStrays m → NoneStrays (after_selecting m logs)

abbrev pub MarkingStraysNone : Type 0
MarkingStraysNone = (m : Moment) (n : ℕ) → Law m.core → NoneStrays m → NoneStrays (after_marking m n)

abbrev pub PollingStraysNone : Type 0
PollingStraysNone = (m : Moment) → NoneStrays m → NoneStrays (after_polling m)

abbrev pub WalkingStraysNone : Type 0
WalkingStraysNone = (m : Moment) (n : ℕ) → Law m.core → MomentLaw m → m.copying ≡ false → m.phase ≡ Evacuating → NoneStrays (ended (walked m n))

abbrev pub AbortingStraysNone : Type 0
AbortingStraysNone = (m : Moment) → Law m.core → NoneStrays m → NoneStrays (after_aborting m)

abbrev pub TurnsStrayNone : Type 0
TurnsStrayNone = (m : Moment) (n : ℕ) → Law m.core → MomentLaw m → m.copying ≡ false → is_idle m.phase ≡ false → NoneStrays m → NoneStrays (turns_made m n).moment

abbrev pub RoundStraysNone : Type 0
RoundStraysNone = (m : Moment) (logs : List ℕ) (turns : ℕ) (end : RoundEnd) (t : Moment) → Law m.core → MomentLaw m → m.copying ≡ false → is_idle m.phase ≡ true → is_spent m.core ≡ false → IsDistinct eqb logs →
    ((l : ℕ) → among logs l ≡ true → among m.order l ≡ true) → IsRound m logs turns end t → NoneStrays m → NoneStrays t

-- ---- the same over any hand
-- marks that are found bring none
abbrev pub FoundStrayNone : Type 0
FoundStrayNone = (m t : Moment) → KnowsMoment m t → NoneStrays m → NoneStrays t

-- marking, a poll, a walk or one that was refused at an object, giving up, and a turn
abbrev pub CallsStrayNone : Type 0
CallsStrayNone = (m t : Moment) → Law (own_part m.core) → MomentLaw m → NoneStrays m →
    ((n count : ℕ) (waiting : Option ℕ) → MarksSome m t n count waiting → NoneStrays t)
    × ((answer : Polled) → Polls m t answer → NoneStrays t)
    × ((n : ℕ) (tally : Tally) (done : Bool) → m.phase ≡ Evacuating → EvacuatesBy m n t tally done → NoneStrays t)
    × ((n : ℕ) (tally : Tally) → m.phase ≡ Evacuating → StopsBy m n t tally → NoneStrays t)
    × (GivesUpBy m t → NoneStrays t)
    × ((tally : Tally) (done : Bool) → TurnsTo m m.phase tally done t → NoneStrays t)

-- turns, one after the other; and a whole round, also one that stopped at an object
abbrev pub RowsStrayNone : Type 0
RowsStrayNone = (m t : Moment) (tallies : List Tally) (over : Bool) → TurnsMade m tallies over t → NoneStrays m → NoneStrays t

abbrev pub RoundsStrayNone : Type 0
RoundsStrayNone = (m t : Moment) (logs : List ℕ) (turns : ℕ) → MomentLaw m → is_idle m.phase ≡ true → NoneStrays m →
    ((end : RoundEnd) → RunsRound m logs turns end t → NoneStrays t) × ((so_far : Progress) → StopsRound m logs turns so_far t → NoneStrays t)

-- ---- and through what callers do between two of them
-- from s to t no log comes into the round, and what lies in one of its logs then lay there
pub record NoneComes (s t : State) : Type 0 where
  pub round : (l : ℕ) → t.round l ≡ true → s.round l ≡ true
  pub near : (p len ds : ℕ) (place : Place) (marks : Marks) → read_of (t.cell p) ≡ Some (Near len ds place marks) → t.round place.log ≡ true → (old : Marks) × (read_of (s.cell p) ≡ Some (Near len ds place old))

abbrev pub CallersStrayNone : Type 0
CallersStrayNone = (m : Moment) (t : State) → NoneComes m.core t → NoneStrays m → NoneStrays (with_core m t)

abbrev pub ComersJoin : Type 0
ComersJoin = (s t u : State) → NoneComes s t → NoneComes t u → NoneComes s u

-- whatever owners do while the book works
abbrev pub OwnersBringNone : Type 0
OwnersBringNone = (s t : State) → OthersChange s t → NoneComes s t

-- and any row of events, an owner's, a copier's or the book's, that leaves the epoch as it is
abbrev pub EventsBringNone : Type 0
EventsBringNone = (s : State) (es : List Event) → Law s → AllByRecursion Fits es → (after_events s es).epoch ≡ s.epoch → NoneComes s (after_events s es)
