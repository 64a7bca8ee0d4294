-- What the definitions of a round come to, in other words.
use Rattle.std.specs.Prelude.{◌≡◌, ℕ, ◌+◌, ◌*◌, ◌/◌, ◌<◌, ◌≤◌, ◌↔◌, ◌⊎◌, ◌&&◌, cond, true, false, Some, eqb, List, [], ◌∷◌, length, take, drop, Contains, ◌≢◌, ◌^◌, Option, option_map, IsSome, zero, suc, None}
use Rattle.std.specs.List.{AllByRecursion, IsDistinct}
use Rattle.far_word.specs.declared.sizes.TheConstants.{CELLS}
use Rattle.far_word.specs.declared.pointer.Place.{Place}
use Rattle.far_word.specs.declared.pointer.PtrWord.{PtrWord}
use Rattle.far_word.specs.Pointer.{read_of, without_evac}
use Rattle.far_book.specs.book.Dealing.{has_evac}
use Rattle.far_word.specs.declared.scope.ScopeWord.TheVariants.{Closed, Open}
use Rattle.far_word.specs.Scope.{scope_of}
use Rattle.far_events.specs.declared.event.Event.TheVariants.{Advance, Look}
use Rattle.far_events.specs.events.Advance.{is_among}
use Rattle.far_events.specs.events.Look.{shows_clear}
use Rattle.far_events.specs.events.Step.{after}
use Rattle.far_events.specs.state.Law.{Law}
use Rattle.far_book.specs.book.Own.{own_part}
use Rattle.far_events.specs.events.Naming.{is_dropped}
use Rattle.far_events.specs.state.State.{State}
use Rattle.far_book.specs.declared.home.Home.{Home}
use Rattle.far_book.specs.book.Home.{home_of}
use Rattle.far_evac.specs.Census.{homes_of}
use Rattle.far_evac.specs.declared.answers.Polled.{Polled}
use Rattle.far_evac.specs.declared.answers.Polled.TheVariants.{Clear, StillOpen}
use Rattle.far_evac.specs.declared.phase.Phase.TheVariants.{Idle, Waiting, Evacuating}
use Rattle.far_evac.specs.AnyHand.{Polls, WalksTo, Walks}
use Rattle.far_evac.specs.AnyTurns.{RunsRound, TurnsTo}
use Rattle.far_evac.specs.Choosing.{after_aborting, after_selecting, is_spent}
use Rattle.far_evac.specs.Dealings.{BeginsLive, DealsWith, GivesBack, says}
use Rattle.far_evac.specs.Live.{is_empty, lacking, live_among, live_in}
use Rattle.far_evac.specs.Marking.{after_marking, leaves_some, newly_marked, waiting_for}
use Rattle.far_evac.specs.Moment.{Moment, Tally, objects_in, plus}
use Rattle.far_evac.specs.MomentLaw.{MomentLaw, has_risen, is_idle}
use Rattle.far_evac.specs.Ready.{Ready}
use Rattle.far_evac.specs.RoundSteps.{advanced, among, is_clear_now, with_clear_below}
use Rattle.far_evac.specs.Stops.{toured}
use Rattle.far_evac.specs.Turns.{Turned, round_end, turned, turns_made}
use Rattle.far_evac.specs.Waiting.{after_polling, first_open, holds_up, polled}
use Rattle.far_evac.specs.Walk.{Walked, is_done, left, walked}

-- what a walk does where no word changes but by it, it may do over any hand
abbrev pub ExactIsAllowed : Type 0
ExactIsAllowed = (m : Moment) (n : ℕ) → (k : ℕ) × Walks m n k (walked m n)

-- and so it is with a poll, and with a turn of a round that isn't over
abbrev pub PollIsAllowed : Type 0
PollIsAllowed = (m : Moment) → Polls m (after_polling m) (polled m.core)

abbrev pub TurnIsAllowed : Type 0
TurnIsAllowed = (r : Turned) → r.moment.copying ≡ false → r.over ≡ false → is_idle r.moment.phase ≡ false →
    let t = turned r r.moment.phase in (tally : Tally) × TurnsTo r.moment r.moment.phase tally t.over t.moment × (t.tally ≡ plus r.tally tally)

-- and with a whole round, whose turns begin at lawful moments: that is, of sealed logs, each once, while a later epoch is left
abbrev pub RoundIsAllowed : Type 0
RoundIsAllowed = (m : Moment) (l : ℕ) (ls : List ℕ) (turns : ℕ) → Law m.core → MomentLaw m → m.copying ≡ false → is_idle m.phase ≡ true → is_spent m.core ≡ false → IsDistinct eqb (l ∷ ls) →
    ((k : ℕ) → among (l ∷ ls) k ≡ true → among m.order k ≡ true) →
    let r = turns_made (after_selecting m (l ∷ ls)) turns in RunsRound m (l ∷ ls) turns (round_end r) r.moment

-- it is a tour of stops that were listed before it began
abbrev pub WalkIsTour : Type 0
WalkIsTour = (m : Moment) (n : ℕ) → Ready m.core m.collection → walked m n ≡ toured m n

-- a walk, counted with what was done before it
abbrev pub with_before : Tally → Walked → Walked
with_before before w = record w { tally = plus before w.tally }

-- two walks, one after the other, leave and count what one over as many objects does
abbrev pub WalksJoin : Type 0
WalksJoin = (m : Moment) (a b : ℕ) → walked m (a + b) ≡ with_before (walked m a).tally (walked (walked m a).moment b)

-- k objects of a list that was made before were dealt with, in its order: the first k, for the others are left, and there were as many; each is
-- counted once. The logs in front without live objects were given back, also before the first object, and where there are no more objects each log was
pub record DealtInOrder (m : Moment) (k : ℕ) (t : Walked) : Type 0 where
  pub left : left t ≡ drop k (live_among m.core m.collection)
  pub enough : k ≤ length (live_among m.core m.collection)
  pub deals : DealsWith m t.moment t.tally (take k (live_among m.core m.collection))
  pub counted : objects_in t.tally ≡ k
  pub begins : BeginsLive t.moment.core t.moment.collection
  pub done : k ≡ length (live_among m.core m.collection) → is_done t ≡ true
  pub gives : GivesBack m t.moment t.tally.freed
  pub ready : Ready t.moment.core t.moment.collection

-- over any hand the k-th dealing is with the k-th live object
abbrev pub DealingIsInOrder : Type 0
DealingIsInOrder = (m : Moment) (k : ℕ) (t : Walked) → Ready m.core m.collection → WalksTo m k t → DealtInOrder m k t

-- once the epoch has risen for a round, the law of the book's part of the core and that of the moment make it ready
abbrev pub RisenIsReady : Type 0
RisenIsReady = (m : Moment) → Law (own_part m.core) → MomentLaw m → has_risen m.phase ≡ true → Ready m.core m.collection

-- a round of some logs begins by one event, for whose number these logs are the bits
abbrev pub RoundIsEvent : Type 0
RoundIsEvent = (s : State) (logs : List ℕ) (bits : ℕ) → ((l : ℕ) → is_among bits l ≡ among logs l) → advanced s logs ≡ after s (Advance bits)

-- an owner is clear now where far_core's look would show it; and after looks at the first k owners, each of which is clear, those are seen clear
abbrev pub ClearIsShown : Type 0
ClearIsShown = (s : State) (m : ℕ) → IsSome (scope_of (s.scope m)) → is_clear_now s m ≡ shows_clear s.round_epoch (scope_of (s.scope m))

abbrev pub looks : State → ℕ → State
looks s zero = s
looks s (suc k) = after (looks s k) (Look k)

abbrev pub LooksSeeClear : Type 0
LooksSeeClear = (s : State) → ((m : ℕ) → IsSome (scope_of (s.scope m))) → (k : ℕ) → ((m : ℕ) → m < k → holds_up s m ≡ false) → looks s k ≡ with_clear_below s k

-- where a poll answers that all are clear, nobody views anything in the collection set
abbrev pub ClearMeansUnviewed : Type 0
ClearMeansUnviewed = (m : Moment) → Law m.core → MomentLaw m → has_risen m.phase ≡ true → first_open m.core ≡ None →
    (p : ℕ) (place : Place) → m.core.held p ≡ Some place → among m.collection place.log ≡ false

-- and nobody does in the heap as it is then, or ever after in the round, also once owners have opened again: s is any state whose round and whose owners
-- seen clear are those that the moment knows. While owners are waited for, those that were seen clear view nothing there
abbrev pub ClearViewsNothing : Type 0
ClearViewsNothing = (m : Moment) (s : State) → Law s → s.round ≡ m.core.round → s.clear ≡ m.core.clear → s.mutators ≡ m.core.mutators → MomentLaw m → has_risen m.phase ≡ true →
    (p : ℕ) (place : Place) → s.held p ≡ Some place → (m.core.clear (p / CELLS) ≡ true → among m.collection place.log ≡ false) × (m.phase ≡ Evacuating → among m.collection place.log ≡ false)

-- what a word says, but for EVAC
abbrev pub but_evac : Option PtrWord → Option PtrWord
but_evac = option_map without_evac

-- the first n objects that lacked EVAC have it then, or all; where none is left, each live object of the collection set has it. In no cell anything
-- else has changed, and in the cells of others nothing
pub record IsMarked (m t : Moment) (n : ℕ) : Type 0 where
  pub now : AllByRecursion (λ p. has_evac (says t p) ≡ true) (newly_marked m n)
  pub all : leaves_some m n ≡ false → AllByRecursion (λ p. has_evac (says t p) ≡ true) (live_among m.core m.collection)
  pub same : (p : ℕ) → but_evac (says t p) ≡ but_evac (says m p)
  pub others : (p : ℕ) → AllByRecursion (λ q. q ≢ p) (newly_marked m n) → t.core.cell p ≡ m.core.cell p

abbrev pub MarkingIsRight : Type 0
MarkingIsRight = (m : Moment) (n : ℕ) → ((p : ℕ) → m.core.cell p < 2 ^ 64) → IsMarked m (after_marking m n) n

-- the objects that are counted are live ones that lacked EVAC, each once, and n at most; those that lack it then are the others, in their order. While the
-- answer names no epoch there were n, one lacks it still, and nothing but cells has changed. Else none lacks it; the epoch that is named is the next one,
-- the round waits in it with the collection set, and nobody was seen clear yet
pub record IsCounted (m t : Moment) (n : ℕ) : Type 0 where
  pub bare : AllByRecursion (λ p. has_evac (says m p) ≡ false) (newly_marked m n)
  pub live : AllByRecursion (λ p. Contains (live_among m.core m.collection) p) (newly_marked m n)
  pub once : IsDistinct eqb (newly_marked m n)
  pub most : length (newly_marked m n) ≤ n
  pub left : lacking t.core t.collection ≡ drop (length (newly_marked m n)) (lacking m.core m.collection)
  pub goes_on : waiting_for m n ≡ None → (length (newly_marked m n) ≡ n) × (is_empty (lacking t.core t.collection) ≡ false) × (t ≡ record m { core = record m.core { cell = t.core.cell } })
  pub waits : (epoch : ℕ) → waiting_for m n ≡ Some epoch → (epoch ≡ m.core.epoch + 1) × (lacking t.core t.collection ≡ [])
      × (t ≡ record m { core = record m.core { cell = t.core.cell; epoch = epoch; round = among m.collection; round_epoch = epoch; clear = λ _. false }; phase = Waiting })

-- where each log stands once in the collection set
abbrev pub MarkingIsCounted : Type 0
MarkingIsCounted = (m : Moment) (n : ℕ) → ((p : ℕ) → m.core.cell p < 2 ^ 64) → IsDistinct eqb m.collection → IsCounted m (after_marking m n) n

-- no live object of what was the collection set has EVAC; in no cell anything else has changed, and in the cells of others nothing. Its logs
-- are out of the core's round, but for those without a live object, and no other log is; no round is running, and all else is as it was: also the order and
-- the kinds of the logs, words, epochs and who was seen clear
pub record IsGivenUp (m t : Moment) : Type 0 where
  pub bare : AllByRecursion (λ p. has_evac (says t p) ≡ false) (live_among m.core m.collection)
  pub same : (p : ℕ) → but_evac (says t p) ≡ but_evac (says m p)
  pub others : (p : ℕ) → AllByRecursion (λ q. q ≢ p) (live_among m.core m.collection) → t.core.cell p ≡ m.core.cell p
  pub round : (l : ℕ) → t.core.round l ≡ cond (among m.collection l) (m.core.round l && is_empty (live_in m.core l)) (m.core.round l)
  pub rest : t ≡ record m { core = record m.core { cell = t.core.cell; round = t.core.round }; phase = Idle; collection = [] }

abbrev pub GivingUpIsRight : Type 0
GivingUpIsRight = (m : Moment) → ((p : ℕ) → m.core.cell p < 2 ^ 64) → IsGivenUp m (after_aborting m)

-- a census has exactly the home of each pointer whose cell is used and isn't dropped
abbrev pub CensusIsExact : Type 0
CensusIsExact = (s : State) (p : ℕ) (home : Home) → Contains (homes_of s) record { pointer = p; home = home } ↔
    ((p < CELLS * s.mutators) × (home_of (read_of (s.cell p)) ≡ Some home) × (is_dropped (read_of (s.cell p)) ≡ false))

-- a poll that found an owner open finds it again, and leaves what one poll left
abbrev pub PollIsOnce : Type 0
PollIsOnce = (m : Moment) (k : ℕ) → first_open m.core ≡ Some k → (first_open (after_polling m).core ≡ Some k) × (after_polling (after_polling m) ≡ after_polling m)

-- an owner was seen clear, or its scope is closed, or open at the round's epoch or later
abbrev pub HoldsUpNone : State → ℕ → Type 0
HoldsUpNone s k = (s.clear k ≡ true) ⊎ (scope_of (s.scope k) ≡ Some Closed) ⊎ ((epoch : ℕ) × (scope_of (s.scope k) ≡ Some (Open epoch)) × (s.round_epoch ≤ epoch))

-- an owner who wasn't seen clear is open at this epoch, which is older than the round's, and those before it hold up nothing
pub record IsFirstOpen (s : State) (k epoch : ℕ) : Type 0 where
  pub owner : k < s.mutators
  pub scope : s.scope k ≡ 2 * epoch + 1
  pub older : epoch < s.round_epoch
  pub unseen : s.clear k ≡ false
  pub before : (j : ℕ) → j < k → HoldsUpNone s j

-- what an answer of a poll says of the owners
abbrev pub TellsWhoIsOpen : State → Polled → Type 0
TellsWhoIsOpen s Clear = (k : ℕ) → k < s.mutators → HoldsUpNone s k
TellsWhoIsOpen s (StillOpen k epoch) = IsFirstOpen s k epoch

abbrev pub WaitIsNamed : Type 0
WaitIsNamed = (s : State) → ((k : ℕ) → IsSome (scope_of (s.scope k))) → TellsWhoIsOpen s (polled s)

-- where a turn found the round waiting, and left it so, no turn after it changes anything
abbrev pub WaitingStays : Type 0
WaitingStays = (m : Moment) (n k : ℕ) → (turns_made m n).moment.phase ≡ Waiting → (turns_made m (n + 1)).moment.phase ≡ Waiting →
    (turns_made m (n + 1 + k) ≡ turns_made m (n + 1)) × ((turns_made m (n + 1)).over ≡ false)
