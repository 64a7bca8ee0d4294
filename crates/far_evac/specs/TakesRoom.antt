-- What dealing with objects takes of the logs, in bytes: of those outside the collection set, of those that are still in it, and of those that were given back.
use Rattle.std.specs.Prelude.{◌≡◌, ◌≢◌, ℕ, ◌+◌, ◌<◌, ◌==◌, Bool, true, false, cond, eqb, Option, Some, None, List, take}
use Rattle.std.specs.List.{AllByRecursion, IsDistinct, range_with_len, sum_by}
use Rattle.far_word.specs.declared.pointer.PtrWord.{PtrWord}
use Rattle.far_word.specs.declared.pointer.PtrWord.TheVariants.{Free, Near, Far}
use Rattle.far_word.specs.declared.sizes.TheConstants.{LOG_BYTES}
use Rattle.far_word.specs.Pointer.{read_of}
use Rattle.far_word.specs.Sizes.{bytes_taken}
use Rattle.far_events.specs.declared.event.Kind.TheVariants as kinds
use Rattle.far_events.specs.events.Clear.{is_near}
use Rattle.far_events.specs.events.Naming.{no_marks}
use Rattle.far_core.specs.laws.Observed.{dead_bytes, live_bytes, unused_bytes}
use Rattle.far_events.specs.state.Law.{Law}
use Rattle.far_events.specs.state.State.{State}
use Rattle.far_book.specs.book.Own.{own_part}
use Rattle.far_evac.specs.declared.answers.Progress.{Progress}
use Rattle.far_evac.specs.declared.answers.RoundEnd.{RoundEnd}
use Rattle.far_evac.specs.declared.phase.Phase.TheVariants.{Evacuating}
use Rattle.far_evac.specs.AnyHand.{Evacuates, StopsAt, WalksTo}
use Rattle.far_evac.specs.AnyTurns.{RunsRound, StopsRound, TurnsMade, TurnsTo}
use Rattle.far_evac.specs.Choosing.{after_selecting, is_spent}
use Rattle.far_evac.specs.Dealings.{HasLeft, says}
use Rattle.far_evac.specs.Live.{live_among}
use Rattle.far_evac.specs.LiveLaws.{IsNearIn}
use Rattle.far_evac.specs.Moment.{Moment, Tally}
use Rattle.far_evac.specs.MomentLaw.{MomentLaw, is_idle}
use Rattle.far_evac.specs.Ready.{Ready}
use Rattle.far_evac.specs.RoundSteps.{among}
use Rattle.far_evac.specs.Turns.{IsRound, turns_made}
use Rattle.far_evac.specs.Walk.{Walked}

-- what a cell says, but for its marks
abbrev pub spot_of : Option PtrWord → Option PtrWord
spot_of None = None
spot_of (Some Free) = Some Free
spot_of (Some (Near len ds place marks)) = Some (Near len ds place no_marks)
spot_of (Some (Far len ds marks)) = Some (Far len ds no_marks)

-- the bytes that an object takes by what its cell says, dropped or not: anywhere; and in a log
abbrev pub bytes_near : Option PtrWord → ℕ
bytes_near None = 0
bytes_near (Some Free) = 0
bytes_near (Some (Near len ds place marks)) = bytes_taken len
bytes_near (Some (Far len ds marks)) = 0

abbrev pub bytes_at : ℕ → Option PtrWord → ℕ
bytes_at l None = 0
bytes_at l (Some Free) = 0
bytes_at l (Some (Near len ds place marks)) = cond (place.log == l) (bytes_taken len) 0
bytes_at l (Some (Far len ds marks)) = 0

-- the bytes that some objects take in a log
abbrev pub bytes_in : State → ℕ → List ℕ → ℕ
bytes_in s l objects = sum_by (λ p. bytes_at l (read_of (s.cell p))) objects

-- and the bytes of those that were near in s, and aren't in t
abbrev pub gone_of : State → State → ℕ → ℕ
gone_of s t p = cond (is_near (read_of (t.cell p))) 0 (bytes_near (read_of (s.cell p)))

abbrev pub bytes_gone : State → State → List ℕ → ℕ
bytes_gone s t objects = sum_by (gone_of s t) objects

-- a log outside the collection set: its dead bytes stay, and its live ones rise by those objects alone that came, for which unused ones were taken. A sealed log takes none; one that was
-- free isn't free any more only where one came
pub record IsAside (s t : State) (objects : List ℕ) (l : ℕ) : Type 0 where
  pub live : live_bytes t l ≡ live_bytes s l + bytes_in t l objects
  pub dead : dead_bytes t l ≡ dead_bytes s l
  pub unused : unused_bytes t l + bytes_in t l objects ≡ unused_bytes s l
  pub sealed : s.kind l ≡ kinds.Sealed → (t.kind l ≡ kinds.Sealed) × (bytes_in t l objects ≡ 0)
  pub opened : s.kind l ≡ kinds.Free → t.kind l ≢ kinds.Free → 0 < bytes_in t l objects
  pub used : s.kind l ≢ kinds.Free → t.kind l ≢ kinds.Free

-- a log that is still in the collection set: the bytes of the objects that left it are dead, and none is taken
pub record IsLeft (s t : State) (objects : List ℕ) (l : ℕ) : Type 0 where
  pub live : live_bytes t l + bytes_in s l objects ≡ live_bytes s l
  pub dead : dead_bytes t l ≡ dead_bytes s l + bytes_in s l objects
  pub unused : unused_bytes t l ≡ unused_bytes s l

-- a log that was given back: each byte that was live there was of one of these objects. It has what came since, of which nothing is dead, and all else is unused
pub record IsBack (s t : State) (objects : List ℕ) (l : ℕ) : Type 0 where
  pub left : live_bytes s l ≡ bytes_in s l objects
  pub live : live_bytes t l ≡ bytes_in t l objects
  pub dead : dead_bytes t l ≡ 0
  pub unused : unused_bytes t l + bytes_in t l objects ≡ LOG_BYTES

-- the live bytes of all logs
abbrev pub all_live : State → ℕ
all_live s = sum_by (live_bytes s) (range_with_len 0 s.logs)

-- these objects, each once, left the collection set, and each other lies where it lay, under whatever marks; what that took of the logs. Of all logs together live bytes fall by those objects that went far or were retired
pub record TakesRoom (m t : Moment) (objects : List ℕ) : Type 0 where
  pub once : IsDistinct eqb objects
  pub of_collection : AllByRecursion (IsNearIn m.core m.collection) objects
  pub away : AllByRecursion (λ p. HasLeft (says m p) (says t p)) objects
  pub others : (p : ℕ) → AllByRecursion (λ q. q ≢ p) objects → spot_of (read_of (t.core.cell p)) ≡ spot_of (read_of (m.core.cell p))
  pub sizes : AllByRecursion (λ p. is_near (read_of (t.core.cell p)) ≡ true → bytes_near (read_of (t.core.cell p)) ≡ bytes_near (read_of (m.core.cell p))) objects
  pub aside : (l : ℕ) → among m.collection l ≡ false → IsAside m.core t.core objects l
  pub left : (l : ℕ) → among t.collection l ≡ true → IsLeft m.core t.core objects l
  pub back : (l : ℕ) → among m.collection l ≡ true → among t.collection l ≡ false → IsBack m.core t.core objects l
  pub logs : t.core.logs ≡ m.core.logs
  pub total : all_live t.core + bytes_gone m.core t.core objects ≡ all_live m.core

-- over any hand: k dealings are with the first k live objects of the collection set, and take so much
abbrev pub WalkTakesRoom : Type 0
WalkTakesRoom = (m : Moment) (k : ℕ) (t : Walked) → Law (own_part m.core) → Ready m.core m.collection → WalksTo m k t → TakesRoom m t.moment (take k (live_among m.core m.collection))

-- so much a call takes that makes such steps: some objects were dealt with, none where only marks were given or owners looked at
abbrev pub TakesSome : Moment → Moment → Type 0
TakesSome m t = (objects : List ℕ) × TakesRoom m t objects

-- over any hand: a walk over n objects, or all, one that was refused at an object, and a turn
abbrev pub CallTakesRoom : Type 0
CallTakesRoom = (m t : Moment) (n : ℕ) (tally : Tally) (done : Bool) → Law (own_part m.core) → MomentLaw m →
    (m.phase ≡ Evacuating → Evacuates m n t tally done → TakesSome m t) × (m.phase ≡ Evacuating → StopsAt m n t tally → TakesSome m t) × (m.copying ≡ false → TurnsTo m m.phase tally done t → TakesSome m t)

-- turns, one after the other; and a whole round, from its begin on, also one that stopped at an object in one of its turns
abbrev pub TurnsTakeSome : Type 0
TurnsTakeSome = (m : Moment) (tallies : List Tally) (over : Bool) (t : Moment) → Law (own_part m.core) → m.copying ≡ false → TurnsMade m tallies over t → TakesSome m t

abbrev pub RoundTakesSome : Type 0
RoundTakesSome = (m t : Moment) (logs : List ℕ) (turns : ℕ) → Law (own_part m.core) → m.copying ≡ false →
    ((end : RoundEnd) → RunsRound m logs turns end t → TakesSome (after_selecting m logs) t) × ((so_far : Progress) → StopsRound m logs turns so_far t → TakesSome (after_selecting m logs) t)

-- so many turns of a running round, and a whole round of sealed logs, each once, where no word changes but by this
abbrev pub TurnsTakeRoom : Type 0
TurnsTakeRoom = (m : Moment) (n : ℕ) → Law m.core → MomentLaw m → m.copying ≡ false → is_idle m.phase ≡ false → TakesSome m (turns_made m n).moment

abbrev pub RoundTakesRoom : Type 0
RoundTakesRoom = (m : Moment) (logs : List ℕ) (turns : ℕ) (end : RoundEnd) (t : Moment) → Law m.core → MomentLaw m → m.copying ≡ false → is_idle m.phase ≡ true → is_spent m.core ≡ false → IsDistinct eqb logs →
    ((l : ℕ) → among logs l ≡ true → among m.order l ≡ true) → IsRound m logs turns end t → TakesSome (after_selecting m logs) t
