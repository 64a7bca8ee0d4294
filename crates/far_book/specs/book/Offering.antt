-- What offering the copy of an object to copiers asks, and what it leaves.
use Rattle.std.specs.Prelude.{◌≡◌, ◌≢◌, ◌+◌, ◌*◌, ◌/◌, ◌<◌, ℕ, false, true, Option, Some, None}
use Rattle.far_word.specs.declared.job.JobWord.TheVariants.{Offered}
use Rattle.far_word.specs.declared.mark.Marks.{Marks}
use Rattle.far_word.specs.declared.pointer.Place.{Place}
use Rattle.far_word.specs.declared.pointer.PtrWord.{PtrWord}
use Rattle.far_word.specs.declared.pointer.PtrWord.TheVariants.{Free, Near, Far}
use Rattle.far_word.specs.declared.sizes.TheConstants.{CELLS, JOBS}
use Rattle.far_word.specs.Header.{IsHead, head_word}
use Rattle.far_word.specs.Job.{job_of}
use Rattle.far_word.specs.Pointer.{IsPtr, read_of}
use Rattle.far_word.specs.Sizes.{words_for}
use Rattle.far_events.specs.declared.event.Event.TheVariants.{Offer}
use Rattle.far_events.specs.events.Legal.{IsNext}
use Rattle.far_events.specs.events.Naming.{no_marks}
use Rattle.far_events.specs.declared.event.Kind.TheVariants.{Open}
use Rattle.far_events.specs.events.Quiet.{IsClearNear}
use Rattle.far_events.specs.events.Step.{after}
use Rattle.far_events.specs.state.Jobs.{near_place}
use Rattle.far_events.specs.state.Law.{Law}
use Rattle.far_events.specs.state.State.{State, put, addr}
use Rattle.far_hand.specs.Finds.{Finds}
use Rattle.far_hand.specs.Known.{Forgets}
use Rattle.far_book.specs.book.Dealing.{goal}
use Rattle.far_book.specs.book.Own.{own_part}
use Rattle.far_book.specs.book.Renaming.{seen}

-- no job is empty
abbrev pub NoneEmpty : State → Type 0
NoneEmpty s = (j : ℕ) → j < JOBS → s.copying.word j ≢ 0

-- a job is the lowest empty one
abbrev pub IsLowestEmpty : State → ℕ → Type 0
IsLowestEmpty s j = (j < JOBS) × (s.copying.word j ≡ 0) × ((i : ℕ) → i < j → s.copying.word i ≢ 0)

-- a header for p and a last data word of 0 are written at a place
abbrev pub with_ends : State → ℕ → ℕ → ℕ → Place → State
with_ends s p len ds to = record s { word = put (put s.word (addr to) (head_word p len ds)) (addr to + words_for len) 0 }

-- the copy of p's near object to a place is offered by a job: the ends of a span are written there, the span is taken, and no cell names it
abbrev pub offered_of : State → ℕ → ℕ → Place → Option PtrWord → State
offered_of s j p to None = s
offered_of s j p to (Some Free) = s
offered_of s j p to (Some (Near len ds from marks)) = after (with_ends s p len ds to) (Offer j p to)
offered_of s j p to (Some (Far len ds marks)) = s

abbrev pub offered : State → ℕ → ℕ → Place → State
offered s j p to = offered_of s j p to (read_of (s.cell p))

-- from s to t the copy of p's object was offered by the lowest empty job, to where it would move; its cell is known as it was found, and words may have been forgotten
pub record OffersCopy (s t : State) (p : ℕ) : Type 0 where
  pub job : ℕ
  pub lowest : IsLowestEmpty s job
  pub to : Place
  pub place : goal s p ≡ Some to
  pub word : ℕ
  pub found : Finds (s.cell p) word
  pub leads : t ≡ record (offered (seen s p word) job p to) { word = t.word }
  pub forgot : Forgets (offered (seen s p word) job p to) t

-- the same exactly
pub record OffersOnly (s t : State) (p : ℕ) : Type 0 where
  pub job : ℕ
  pub lowest : IsLowestEmpty s job
  pub to : Place
  pub place : goal s p ≡ Some to
  pub is : t ≡ offered s job p to

-- from s to t p's cell was looked at at most, and is known as it was found
pub record IsLookedAt (s t : State) (p : ℕ) : Type 0 where
  pub word : ℕ
  pub found : Finds (s.cell p) word
  pub is : t ≡ seen s p word

-- the job's word says that a copier may copy p's object, from where it lies to a place; it is of the round that lasts, and no other job is another. The log of the place
-- is the open one
pub record IsOffered (s t : State) (p j : ℕ) (to : Place) : Type 0 where
  pub from : Place
  pub lies : near_place (read_of (s.cell p)) ≡ Some from
  pub says : job_of (t.copying.word j) ≡ Some (Offered record { pointer = p; from = from; to = to })
  pub since : t.copying.since j ≡ s.epoch
  pub unnamed : t.copying.named j ≡ false
  pub others : (i : ℕ) → i ≢ j → (t.copying.word i ≡ s.copying.word i) × (t.copying.since i ≡ s.copying.since i) × (t.copying.named i ≡ s.copying.named i)
  pub opened : t.kind to.log ≡ Open

abbrev pub OffersAreJobs : Type 0
OffersAreJobs = (s t : State) (p : ℕ) → Law (own_part s) → IsClearNear s p → (o : OffersCopy s t p) → IsOffered s t p o.job o.to

-- an object may be offered by a job to be copied: it is near with EVAC, in a log of the round, and its owner was seen clear in it; the job is empty; and a
-- span for the copy may stand at the place
pub record IsCopyable (s : State) (j p len ds : ℕ) (from to : Place) : Type 0 where
  pub number : j < JOBS
  pub empty : s.copying.word j ≡ 0
  pub pointer : p < CELLS * s.mutators
  pub marks : Marks
  pub near : read_of (s.cell p) ≡ Some (Near len ds from marks)
  pub wanted : marks.evac ≡ true
  pub chosen : s.round from.log ≡ true
  pub clear : s.clear (p / CELLS) ≡ true
  pub layout : IsPtr (Near len ds to no_marks)
  pub head : IsHead record { pointer = p; len = len; ds = ds }
  pub next : IsNext s to
  pub ends : s.tail to.log ≡ to.at
