-- What is true of a heap between two calls of the evacuator, beside the law of its core.
use Rattle.std.specs.Prelude.{◌≡◌, ℕ, ◌+◌, ◌<◌, Bool, true, false, eqb}
use Rattle.std.specs.List.{IsDistinct}
use Rattle.far_word.specs.declared.job.Job.{Job}
use Rattle.far_word.specs.declared.sizes.TheConstants.{EPOCH_END}
use Rattle.far_events.specs.declared.event.Kind.TheVariants.{Sealed}
use Rattle.far_events.specs.events.Mark.{is_sealed}
use Rattle.far_events.specs.state.Law.{Law}
use Rattle.far_book.specs.book.Own.{HasNoJob, own_part}
use Rattle.far_evac.specs.declared.phase.Phase.{Phase}
use Rattle.far_evac.specs.declared.phase.Phase.TheVariants.{Idle, Marking, Waiting, Evacuating}
use Rattle.far_evac.specs.Live.{is_empty}
use Rattle.far_evac.specs.Moment.{Moment}
use Rattle.far_evac.specs.RoundSteps.{among}
use Rattle.far_evac.specs.StillCopies.{StillCopies}

abbrev pub is_idle : Phase → Bool
is_idle Idle = true
is_idle Marking = false
is_idle Waiting = false
is_idle Evacuating = false

abbrev pub is_waiting : Phase → Bool
is_waiting Idle = false
is_waiting Marking = false
is_waiting Waiting = true
is_waiting Evacuating = false

-- the epoch has risen for the running round
abbrev pub has_risen : Phase → Bool
has_risen Idle = false
has_risen Marking = false
has_risen Waiting = true
has_risen Evacuating = true

pub record MomentLaw (m : Moment) : Type 0 where
  -- the order has each sealed log, once
  pub order : (l : ℕ) → among m.order l ≡ is_sealed (m.core.kind l)
  pub order_once : IsDistinct eqb m.order
  -- each log of the collection set is sealed, and stands in it once; there are some exactly while a round is running
  pub sealed : (l : ℕ) → among m.collection l ≡ true → m.core.kind l ≡ Sealed
  pub collection_once : IsDistinct eqb m.collection
  pub runs : is_empty m.collection ≡ is_idle m.phase
  -- once the epoch has risen they are the round's, and no other log is
  pub round : has_risen m.phase ≡ true → (l : ℕ) → among m.collection l ≡ true → m.core.round l ≡ true
  pub only : has_risen m.phase ≡ true → (l : ℕ) → m.core.round l ≡ true → among m.collection l ≡ true
  -- where objects leave, every owner was seen clear
  pub clear : m.phase ≡ Evacuating → (k : ℕ) → k < m.core.mutators → m.core.clear k ≡ true
  -- while objects are marked there is a later epoch
  pub later : m.phase ≡ Marking → m.core.epoch + 1 < EPOCH_END
  -- unless copies may be offered, there is no job
  pub alone : m.copying ≡ false → HasNoJob m.core
  -- a job that isn't void copies from a log of the collection set, while objects leave
  pub held : (j : ℕ) (job : Job) → StillCopies m.core j job → (m.phase ≡ Evacuating) × (among m.collection job.from.log ≡ true)

-- over any hand: this, and of the core's law the book's part
abbrev pub IsLawful : Moment → Type 0
IsLawful m = Law (own_part m.core) × MomentLaw m
