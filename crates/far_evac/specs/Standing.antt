-- What is true of the record that an evacuator keeps of its round.
use Rattle.std.specs.Prelude.{◌≡◌, ℕ, ◌+◌, ◌<◌, ◌≤◌, Bool, true, false, Some, List, [], ◌∷◌, length, take, drop, eqb}
use Rattle.std.specs.List.{IsDistinct}
use Rattle.far_word.specs.declared.job.Job.{Job}
use Rattle.far_word.specs.declared.mark.Marks.{Marks}
use Rattle.far_word.specs.declared.pointer.Place.{Place}
use Rattle.far_word.specs.declared.pointer.PtrWord.TheVariants.{Near}
use Rattle.far_word.specs.declared.sizes.TheConstants.{EPOCH_END}
use Rattle.far_word.specs.Pointer.{read_of}
use Rattle.far_events.specs.declared.event.Kind.TheVariants.{Sealed}
use Rattle.far_events.specs.state.State.{State}
use Rattle.far_book.specs.book.NextLive.{IsBoundary}
use Rattle.far_book.specs.book.Own.{HasNoJob}
use Rattle.far_evac.specs.declared.phase.Phase.{Phase}
use Rattle.far_evac.specs.declared.phase.Phase.TheVariants.{Idle, Marking, Waiting, Evacuating}
use Rattle.far_evac.specs.declared.round.Round.{Round}
use Rattle.far_evac.specs.Live.{is_empty}
use Rattle.far_evac.specs.MomentLaw.{has_risen, is_idle}
use Rattle.far_evac.specs.RoundSteps.{among}
use Rattle.far_evac.specs.StillCopies.{StillCopies}

-- the chosen logs that weren't given back: while objects leave, those from where the walk stands
abbrev pub collection_of : Phase → List ℕ → ℕ → List ℕ
collection_of Idle chosen index = []
collection_of Marking chosen index = chosen
collection_of Waiting chosen index = chosen
collection_of Evacuating chosen index = drop index chosen

abbrev pub collection_in : Round → List ℕ
collection_in r = collection_of r.phase r.chosen r.index

-- each object that lies in a log has EVAC, where it lies before a word
abbrev pub MarkedBefore : State → ℕ → ℕ → Type 0
MarkedBefore s l at = (p len ds : ℕ) (place : Place) (marks : Marks) → read_of (s.cell p) ≡ Some (Near len ds place marks) → place.log ≡ l → place.at < at → marks.evac ≡ true

-- each object that lies in a log, dropped or not, lies there at a word or behind it
abbrev pub LiesFrom : State → ℕ → ℕ → Type 0
LiesFrom s l at = (p len ds : ℕ) (place : Place) (marks : Marks) → read_of (s.cell p) ≡ Some (Near len ds place marks) → place.log ≡ l → at ≤ place.at

-- each object that lies in one of these logs has EVAC
abbrev pub MarkedAmong : State → List ℕ → Type 0
MarkedAmong s logs = (p len ds : ℕ) (place : Place) (marks : Marks) → read_of (s.cell p) ≡ Some (Near len ds place marks) → among logs place.log ≡ true → marks.evac ≡ true

-- the logs of the collection set are sealed, each stands in it once, and there are some exactly while a round is running; once the epoch has risen they are
-- the round's, and no other is, and every owner was seen clear where objects leave; while they are marked there is a later epoch
pub record Holds (s : State) (phase : Phase) (collection : List ℕ) : Type 0 where
  pub sealed : (l : ℕ) → among collection l ≡ true → s.kind l ≡ Sealed
  pub once : IsDistinct eqb collection
  pub runs : is_empty collection ≡ is_idle phase
  pub round : has_risen phase ≡ true → (l : ℕ) → among collection l ≡ true → s.round l ≡ true
  pub only : has_risen phase ≡ true → (l : ℕ) → s.round l ≡ true → among collection l ≡ true
  pub clear : phase ≡ Evacuating → (k : ℕ) → k < s.mutators → s.clear k ≡ true
  pub later : phase ≡ Marking → s.epoch + 1 < EPOCH_END

-- marking, or the walk, stands where a span of a log begins, or at the log's tail; all that lies before has EVAC while it is marked, and has
-- left while objects leave; the owners that are counted were seen clear, and no other
pub record Stands (s : State) (r : Round) : Type 0 where
  pub index : r.index ≤ length r.chosen
  pub begins : is_idle r.phase ≡ false → (l : ℕ) (ls : List ℕ) → drop r.index r.chosen ≡ l ∷ ls → IsBoundary s l r.at
  pub marked : r.phase ≡ Marking → MarkedAmong s (take r.index r.chosen)
  pub marked_here : r.phase ≡ Marking → (l : ℕ) (ls : List ℕ) → drop r.index r.chosen ≡ l ∷ ls → MarkedBefore s l r.at
  pub left : r.phase ≡ Evacuating → (l : ℕ) (ls : List ℕ) → drop r.index r.chosen ≡ l ∷ ls → LiesFrom s l r.at
  pub seen : r.phase ≡ Waiting → (k : ℕ) → k < r.seen → s.clear k ≡ true
  pub unseen : r.phase ≡ Waiting → (k : ℕ) → r.seen ≤ k → s.clear k ≡ false

-- a round and what the book knows agree
pub record InRound (s : State) (r : Round) : Type 0 where
  pub holds : Holds s r.phase (collection_in r)
  pub stands : Stands s r

-- unless copies may be offered there is no job; one that isn't void copies from a log of the collection set, while objects leave
pub record HoldsJobs (s : State) (copying : Bool) (phase : Phase) (collection : List ℕ) : Type 0 where
  pub alone : copying ≡ false → HasNoJob s
  pub held : (j : ℕ) (job : Job) → StillCopies s j job → (phase ≡ Evacuating) × (among collection job.from.log ≡ true)

-- what is true of an evacuator: its round stands, and its jobs are held; over a hand that is still it offers no copies
pub record IsSound (still : Type 0) (s : State) (copying : Bool) (r : Round) : Type 0 where
  pub round : InRound s r
  pub jobs : HoldsJobs s copying r.phase (collection_in r)
  pub exact : still → copying ≡ false
