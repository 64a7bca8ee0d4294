-- What a split text is answered: the replies of all threads, each mutator's by its own lines.
use Rattle.std.specs.Prelude.{◌≡◌, ◌⊎◌, ℕ, ◌+◌, ◌<◌, false, true, ◌==◌, if◌then◌else◌, Option, Some, None, Result, Ok, Err, List, [], length, slice_index_or}
use Rattle.std.specs.Bool.{MatchBool}
use Rattle.std.specs.List.{AllByRecursion}
use Rattle.far_word.specs.declared.refused.Refused.{Refused as Refusal}
use Rattle.far_word.specs.declared.refused.Refused.TheVariants.{Shape, Syntax}
use Rattle.far_events.specs.declared.shape.Shape.{Shape as Size}
use Rattle.far_events.specs.state.Shape.{is_shape}
use Rattle.far_hand.specs.ShapeOf.{shape_of as shape_in}
use Rattle.far_table.specs.BookSeats.{seat_view}
use Rattle.far_heap.specs.Blanks.{BlankOf, IsUnused}
use Rattle.far_heap.specs.HeapId.{HeapId}
use Rattle.far_text.specs.Command.{Command, Device}
use Rattle.far_text.specs.Split.{SplitTrace, NothingSplit, SplitHeap}
use Rattle.far_text.specs.Threads.{Thread, OfMutator, OfBook, lines_in}
use Rattle.far_alone.specs.Own.{nothing}
use Rattle.far_replay.specs.Answers.{is_true, shape_of}
use Rattle.far_replay.specs.Flawed.{IsFlawed}
use Rattle.far_reply.specs.Reply.{IsShort, Reply}
use Rattle.far_split.specs.BookTold.{BookTold}
use Rattle.far_split.specs.FarSides.{FarSide}
use Rattle.far_split.specs.Here.{AloneOn, AreBy, commands_of}
use Rattle.far_split.specs.declared.mutators.Stop.{Stop}
use Rattle.far_split.specs.declared.mutators.Stop.TheVariants as stops
use Rattle.far_split.specs.declared.gate.TheConstants.{THE_BOOK}
use Rattle.far_split.specs.declared.split_out.SplitOut.{SplitOut}
use Rattle.far_split.specs.declared.split_out.SplitOut.TheVariants.{Refused as OutRefused, Ran as OutRan}
use Rattle.far_split.specs.declared.run.SplitFault.{SplitFault}
use Rattle.far_split.specs.declared.run.SplitFault.TheVariants as faults

-- ---- all replies
-- the text was refused, or its heap's shape, and nothing ran; or these are the replies to each mutator's lines, by number, and to the book's
pub data Joined : Type 0 where
  Refused : (why : Refusal) → Joined
  Ran : (mutators : List (List Reply)) (book : List Reply) → Joined

abbrev pub as_joined : SplitOut → Joined
as_joined (OutRefused why) = Refused why
as_joined (OutRan mutators book) = Ran mutators.items book

-- each can be printed: it has no more bytes than an object, and no more lines than a heap has logs
abbrev pub AreShort : Joined → Type 0
AreShort (Refused why) = Unit {0}
AreShort (Ran mutators book) = AllByRecursion (AllByRecursion IsShort) mutators × AllByRecursion IsShort book

-- ---- what they follow from
-- the commands of a thread's own lines
abbrev pub commands_in : Thread → List (ℕ × Command) → List Command
commands_in thread lines = commands_of (lines_in thread lines)

-- a heap was begun so: without copiers; nobody had used its parts, whose shape was this, the first epoch too; and its device had the flaw that is said, in the call that is said
pub record BeganSo (heap : HeapId) (shape : Size) (device : Option Device) : Type 0 where
  pub blank : BlankOf FarSide
  pub named : blank.heap ≡ heap
  pub alone : heap.copying ≡ false
  pub shaped : shape_in (seat_view blank.book.near) ≡ shape
  pub unused : IsUnused (seat_view blank.book.near)
  pub order : blank.book.order ≡ []
  pub flawed : IsFlawed device blank.book.device

-- a heap of this shape was begun with the device that is said, and is honest exactly where that never lies; and it answered these lines: for each of its mutators, and for none
-- else, there are replies, which follow from the mutator's own lines, whatever other threads did meanwhile, and tell what was so of the heap; and the book's were answered on it
pub record AllRan (shape : Size) (device : Option Device) (lines : List (ℕ × Command)) (replies : List (List Reply)) (book : List Reply) : Type 0 where
  pub heap : HeapId
  pub began : BeganSo heap shape device
  pub size : (heap.logs ≡ shape.logs) × (heap.mutators ≡ shape.mutators)
  pub honest : heap.honest ≡ is_true device
  pub many : length replies ≡ shape.mutators
  pub own : (m : ℕ) → m < shape.mutators → AreBy m (commands_in (OfMutator m) lines)
  pub alone : (m : ℕ) → m < shape.mutators → AloneOn heap m nothing (commands_in (OfMutator m) lines) (slice_index_or replies m [])
  pub told : BookTold heap (commands_in OfBook lines) book

abbrev pub RanSo : Size → Option Device → List (ℕ × Command) → Joined → Type 0
RanSo shape device lines (Refused why) = ⊥
RanSo shape device lines (Ran replies book) = AllRan shape device lines replies book

-- what a text is answered that is read so: its refusal; for nothing no replies; for a heap out of range that refusal; else all its threads' replies
abbrev pub SplitAnswers : Result SplitTrace ℕ → Joined → Type 0
SplitAnswers (Err line) joined = joined ≡ Refused (Syntax line)
SplitAnswers (Ok NothingSplit) joined = joined ≡ Ran [] []
SplitAnswers (Ok (SplitHeap logs mutators epoch device lines)) joined = MatchBool (is_shape (shape_of logs mutators epoch)) (RanSo (shape_of logs mutators epoch) device lines joined) (joined ≡ Refused Shape)

-- ---- faults
-- a gate that refuses such lines says no to one of these, which are a thread's
abbrev pub SaysNo : (ℕ → ℕ → Type 0) → ℕ → List (ℕ × Command) → Type 0
SaysNo refuses who lines = (turn : ℕ) × (turn < length lines) × refuses who turn

-- a thread of so many mutators, or the book's, was stopped by its gate, at one of its lines; or memory was refused
abbrev pub MayStop : (ℕ → ℕ → Type 0) → ℕ → List (ℕ × Command) → SplitFault → Type 0
MayStop refuses mutators lines (faults.Gate who) = ((who < mutators) × SaysNo refuses who (lines_in (OfMutator who) lines)) ⊎ ((who ≡ THE_BOOK) × SaysNo refuses THE_BOOK (lines_in OfBook lines))
MayStop refuses mutators lines faults.Memory = Unit {0}

-- there are threads on a heap in range alone; memory may be refused of any text
abbrev pub MayEnd : (ℕ → ℕ → Type 0) → Result SplitTrace ℕ → SplitFault → Type 0
MayEnd refuses read faults.Memory = Unit {0}
MayEnd refuses (Ok (SplitHeap logs mutators epoch device lines)) (faults.Gate who) = (is_shape (shape_of logs mutators epoch) ≡ true) × MayStop refuses mutators lines (faults.Gate who)
MayEnd refuses (Ok NothingSplit) (faults.Gate who) = ⊥
MayEnd refuses (Err line) (faults.Gate who) = ⊥

-- ---- how threads ended: the mutators' by number, and the book's last
-- the one at this place was stopped so
abbrev pub IsStopped : {A : Type 0} → List (Result A Stop) → Stop → ℕ → Type 0
IsStopped {A} ends why at = (at < length ends) × ((other : Result A Stop) → slice_index_or ends at other ≡ Err why)

-- who it is, of so many
abbrev pub who_at : ℕ → ℕ → ℕ
who_at many at = if at + 1 == many then THE_BOOK else at

-- the first that its gate stopped; or memory, where none was stopped so and some was refused memory; or nothing, where none was stopped
abbrev pub IsFault : {A : Type 0} → List (Result A Stop) → Option SplitFault → Type 0
IsFault ends (Some (faults.Gate who)) = (at : ℕ) × IsStopped ends stops.Gate at × ((sooner : ℕ) → sooner < at → ¬ IsStopped ends stops.Gate sooner) × (who ≡ who_at (length ends) at)
IsFault ends (Some faults.Memory) = ((at : ℕ) × IsStopped ends stops.Memory at) × ((at : ℕ) → ¬ IsStopped ends stops.Gate at)
IsFault ends None = (at : ℕ) (why : Stop) → ¬ IsStopped ends why at

-- what is told of a call whose threads ended so: their fault; or memory, where none was stopped, and the call itself was refused it
abbrev pub IsFaultAfter : {A : Type 0} → List (Result A Stop) → SplitFault → Type 0
IsFaultAfter ends fault = IsFault ends (Some fault) ⊎ ((fault ≡ faults.Memory) × IsFault ends None)
