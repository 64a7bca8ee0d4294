-- Worked examples of jobs: lists of calls and of events on a heap that nobody else steps, and what each answers.
use Rattle.std.specs.Prelude.{◌≡◌, ℕ, [], ◌∷◌, ◌++◌, List, None}
use Rattle.far_word.specs.declared.mark.Mark.TheVariants.{Moved, Dropped}
use Rattle.far_word.specs.declared.pointer.Place.{Place}
use Rattle.far_events.specs.declared.event.Event.TheVariants.{Adopt, Advance, Ask, Claim, Clear, Finish, Look, Mark, Read, ReadLength, Write}
use Rattle.far_events.specs.declared.event.Reply.TheVariants.{Done, Epoch, Word}
use Rattle.far_book.specs.book.Dealing.{goal}
use Rattle.far_book.specs.book.Offering.{IsLowestEmpty}
use Rattle.far_book.specs.worked.JobCalls.{Cell, Collects, Job, Log, MovesNow, News, Offers, Step, TakesBack, Call, led_by, start, At, Holds, LogHas, Made, Named, Replies, Answer, ◌⟶◌, Line, Plays, after}

abbrev pub place : ℕ → ℕ → Place
place log at = record { log = log; at = at }

abbrev pub log_has : ℕ → ℕ → ℕ → ℕ → Answer
log_has l live dead unused = LogHas record { log = l; live = live; dead = dead; unused = unused }

-- pointer 0 is an object of 8 bytes in log 0, which another one seals; in a round of log 0 its owner is seen clear, and job 0 offers to copy it to log 2
abbrev pub first : List Line
first =
    News 0 8 ⟶ At (place 0 0) ∷
    News 1 4088 ⟶ At (place 1 0) ∷
    Step (Mark 0) ⟶ Replies (Word 0x8600000000010008) ∷
    Step (Advance 1) ⟶ Replies (Epoch 1) ∷
    Step (Look 0) ⟶ Replies (Word 0) ∷
    Offers 0 0 ⟶ At (place 2 0) ∷
    []

-- a copier takes it, or goes on with it
abbrev pub claims : Call
claims = Step (Claim 0 0 0x4000200000000000)

abbrev pub copies : List Line
copies =
    claims ⟶ Replies Done ∷
    Step (ReadLength 0) ⟶ Replies (Word 0xa200000001000008) ∷
    Step (Read 0 0) ⟶ Replies (Word 0) ∷
    Step (Write 0 0) ⟶ Replies Done ∷
    Step (Finish 0) ⟶ Replies Done ∷
    []

-- a copy is offered to the start of log 2, where a span is taken, and no object lies
abbrev pub CopyIsOffered : Type 0
CopyIsOffered = Plays start (first ++
    Job 0 ⟶ Holds 0x4000200000000000 ∷
    Job 1 ⟶ Holds 0 ∷
    Cell 0 ⟶ Holds 0xa600000000010008 ∷
    Log 0 ⟶ log_has 0 16 0 4080 ∷
    Log 2 ⟶ log_has 2 0 16 4080 ∷
    [])

-- it stays offered until a copier takes it; one that has finished is named, and the job is empty
abbrev pub FinishedIsNamed : Type 0
FinishedIsNamed = Plays (after first) (
    Collects ⟶ Named 0 ∷
    Job 0 ⟶ Holds 0x4000200000000000 ∷
    copies ++
    Job 0 ⟶ Holds 0xc000200000000000 ∷
    Collects ⟶ Named 1 ∷
    Cell 0 ⟶ Holds 0x8600000800010008 ∷
    Job 0 ⟶ Holds 0 ∷
    Log 0 ⟶ log_has 0 0 16 4080 ∷
    Log 2 ⟶ log_has 2 16 0 4080 ∷
    Collects ⟶ Named 0 ∷
    [])

-- its owner has had the object moved behind the copy: the job is empty, and the object lies there still
abbrev pub MovedIsntNamed : Type 0
MovedIsntNamed = Plays (after (first ++ copies)) (
    Step (Adopt 0 0) ⟶ Replies (Word 0xa600000000010008) ∷
    Step (Ask 0 0 Moved) ⟶ Replies (Word 0xa600000000010008) ∷
    MovesNow 0 ⟶ At (place 2 2) ∷
    Collects ⟶ Named 0 ∷
    Cell 0 ⟶ Holds 0x8600000802010008 ∷
    Job 0 ⟶ Holds 0 ∷
    Log 2 ⟶ log_has 2 16 16 4064 ∷
    [])

-- its owner has asked for the object to be moved, and nobody has moved it: it is named all the same
abbrev pub AskedIsNamed : Type 0
AskedIsNamed = Plays (after (first ++ copies)) (
    Step (Adopt 0 0) ⟶ Replies (Word 0xa600000000010008) ∷
    Step (Ask 0 0 Moved) ⟶ Replies (Word 0xa600000000010008) ∷
    Collects ⟶ Named 1 ∷
    Cell 0 ⟶ Holds 0x8600000800010008 ∷
    Job 0 ⟶ Holds 0 ∷
    [])

-- and so it is where a move has sealed the copy's log
abbrev pub SealedTargetIsNamed : Type 0
SealedTargetIsNamed = Plays (after (first ++ copies)) (
    Step (Mark 1) ⟶ Replies (Word 0x8600000400010ff8) ∷
    Step (Adopt 0 1) ⟶ Replies (Word 0xa600000400010ff8) ∷
    Step (Ask 0 1 Moved) ⟶ Replies (Word 0xa600000400010ff8) ∷
    MovesNow 1 ⟶ At (place 3 0) ∷
    Collects ⟶ Named 1 ∷
    Cell 0 ⟶ Holds 0x8600000800010008 ∷
    Job 0 ⟶ Holds 0 ∷
    [])

-- its owner has dropped the object: the job is empty, and the cell is as it was
abbrev pub DroppedIsntNamed : Type 0
DroppedIsntNamed = Plays (after (first ++ copies)) (
    Step (Adopt 0 0) ⟶ Replies (Word 0xa600000000010008) ∷
    Step (Ask 0 0 Dropped) ⟶ Replies (Word 0xa600000000010008) ∷
    Collects ⟶ Named 0 ∷
    Cell 0 ⟶ Holds 0xae00000000010008 ∷
    Job 0 ⟶ Holds 0 ∷
    Log 0 ⟶ log_has 0 16 0 4080 ∷
    [])

-- where the job is still offered it stays
abbrev pub DroppedStaysOffered : Type 0
DroppedStaysOffered = Plays (after first) (
    Step (Adopt 0 0) ⟶ Replies (Word 0xa600000000010008) ∷
    Step (Ask 0 0 Dropped) ⟶ Replies (Word 0xa600000000010008) ∷
    Collects ⟶ Named 0 ∷
    Job 0 ⟶ Holds 0x4000200000000000 ∷
    Cell 0 ⟶ Holds 0xae00000000010008 ∷
    [])

-- the round of the offer is over, or the log has left it: neither is named, and the job is empty
abbrev pub OldIsntNamed : Type 0
OldIsntNamed = Plays (after (first ++ copies)) (
    Step (Advance 0) ⟶ Replies (Epoch 2) ∷
    Collects ⟶ Named 0 ∷
    Cell 0 ⟶ Holds 0xa600000000010008 ∷
    Job 0 ⟶ Holds 0 ∷
    [])

abbrev pub LeftIsntNamed : Type 0
LeftIsntNamed = Plays (after (first ++ copies)) (
    Step (Clear 0) ⟶ Replies (Word 0xa600000000010008) ∷
    Collects ⟶ Named 0 ∷
    Cell 0 ⟶ Holds 0x8600000000010008 ∷
    Job 0 ⟶ Holds 0 ∷
    [])

-- a void job is empty if it is still offered, and stays while a copier has it
abbrev pub VoidIsEmpty : Type 0
VoidIsEmpty = Plays (after first) (
    Step (Advance 0) ⟶ Replies (Epoch 2) ∷
    Collects ⟶ Named 0 ∷
    Job 0 ⟶ Holds 0 ∷
    [])

abbrev pub TakenStays : Type 0
TakenStays = Plays (after first) (
    claims ⟶ Replies Done ∷
    Step (Advance 0) ⟶ Replies (Epoch 2) ∷
    Collects ⟶ Named 0 ∷
    Job 0 ⟶ Holds 0x8000200000000000 ∷
    TakesBack ⟶ Made ∷
    Job 0 ⟶ Holds 0x8000200000000000 ∷
    [])

-- offered jobs are taken back, and others aren't
abbrev pub OfferedIsTakenBack : Type 0
OfferedIsTakenBack = Plays (after first) (
    TakesBack ⟶ Made ∷
    Job 0 ⟶ Holds 0 ∷
    Cell 0 ⟶ Holds 0xa600000000010008 ∷
    [])

abbrev pub FinishedStays : Type 0
FinishedStays = Plays (after (first ++ copies)) (
    TakesBack ⟶ Made ∷
    Job 0 ⟶ Holds 0xc000200000000000 ∷
    Collects ⟶ Named 1 ∷
    [])

-- the lowest empty job is job 0 at first, and job 1 once that is offered
abbrev pub LowestIsNext : Type 0
LowestIsNext = IsLowestEmpty start 0 × IsLowestEmpty (after first) 1

-- an object fills each log but one, which a move fills: there is no room for a copy
abbrev pub NowhereToCopy : Type 0
NowhereToCopy =
    goal (led_by start (News 0 8 ∷ News 1 4088 ∷ News 2 4088 ∷ Step (Mark 0) ∷ Step (Mark 1) ∷ Step (Adopt 0 1) ∷ Step (Ask 0 1 Moved) ∷ MovesNow 1 ∷ Step (Advance 1) ∷ Step (Look 0) ∷ [])) 0 ≡ None

-- a copy comes to the last free log too
abbrev pub LastLogIsOffered : Type 0
LastLogIsOffered = Plays (led_by start (News 0 8 ∷ News 1 4088 ∷ News 2 4088 ∷ Step (Mark 0) ∷ Step (Advance 1) ∷ Step (Look 0) ∷ [])) (
    Offers 0 0 ⟶ At (place 3 0) ∷
    Job 0 ⟶ Holds 0x4000300000000000 ∷
    Log 3 ⟶ log_has 3 0 16 4080 ∷
    [])
