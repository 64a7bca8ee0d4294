-- Worked examples: lists of calls on a heap that nobody else steps, and what each answers.
use Rattle.std.specs.Prelude.{ℕ, true, false, Some, None, [], ◌∷◌}
use Rattle.far_word.specs.declared.mark.Mark.TheVariants.{Moved, Dropped}
use Rattle.far_word.specs.declared.mark.Marks.{Marks}
use Rattle.far_word.specs.declared.pointer.Place.{Place}
use Rattle.far_word.specs.declared.refused.Refused.TheVariants.{NoRoom, Phase as WrongPhase, EpochsSpent}
use Rattle.far_events.specs.declared.event.Event.TheVariants.{ReadEpoch, Open as Opens, Pin, Load, Store, Close, Ask, Soil}
use Rattle.far_events.specs.declared.event.Reply.TheVariants.{Done as did, Epoch, Word, Held}
use Rattle.far_book.specs.declared.home.Home.{Home}
use Rattle.far_book.specs.declared.home.Home.TheVariants.{Near, Far}
use Rattle.far_evac.specs.declared.answers.Polled.TheVariants.{Clear, StillOpen}
use Rattle.far_evac.specs.declared.answers.Progress.{Progress}
use Rattle.far_evac.specs.declared.answers.RoundEnd.TheVariants.{Done, Nothing, Limit}
use Rattle.far_evac.specs.declared.census.LogKind.{LogKind}
use Rattle.far_evac.specs.declared.census.LogKind.TheVariants.{Free, Open, Sealed, Chosen}
use Rattle.far_evac.specs.declared.census.Housed.{Housed}
use Rattle.far_evac.specs.declared.census.LogState.{LogState}
use Rattle.far_evac.specs.declared.phase.Phase.TheVariants.{Marking, Waiting, Evacuating}
use Rattle.far_evac.specs.worked.Calls.{Own, News, MovesNow, Fetches, Retires, Locates, Selects, SelectsEmptiest, Marks as Mark, Waits, Evacuates, Aborts, Rounds, Log, Audits, Replies, Made, At, Lies, Selected, Marked, Polls, Evacuated, Ends, LogIs, Homes, Refused, ◌⟶◌, Plays, start}

abbrev pub place : ℕ → ℕ → Place
place log at = record { log = log; at = at }

abbrev pub did_so : ℕ → ℕ → ℕ → ℕ → Progress
did_so moved far dropped freed = record { moved = moved; far = far; dropped = dropped; freed = freed; done = true }

abbrev pub so_far : ℕ → ℕ → ℕ → ℕ → Progress
so_far moved far dropped freed = record { moved = moved; far = far; dropped = dropped; freed = freed; done = false }

abbrev pub log_is : ℕ → LogKind → ℕ → ℕ → ℕ → LogState
log_is l kind live dead unused = record { kind = kind; row = record { log = l; live = live; dead = dead; unused = unused } }

-- no marks, as an object lies that was fetched and not written since; HOT alone
abbrev pub bare : Marks
bare = record { hot = false; evac = false; moved = false; dropped = false; dirty = false }

abbrev pub hot : Marks
hot = record bare { hot = true }

-- DIRTY alone, as a new object lies, or one that was written since it was fetched; with HOT; and as a round wants it
abbrev pub dirty : Marks
dirty = record bare { dirty = true }

abbrev pub dirty_hot : Marks
dirty_hot = record dirty { hot = true }

abbrev pub wanted : Marks
wanted = record dirty { evac = true }

abbrev pub near : ℕ → ℕ → Marks → Home
near log at marks = Near (place log at) marks

abbrev pub housed : ℕ → Home → Housed
housed p home = record { pointer = p; home = home }

-- the last free log is kept for moves; a log without live objects is given back
abbrev pub ReserveIsKept : Type 0
ReserveIsKept = Plays (start 3 1 0) (
    News 0 0 4088 ⟶ At (place 0 0) ∷
    News 0 1 4088 ⟶ At (place 1 0) ∷
    News 0 2 8 ⟶ Refused NoRoom ∷
    Own (Ask 0 0 Dropped) ⟶ Replies (Word 0x8600000000010ff8) ∷
    Retires 0 ⟶ Made ∷
    Rounds 1 9 ⟶ Ends (Done (did_so 0 0 0 1)) ∷
    News 0 0 8 ⟶ At (place 0 0) ∷
    Log 0 ⟶ LogIs (log_is 0 Open 16 0 4080) ∷
    [])

-- a hot object is moved and a cold one goes far; both are read afterwards
abbrev pub PlainRound : Type 0
PlainRound = Plays (start 4 1 0) (
    News 0 0 8 ⟶ At (place 0 0) ∷
    News 0 1 8 ⟶ At (place 0 2) ∷
    Own (ReadEpoch 0) ⟶ Replies (Epoch 0) ∷
    Own (Opens 0) ⟶ Replies did ∷
    Own (Pin 0 0) ⟶ Replies (Held (place 0 0)) ∷
    Own (Soil 0 0) ⟶ Replies (Word 0xc600000000010008) ∷
    Own (Store 0 0 0 0x0807060504030201) ⟶ Replies did ∷
    Own (Close 0) ⟶ Replies did ∷
    News 0 2 4088 ⟶ At (place 1 0) ∷
    Rounds 1 9 ⟶ Ends (Done (did_so 1 1 0 1)) ∷
    Locates 0 ⟶ Lies (Some (near 2 0 dirty)) ∷
    Locates 1 ⟶ Lies (Some (Far bare)) ∷
    Log 0 ⟶ LogIs (log_is 0 Free 0 0 4096) ∷
    Log 1 ⟶ LogIs (log_is 1 Sealed 4096 0 0) ∷
    Log 2 ⟶ LogIs (log_is 2 Open 16 0 4080) ∷
    Audits ⟶ Homes (housed 0 (near 2 0 dirty) ∷ housed 1 (Far bare) ∷ housed 2 (near 1 0 dirty) ∷ []) ∷
    Own (ReadEpoch 0) ⟶ Replies (Epoch 1) ∷
    Own (Opens 0) ⟶ Replies did ∷
    Own (Pin 0 0) ⟶ Replies (Held (place 2 0)) ∷
    Own (Load 0 0 0) ⟶ Replies (Word 0x0807060504030201) ∷
    Own (Pin 0 1) ⟶ Replies (Word 0x0400000000010008) ∷
    Fetches 1 ⟶ At (place 2 2) ∷
    Own (Pin 0 1) ⟶ Replies (Held (place 2 2)) ∷
    Own (Load 0 1 0) ⟶ Replies (Word 0) ∷
    Locates 1 ⟶ Lies (Some (near 2 2 hot)) ∷
    [])

-- a scope that was open when the epoch rose is waited for
abbrev pub OpenScopeIsWaitedFor : Type 0
OpenScopeIsWaitedFor = Plays (start 4 1 0) (
    News 0 0 8 ⟶ At (place 0 0) ∷
    News 0 1 4088 ⟶ At (place 1 0) ∷
    Own (ReadEpoch 0) ⟶ Replies (Epoch 0) ∷
    Own (Opens 0) ⟶ Replies did ∷
    Own (Pin 0 0) ⟶ Replies (Held (place 0 0)) ∷
    Selects 1 ⟶ Selected (0 ∷ []) ∷
    Log 0 ⟶ LogIs (log_is 0 Chosen 16 0 4080) ∷
    Mark 9 ⟶ Marked 1 (Some 1) ∷
    Waits ⟶ Polls (StillOpen 0 0) ∷
    Own (Close 0) ⟶ Replies did ∷
    Waits ⟶ Polls Clear ∷
    Evacuates 9 ⟶ Evacuated (did_so 1 0 0 1) ∷
    [])

-- a scope that opens at an old epoch views no marked object: its owner has it moved
abbrev pub OldEpoch : Type 0
OldEpoch = Plays (start 4 1 0) (
    News 0 0 8 ⟶ At (place 0 0) ∷
    Own (ReadEpoch 0) ⟶ Replies (Epoch 0) ∷
    Own (Opens 0) ⟶ Replies did ∷
    Own (Pin 0 0) ⟶ Replies (Held (place 0 0)) ∷
    Own (Soil 0 0) ⟶ Replies (Word 0xc600000000010008) ∷
    Own (Store 0 0 0 0xaa) ⟶ Replies did ∷
    Own (Close 0) ⟶ Replies did ∷
    News 0 1 4088 ⟶ At (place 1 0) ∷
    Own (ReadEpoch 0) ⟶ Replies (Epoch 0) ∷
    Selects 1 ⟶ Selected (0 ∷ []) ∷
    Mark 9 ⟶ Marked 1 (Some 1) ∷
    Waits ⟶ Polls Clear ∷
    Own (Opens 0) ⟶ Replies did ∷
    Own (Pin 0 0) ⟶ Replies (Word 0xe600000000010008) ∷
    Own (Ask 0 0 Moved) ⟶ Replies (Word 0xe600000000010008) ∷
    MovesNow 0 ⟶ At (place 2 0) ∷
    Own (Pin 0 0) ⟶ Replies (Held (place 2 0)) ∷
    Own (Load 0 0 0) ⟶ Replies (Word 0xaa) ∷
    Evacuates 9 ⟶ Evacuated (did_so 0 0 0 1) ∷
    [])

-- what an open scope views already stays in its hands while its object is marked
abbrev pub OldView : Type 0
OldView = Plays (start 4 1 0) (
    News 0 0 8 ⟶ At (place 0 0) ∷
    News 0 1 4088 ⟶ At (place 1 0) ∷
    Own (ReadEpoch 0) ⟶ Replies (Epoch 0) ∷
    Own (Opens 0) ⟶ Replies did ∷
    Own (Pin 0 0) ⟶ Replies (Held (place 0 0)) ∷
    Selects 1 ⟶ Selected (0 ∷ []) ∷
    Mark 9 ⟶ Marked 1 (Some 1) ∷
    Own (Soil 0 0) ⟶ Replies (Word 0xe600000000010008) ∷
    Own (Store 0 0 0 0xbb) ⟶ Replies did ∷
    Waits ⟶ Polls (StillOpen 0 0) ∷
    Own (Close 0) ⟶ Replies did ∷
    Waits ⟶ Polls Clear ∷
    Evacuates 9 ⟶ Evacuated (did_so 1 0 0 1) ∷
    Own (ReadEpoch 0) ⟶ Replies (Epoch 1) ∷
    Own (Opens 0) ⟶ Replies did ∷
    Own (Pin 0 0) ⟶ Replies (Held (place 2 0)) ∷
    Own (Load 0 0 0) ⟶ Replies (Word 0xbb) ∷
    [])

-- an owner moves its objects before the walk comes to them
abbrev pub OwnerIsFirst : Type 0
OwnerIsFirst = Plays (start 4 1 0) (
    News 0 0 8 ⟶ At (place 0 0) ∷
    News 0 1 8 ⟶ At (place 0 2) ∷
    News 0 2 4088 ⟶ At (place 1 0) ∷
    Selects 1 ⟶ Selected (0 ∷ []) ∷
    Mark 9 ⟶ Marked 2 (Some 1) ∷
    Waits ⟶ Polls Clear ∷
    Own (ReadEpoch 0) ⟶ Replies (Epoch 1) ∷
    Own (Opens 0) ⟶ Replies did ∷
    Own (Pin 0 0) ⟶ Replies (Word 0xa600000000010008) ∷
    Own (Ask 0 0 Moved) ⟶ Replies (Word 0xe600000000010008) ∷
    MovesNow 0 ⟶ At (place 2 0) ∷
    Own (Pin 0 0) ⟶ Replies (Held (place 2 0)) ∷
    Own (Pin 0 1) ⟶ Replies (Word 0xa600000002010008) ∷
    Own (Ask 0 1 Moved) ⟶ Replies (Word 0xe600000002010008) ∷
    MovesNow 1 ⟶ At (place 2 2) ∷
    Own (Pin 0 1) ⟶ Replies (Held (place 2 2)) ∷
    Evacuates 9 ⟶ Evacuated (did_so 0 0 0 1) ∷
    [])

-- a hot object goes far where no log is free
abbrev pub HotWithoutRoom : Type 0
HotWithoutRoom = Plays (start 4 1 0) (
    News 0 0 4088 ⟶ At (place 0 0) ∷
    News 0 1 4088 ⟶ At (place 1 0) ∷
    News 0 2 4088 ⟶ At (place 2 0) ∷
    Own (ReadEpoch 0) ⟶ Replies (Epoch 0) ∷
    Own (Opens 0) ⟶ Replies did ∷
    Own (Pin 0 0) ⟶ Replies (Held (place 0 0)) ∷
    Own (Close 0) ⟶ Replies did ∷
    Selects 2 ⟶ Selected (0 ∷ 1 ∷ []) ∷
    Mark 9 ⟶ Marked 2 (Some 1) ∷
    Waits ⟶ Polls Clear ∷
    Own (ReadEpoch 0) ⟶ Replies (Epoch 1) ∷
    Own (Opens 0) ⟶ Replies did ∷
    Own (Pin 0 1) ⟶ Replies (Word 0xa600000400010ff8) ∷
    Own (Ask 0 1 Moved) ⟶ Replies (Word 0xe600000400010ff8) ∷
    MovesNow 1 ⟶ At (place 3 0) ∷
    Own (Pin 0 1) ⟶ Replies (Held (place 3 0)) ∷
    Evacuates 9 ⟶ Evacuated (did_so 0 1 0 2) ∷
    Locates 0 ⟶ Lies (Some (Far bare)) ∷
    [])

-- marking, waiting, evacuating and giving up belong to a round
abbrev pub PhasesAreKept : Type 0
PhasesAreKept = Plays (start 4 1 0) (
    News 0 0 8 ⟶ At (place 0 0) ∷
    News 0 1 4088 ⟶ At (place 1 0) ∷
    Mark 1 ⟶ Refused WrongPhase ∷
    Waits ⟶ Refused WrongPhase ∷
    Evacuates 1 ⟶ Refused WrongPhase ∷
    Aborts ⟶ Refused WrongPhase ∷
    [])

-- at the last epoch no round begins
abbrev pub LastEpoch : Type 0
LastEpoch = Plays (start 4 1 4611686018427387903) (
    News 0 0 8 ⟶ At (place 0 0) ∷
    News 0 1 4088 ⟶ At (place 1 0) ∷
    Selects 1 ⟶ Refused EpochsSpent ∷
    Rounds 0 0 ⟶ Refused EpochsSpent ∷
    [])

-- a log that was given back and opened anew is not emptied again, and is named by its new kind
abbrev pub OpenedAnew : Type 0
OpenedAnew = Plays (start 4 1 0) (
    News 0 0 4088 ⟶ At (place 0 0) ∷
    News 0 1 4088 ⟶ At (place 1 0) ∷
    News 0 2 4088 ⟶ At (place 2 0) ∷
    Own (ReadEpoch 0) ⟶ Replies (Epoch 0) ∷
    Own (Opens 0) ⟶ Replies did ∷
    Own (Pin 0 1) ⟶ Replies (Held (place 1 0)) ∷
    Own (Close 0) ⟶ Replies did ∷
    Rounds 2 9 ⟶ Ends (Done (did_so 1 1 0 2)) ∷
    Locates 1 ⟶ Lies (Some (near 0 0 dirty)) ∷
    Log 0 ⟶ LogIs (log_is 0 Open 4096 0 0) ∷
    [])

-- a round stands where its turns ran out
abbrev pub TurnsRunOut : Type 0
TurnsRunOut = Plays (start 4 1 0) (
    News 0 0 8 ⟶ At (place 0 0) ∷
    News 0 1 4088 ⟶ At (place 1 0) ∷
    Rounds 1 0 ⟶ Ends (Limit Marking) ∷
    Rounds 1 1 ⟶ Refused WrongPhase ∷
    Aborts ⟶ Made ∷
    Rounds 1 1 ⟶ Ends (Limit Waiting) ∷
    Aborts ⟶ Made ∷
    Rounds 1 2 ⟶ Ends (Limit Evacuating) ∷
    Evacuates 9 ⟶ Evacuated (did_so 0 1 0 1) ∷
    [])

-- where no log is sealed no round begins
abbrev pub NothingToChoose : Type 0
NothingToChoose = Plays (start 4 1 0) (
    News 0 0 8 ⟶ At (place 0 0) ∷
    Selects 4 ⟶ Selected [] ∷
    Rounds 4 9 ⟶ Ends Nothing ∷
    Log 0 ⟶ LogIs (log_is 0 Open 16 0 4080) ∷
    [])

-- one object at a time: a log is given back once the walk has passed it, and not before
abbrev pub StepByStep : Type 0
StepByStep = Plays (start 5 1 0) (
    News 0 0 8 ⟶ At (place 0 0) ∷
    News 0 1 8 ⟶ At (place 0 2) ∷
    News 0 2 4088 ⟶ At (place 1 0) ∷
    News 0 3 4088 ⟶ At (place 2 0) ∷
    Own (Ask 0 2 Dropped) ⟶ Replies (Word 0x8600000400010ff8) ∷
    Retires 2 ⟶ Made ∷
    Selects 2 ⟶ Selected (0 ∷ 1 ∷ []) ∷
    Mark 0 ⟶ Marked 0 None ∷
    Mark 1 ⟶ Marked 1 None ∷
    Mark 1 ⟶ Marked 1 (Some 1) ∷
    Waits ⟶ Polls Clear ∷
    Evacuates 0 ⟶ Evacuated (so_far 0 0 0 0) ∷
    Log 0 ⟶ LogIs (log_is 0 Chosen 32 0 4064) ∷
    Evacuates 1 ⟶ Evacuated (so_far 0 1 0 0) ∷
    Log 0 ⟶ LogIs (log_is 0 Chosen 16 16 4064) ∷
    Log 1 ⟶ LogIs (log_is 1 Chosen 0 4096 0) ∷
    Evacuates 1 ⟶ Evacuated (did_so 0 1 0 2) ∷
    [])

-- what an aborted round has marked is unmarked, and the next round deals with it as with any other
abbrev pub GivenUp : Type 0
GivenUp = Plays (start 4 1 0) (
    News 0 0 8 ⟶ At (place 0 0) ∷
    News 0 1 4088 ⟶ At (place 1 0) ∷
    Selects 1 ⟶ Selected (0 ∷ []) ∷
    Mark 1 ⟶ Marked 1 (Some 1) ∷
    Locates 0 ⟶ Lies (Some (near 0 0 wanted)) ∷
    Aborts ⟶ Made ∷
    Locates 0 ⟶ Lies (Some (near 0 0 dirty)) ∷
    Log 0 ⟶ LogIs (log_is 0 Sealed 16 0 4080) ∷
    Own (Ask 0 0 Dropped) ⟶ Replies (Word 0x8600000000010008) ∷
    Selects 1 ⟶ Selected (0 ∷ []) ∷
    Mark 9 ⟶ Marked 1 (Some 2) ∷
    Waits ⟶ Polls Clear ∷
    Evacuates 9 ⟶ Evacuated (did_so 0 0 1 1) ∷
    Locates 0 ⟶ Lies None ∷
    Log 0 ⟶ LogIs (log_is 0 Free 0 0 4096) ∷
    [])

-- one log is emptied object by object: the one that lies first leaves first
abbrev pub FirstLiesFirst : Type 0
FirstLiesFirst = Plays (start 4 1 0) (
    News 0 0 8 ⟶ At (place 0 0) ∷
    News 0 1 8 ⟶ At (place 0 2) ∷
    News 0 2 4088 ⟶ At (place 1 0) ∷
    Selects 1 ⟶ Selected (0 ∷ []) ∷
    Mark 9 ⟶ Marked 2 (Some 1) ∷
    Waits ⟶ Polls Clear ∷
    Evacuates 1 ⟶ Evacuated (so_far 0 1 0 0) ∷
    Locates 0 ⟶ Lies (Some (Far bare)) ∷
    Locates 1 ⟶ Lies (Some (near 0 2 wanted)) ∷
    [])

-- logs are chosen by age, which giving up leaves as it is; a log that was given back and filled anew is the youngest
abbrev pub OldestIsFirst : Type 0
OldestIsFirst = Plays (start 5 1 0) (
    News 0 0 4088 ⟶ At (place 0 0) ∷
    News 0 1 4088 ⟶ At (place 1 0) ∷
    News 0 2 4088 ⟶ At (place 2 0) ∷
    Selects 1 ⟶ Selected (0 ∷ []) ∷
    Aborts ⟶ Made ∷
    Selects 2 ⟶ Selected (0 ∷ 1 ∷ []) ∷
    Aborts ⟶ Made ∷
    Rounds 1 9 ⟶ Ends (Done (did_so 0 1 0 1)) ∷
    News 0 3 4088 ⟶ At (place 0 0) ∷
    News 0 4 4088 ⟶ At (place 3 0) ∷
    Selects 1 ⟶ Selected (1 ∷ []) ∷
    Aborts ⟶ Made ∷
    Selects 9 ⟶ Selected (1 ∷ 2 ∷ 0 ∷ []) ∷
    [])

-- the epoch that is reached, and the one at which an owner is open, are named as they are
abbrev pub EpochsAreNamed : Type 0
EpochsAreNamed = Plays (start 4 2 5) (
    News 0 0 8 ⟶ At (place 0 0) ∷
    News 0 1 4088 ⟶ At (place 1 0) ∷
    Own (ReadEpoch 1) ⟶ Replies (Epoch 5) ∷
    Own (Opens 1) ⟶ Replies did ∷
    Selects 1 ⟶ Selected (0 ∷ []) ∷
    Mark 9 ⟶ Marked 1 (Some 6) ∷
    Waits ⟶ Polls (StillOpen 1 5) ∷
    Own (ReadEpoch 0) ⟶ Replies (Epoch 6) ∷
    Own (Opens 0) ⟶ Replies did ∷
    Waits ⟶ Polls (StillOpen 1 5) ∷
    Own (Close 1) ⟶ Replies did ∷
    Waits ⟶ Polls Clear ∷
    [])

-- another policy chooses other logs, and a round begins with them in the order in which they were named
abbrev pub EmptiestIsFirst : Type 0
EmptiestIsFirst = Plays (start 5 1 0) (
    News 0 0 4088 ⟶ At (place 0 0) ∷
    News 0 1 8 ⟶ At (place 1 0) ∷
    News 0 2 4088 ⟶ At (place 2 0) ∷
    SelectsEmptiest 1 ⟶ Selected (1 ∷ []) ∷
    Aborts ⟶ Made ∷
    Selects 1 ⟶ Selected (0 ∷ []) ∷
    Aborts ⟶ Made ∷
    SelectsEmptiest 9 ⟶ Selected (1 ∷ 0 ∷ []) ∷
    Mark 1 ⟶ Marked 1 None ∷
    Locates 0 ⟶ Lies (Some (near 0 0 dirty)) ∷
    Locates 1 ⟶ Lies (Some (near 1 0 wanted)) ∷
    [])
