-- Worked examples of rounds where copies may be offered: lists of calls on a heap where each event stands in the list, a copier's too, and what they answer.
use Rattle.std.specs.Prelude.{◌≡◌, ◌++◌, ℕ, true, not, Some, None, List, [], ◌∷◌, drop, length, map}
use Rattle.std.specs.List.{range_with_len}
use Rattle.far_word.specs.declared.mark.Mark.TheVariants.{Dropped, Moved}
use Rattle.far_events.specs.declared.event.Event.TheVariants.{Ask, Claim, Close, Finish, Load, Open as Opens, PeekJob, Pin, Read, ReadEpoch, ReadLength, Soil, Store, Write}
use Rattle.far_events.specs.declared.event.Reply.TheVariants.{Done as did, Epoch, Held, Word}
use Rattle.far_book.specs.declared.home.Home.TheVariants.{Far}
use Rattle.far_evac.specs.declared.answers.Polled.TheVariants.{Clear}
use Rattle.far_evac.specs.declared.census.LogKind.TheVariants.{Chosen, Free, Open, Sealed}
use Rattle.far_evac.specs.Copied.{after_recalling, walked_beside}
use Rattle.far_evac.specs.Moment.{Moment, progress_of}
use Rattle.far_evac.specs.MomentLaw.{is_idle}
use Rattle.far_evac.specs.Walk.{ended, is_done}
use Rattle.far_evac.specs.worked.Calls.{Own, News, MovesNow, Fetches, Retires, Locates, Selects, Marks as Mark, Waits, Evacuates, Aborts, Log, Call, is_evacuating, only_in, start, turn_of, Replies, Made, At, Lies, Selected, Marked, Polls, Evacuated, LogIs, Answer, ◌⟶◌, Line, answer_of, call_of}
use Rattle.far_evac.specs.worked.Rows.{bare, did_so, dirty, dirty_hot, log_is, near, place, so_far}

abbrev pub begins : ℕ → Moment
begins logs = record (start logs 1 0) { copying = true }

-- objects leave, and a round is given up, by the rules of copies; all else is as ever
abbrev pub beside_of : Moment → Call → Moment × Answer
beside_of m (Evacuates n) = only_in (is_evacuating m.phase) m (let w = walked_beside m n in (ended w, Evacuated (progress_of w.tally (is_done w))))
beside_of m Aborts = only_in (not (is_idle m.phase)) m (after_recalling m, Made)
beside_of m call = turn_of m call

abbrev pub answers : Moment → List Call → List Answer
answers m [] = []
answers m (c ∷ cs) = let turn = beside_of m c in turn.1 ∷ answers turn.0 cs

-- from this moment on each call answers what stands behind it
abbrev pub PlaysBeside : Moment → List Line → Type 0
PlaysBeside m lines = answers m (map call_of lines) ≡ map answer_of lines

-- the same, where what the first calls answer isn't shown
abbrev pub PlaysBehind : Moment → List Call → List Line → Type 0
PlaysBehind m calls lines = drop (length calls) (answers m (calls ++ map call_of lines)) ≡ map answer_of lines

-- a hot object's copy is offered, a cold object goes far. Once a copier has copied the words, the object is named to the copy, and its log is given back in that call
abbrev pub CopierByHand : Type 0
CopierByHand = PlaysBeside (begins 4) (
    News 0 0 8 ⟶ At (place 0 0) ∷
    News 0 1 8 ⟶ At (place 0 2) ∷
    Own (ReadEpoch 0) ⟶ Replies (Epoch 0) ∷
    Own (Opens 0) ⟶ Replies did ∷
    Own (Pin 0 0) ⟶ Replies (Held (place 0 0)) ∷
    Own (Soil 0 0) ⟶ Replies (Word 0xc600000000010008) ∷
    Own (Store 0 0 0 7) ⟶ Replies did ∷
    Own (Close 0) ⟶ Replies did ∷
    News 0 2 4088 ⟶ At (place 1 0) ∷
    Selects 1 ⟶ Selected (0 ∷ []) ∷
    Mark 9 ⟶ Marked 2 (Some 1) ∷
    Waits ⟶ Polls Clear ∷
    Evacuates 16 ⟶ Evacuated (so_far 0 1 0 0) ∷
    Log 0 ⟶ LogIs (log_is 0 Chosen 16 16 4064) ∷
    Own (PeekJob 3 0) ⟶ Replies (Word 0x4000200000000000) ∷
    Own (Claim 3 0 0x4000200000000000) ⟶ Replies did ∷
    Own (PeekJob 3 0) ⟶ Replies (Word 0x8c00200000000000) ∷
    Own (ReadLength 3) ⟶ Replies (Word 0xa200000001000008) ∷
    Own (Read 3 0) ⟶ Replies (Word 7) ∷
    Own (Write 3 0) ⟶ Replies did ∷
    Own (Finish 3) ⟶ Replies did ∷
    Own (PeekJob 3 0) ⟶ Replies (Word 0xcc00200000000000) ∷
    Evacuates 16 ⟶ Evacuated (did_so 1 0 0 1) ∷
    Own (PeekJob 3 0) ⟶ Replies (Word 0) ∷
    Locates 0 ⟶ Lies (Some (near 2 0 dirty)) ∷
    Locates 1 ⟶ Lies (Some (Far bare)) ∷
    Log 0 ⟶ LogIs (log_is 0 Free 0 0 4096) ∷
    Log 2 ⟶ LogIs (log_is 2 Open 16 0 4080) ∷
    Own (ReadEpoch 0) ⟶ Replies (Epoch 1) ∷
    Own (Opens 0) ⟶ Replies did ∷
    Own (Pin 0 0) ⟶ Replies (Held (place 2 0)) ∷
    Own (Load 0 0 0) ⟶ Replies (Word 7) ∷
    [])

-- the owner moves its object while a copier has the job: the log stays until the copier has finished, and the copy is dead
abbrev pub OwnerFirst : Type 0
OwnerFirst = PlaysBeside (begins 4) (
    News 0 0 8 ⟶ At (place 0 0) ∷
    News 0 1 8 ⟶ At (place 0 2) ∷
    Own (ReadEpoch 0) ⟶ Replies (Epoch 0) ∷
    Own (Opens 0) ⟶ Replies did ∷
    Own (Pin 0 0) ⟶ Replies (Held (place 0 0)) ∷
    Own (Close 0) ⟶ Replies did ∷
    News 0 2 4088 ⟶ At (place 1 0) ∷
    Selects 1 ⟶ Selected (0 ∷ []) ∷
    Mark 9 ⟶ Marked 2 (Some 1) ∷
    Waits ⟶ Polls Clear ∷
    Evacuates 16 ⟶ Evacuated (so_far 0 1 0 0) ∷
    Own (Claim 3 0 0x4000200000000000) ⟶ Replies did ∷
    Own (ReadEpoch 0) ⟶ Replies (Epoch 1) ∷
    Own (Opens 0) ⟶ Replies did ∷
    Own (Ask 0 0 Moved) ⟶ Replies (Word 0xe600000000010008) ∷
    MovesNow 0 ⟶ At (place 2 2) ∷
    Evacuates 16 ⟶ Evacuated (so_far 0 0 0 0) ∷
    Log 0 ⟶ LogIs (log_is 0 Chosen 0 32 4064) ∷
    Own (ReadLength 3) ⟶ Replies (Word 0xa200000001000008) ∷
    Own (Read 3 0) ⟶ Replies (Word 0) ∷
    Own (Write 3 0) ⟶ Replies did ∷
    Own (Finish 3) ⟶ Replies did ∷
    Evacuates 16 ⟶ Evacuated (did_so 0 0 0 1) ∷
    Log 0 ⟶ LogIs (log_is 0 Free 0 0 4096) ∷
    Log 2 ⟶ LogIs (log_is 2 Open 16 16 4064) ∷
    Locates 0 ⟶ Lies (Some (near 2 2 dirty)) ∷
    [])

-- an offer is one of n, and an object that has a job isn't
abbrev pub OneAtATime : Type 0
OneAtATime = PlaysBeside (begins 4) (
    News 0 0 8 ⟶ At (place 0 0) ∷
    News 0 1 8 ⟶ At (place 0 2) ∷
    Own (ReadEpoch 0) ⟶ Replies (Epoch 0) ∷
    Own (Opens 0) ⟶ Replies did ∷
    Own (Pin 0 0) ⟶ Replies (Held (place 0 0)) ∷
    Own (Close 0) ⟶ Replies did ∷
    News 0 2 4088 ⟶ At (place 1 0) ∷
    Selects 1 ⟶ Selected (0 ∷ []) ∷
    Mark 9 ⟶ Marked 2 (Some 1) ∷
    Waits ⟶ Polls Clear ∷
    Evacuates 0 ⟶ Evacuated (so_far 0 0 0 0) ∷
    Own (PeekJob 0 0) ⟶ Replies (Word 0) ∷
    Evacuates 1 ⟶ Evacuated (so_far 0 0 0 0) ∷
    Own (PeekJob 0 0) ⟶ Replies (Word 0x4000200000000000) ∷
    Log 0 ⟶ LogIs (log_is 0 Chosen 32 0 4064) ∷
    Evacuates 1 ⟶ Evacuated (so_far 0 1 0 0) ∷
    Log 0 ⟶ LogIs (log_is 0 Chosen 16 16 4064) ∷
    Evacuates 1 ⟶ Evacuated (so_far 0 0 0 0) ∷
    Own (PeekJob 0 1) ⟶ Replies (Word 0) ∷
    [])

-- a hot object goes far if there is no room, though a job is empty
abbrev pub NoRoomForCopies : Type 0
NoRoomForCopies = PlaysBeside (begins 4) (
    News 0 0 4088 ⟶ At (place 0 0) ∷
    News 0 1 4088 ⟶ At (place 1 0) ∷
    News 0 2 4088 ⟶ At (place 2 0) ∷
    Own (ReadEpoch 0) ⟶ Replies (Epoch 0) ∷
    Own (Opens 0) ⟶ Replies did ∷
    Own (Pin 0 0) ⟶ Replies (Held (place 0 0)) ∷
    Own (Close 0) ⟶ Replies did ∷
    Selects 2 ⟶ Selected (0 ∷ 1 ∷ []) ∷
    Mark 9 ⟶ Marked 2 (Some 1) ∷
    Waits ⟶ Polls Clear ∷
    Own (ReadEpoch 0) ⟶ Replies (Epoch 1) ∷
    Own (Opens 0) ⟶ Replies did ∷
    Own (Ask 0 1 Moved) ⟶ Replies (Word 0xa600000400010ff8) ∷
    MovesNow 1 ⟶ At (place 3 0) ∷
    Evacuates 9 ⟶ Evacuated (did_so 0 1 0 2) ∷
    Locates 0 ⟶ Lies (Some (Far bare)) ∷
    Own (PeekJob 0 0) ⟶ Replies (Word 0) ∷
    [])

-- a log that a job holds doesn't hold up the logs behind it
abbrev pub OtherLogsGoOn : Type 0
OtherLogsGoOn = PlaysBeside (begins 5) (
    News 0 0 8 ⟶ At (place 0 0) ∷
    News 0 1 4088 ⟶ At (place 1 0) ∷
    News 0 2 4088 ⟶ At (place 2 0) ∷
    Own (ReadEpoch 0) ⟶ Replies (Epoch 0) ∷
    Own (Opens 0) ⟶ Replies did ∷
    Own (Pin 0 0) ⟶ Replies (Held (place 0 0)) ∷
    Own (Close 0) ⟶ Replies did ∷
    Selects 2 ⟶ Selected (0 ∷ 1 ∷ []) ∷
    Mark 9 ⟶ Marked 2 (Some 1) ∷
    Waits ⟶ Polls Clear ∷
    Evacuates 9 ⟶ Evacuated (so_far 0 1 0 1) ∷
    Log 0 ⟶ LogIs (log_is 0 Chosen 16 0 4080) ∷
    Log 1 ⟶ LogIs (log_is 1 Free 0 0 4096) ∷
    Own (PeekJob 0 0) ⟶ Replies (Word 0x4000300000000000) ∷
    Evacuates 9 ⟶ Evacuated (so_far 0 0 0 0) ∷
    [])

-- the copy of a hot object that wasn't written since it came back is offered too, and comes to the log that was given back
abbrev pub CleanIsOffered : Type 0
CleanIsOffered = PlaysBeside (begins 5) (
    News 0 0 8 ⟶ At (place 0 0) ∷
    News 0 1 4088 ⟶ At (place 1 0) ∷
    Selects 1 ⟶ Selected (0 ∷ []) ∷
    Mark 9 ⟶ Marked 1 (Some 1) ∷
    Waits ⟶ Polls Clear ∷
    Evacuates 9 ⟶ Evacuated (did_so 0 1 0 1) ∷
    Fetches 0 ⟶ At (place 0 0) ∷
    Own (ReadEpoch 0) ⟶ Replies (Epoch 1) ∷
    Own (Opens 0) ⟶ Replies did ∷
    Own (Pin 0 0) ⟶ Replies (Held (place 0 0)) ∷
    Own (Close 0) ⟶ Replies did ∷
    News 0 2 4088 ⟶ At (place 2 0) ∷
    Selects 2 ⟶ Selected (1 ∷ 0 ∷ []) ∷
    Mark 9 ⟶ Marked 2 (Some 2) ∷
    Waits ⟶ Polls Clear ∷
    Evacuates 9 ⟶ Evacuated (so_far 0 1 0 1) ∷
    Own (PeekJob 3 0) ⟶ Replies (Word 0x4000100000000000) ∷
    Locates 0 ⟶ Lies (Some (near 0 0 record bare { hot = true; evac = true })) ∷
    [])

-- once n objects were dealt with, those that have a job are passed over, and an empty log behind them is given back. Where n is 0 the jobs are collected too
abbrev pub PassesOnAtNone : Type 0
PassesOnAtNone = PlaysBeside (begins 4) (
    News 0 0 8 ⟶ At (place 0 0) ∷
    News 0 1 4088 ⟶ At (place 1 0) ∷
    News 0 2 8 ⟶ At (place 2 0) ∷
    Own (ReadEpoch 0) ⟶ Replies (Epoch 0) ∷
    Own (Opens 0) ⟶ Replies did ∷
    Own (Pin 0 0) ⟶ Replies (Held (place 0 0)) ∷
    Own (Close 0) ⟶ Replies did ∷
    Selects 2 ⟶ Selected (0 ∷ 1 ∷ []) ∷
    Mark 9 ⟶ Marked 2 (Some 1) ∷
    Waits ⟶ Polls Clear ∷
    Evacuates 1 ⟶ Evacuated (so_far 0 0 0 0) ∷
    Own (Ask 0 1 Dropped) ⟶ Replies (Word 0xa600000400010ff8) ∷
    Retires 1 ⟶ Made ∷
    Evacuates 0 ⟶ Evacuated (so_far 0 0 0 1) ∷
    Own (Claim 3 0 0x4000200800000000) ⟶ Replies did ∷
    Own (ReadLength 3) ⟶ Replies (Word 0xa200000001000008) ∷
    Own (Read 3 0) ⟶ Replies (Word 0) ∷
    Own (Write 3 0) ⟶ Replies did ∷
    Own (Finish 3) ⟶ Replies did ∷
    Evacuates 0 ⟶ Evacuated (did_so 1 0 0 1) ∷
    Locates 0 ⟶ Lies (Some (near 2 2 dirty)) ∷
    [])

-- a dropped object is retired, hot or not; its copy isn't offered
abbrev pub DroppedIsRetired : Type 0
DroppedIsRetired = PlaysBeside (begins 4) (
    News 0 0 8 ⟶ At (place 0 0) ∷
    News 0 1 4088 ⟶ At (place 1 0) ∷
    Own (ReadEpoch 0) ⟶ Replies (Epoch 0) ∷
    Own (Opens 0) ⟶ Replies did ∷
    Own (Pin 0 0) ⟶ Replies (Held (place 0 0)) ∷
    Own (Close 0) ⟶ Replies did ∷
    Selects 1 ⟶ Selected (0 ∷ []) ∷
    Mark 9 ⟶ Marked 1 (Some 1) ∷
    Waits ⟶ Polls Clear ∷
    Own (Ask 0 0 Dropped) ⟶ Replies (Word 0xe600000000010008) ∷
    Evacuates 9 ⟶ Evacuated (did_so 0 0 1 1) ∷
    Locates 0 ⟶ Lies None ∷
    Own (PeekJob 0 0) ⟶ Replies (Word 0) ∷
    [])

-- a copy is offered to the last free log; an object that is dropped while a copier has the job is passed over, and retired once the copier has finished
abbrev pub DroppedIsPassedOver : Type 0
DroppedIsPassedOver = PlaysBeside (begins 3) (
    News 0 0 8 ⟶ At (place 0 0) ∷
    News 0 1 4088 ⟶ At (place 1 0) ∷
    Own (ReadEpoch 0) ⟶ Replies (Epoch 0) ∷
    Own (Opens 0) ⟶ Replies did ∷
    Own (Pin 0 0) ⟶ Replies (Held (place 0 0)) ∷
    Own (Close 0) ⟶ Replies did ∷
    Selects 1 ⟶ Selected (0 ∷ []) ∷
    Mark 9 ⟶ Marked 1 (Some 1) ∷
    Waits ⟶ Polls Clear ∷
    Evacuates 9 ⟶ Evacuated (so_far 0 0 0 0) ∷
    Own (Claim 3 0 0x4000200000000000) ⟶ Replies did ∷
    Own (Ask 0 0 Dropped) ⟶ Replies (Word 0xe600000000010008) ∷
    Evacuates 9 ⟶ Evacuated (so_far 0 0 0 0) ∷
    Locates 0 ⟶ Lies (Some (near 0 0 record dirty_hot { evac = true; dropped = true })) ∷
    Log 0 ⟶ LogIs (log_is 0 Chosen 16 0 4080) ∷
    Own (ReadLength 3) ⟶ Replies (Word 0xa200000001000008) ∷
    Own (Read 3 0) ⟶ Replies (Word 0) ∷
    Own (Write 3 0) ⟶ Replies did ∷
    Own (Finish 3) ⟶ Replies did ∷
    Evacuates 9 ⟶ Evacuated (did_so 0 0 1 1) ∷
    Locates 0 ⟶ Lies None ∷
    [])

-- objects that are dropped once their copies are finished aren't named to them, and the walk retires them, the oldest log's first
abbrev pub DroppedMeanwhile : Type 0
DroppedMeanwhile = PlaysBeside (begins 6) (
    News 0 0 8 ⟶ At (place 0 0) ∷
    News 0 1 4088 ⟶ At (place 1 0) ∷
    News 0 2 8 ⟶ At (place 2 0) ∷
    News 0 3 4088 ⟶ At (place 3 0) ∷
    Own (ReadEpoch 0) ⟶ Replies (Epoch 0) ∷
    Own (Opens 0) ⟶ Replies did ∷
    Own (Pin 0 0) ⟶ Replies (Held (place 0 0)) ∷
    Own (Pin 0 2) ⟶ Replies (Held (place 2 0)) ∷
    Own (Close 0) ⟶ Replies did ∷
    Selects 3 ⟶ Selected (0 ∷ 1 ∷ 2 ∷ []) ∷
    Mark 9 ⟶ Marked 3 (Some 1) ∷
    Waits ⟶ Polls Clear ∷
    Evacuates 9 ⟶ Evacuated (so_far 0 1 0 1) ∷
    Own (Claim 3 0 0x4000400000000000) ⟶ Replies did ∷
    Own (Claim 4 1 0x4000400808000002) ⟶ Replies did ∷
    Own (ReadLength 3) ⟶ Replies (Word 0xa200000001000008) ∷
    Own (Read 3 0) ⟶ Replies (Word 0) ∷
    Own (Write 3 0) ⟶ Replies did ∷
    Own (Finish 3) ⟶ Replies did ∷
    Own (ReadLength 4) ⟶ Replies (Word 0xa200000201000008) ∷
    Own (Read 4 0) ⟶ Replies (Word 0) ∷
    Own (Write 4 0) ⟶ Replies did ∷
    Own (Finish 4) ⟶ Replies did ∷
    Own (Ask 0 0 Dropped) ⟶ Replies (Word 0xe600000000010008) ∷
    Own (Ask 0 2 Dropped) ⟶ Replies (Word 0xe600000800010008) ∷
    Evacuates 1 ⟶ Evacuated (so_far 0 0 1 1) ∷
    Own (PeekJob 0 0) ⟶ Replies (Word 0) ∷
    Own (PeekJob 0 1) ⟶ Replies (Word 0) ∷
    Locates 0 ⟶ Lies None ∷
    Locates 2 ⟶ Lies (Some (near 2 0 record dirty_hot { evac = true; dropped = true })) ∷
    Log 0 ⟶ LogIs (log_is 0 Free 0 0 4096) ∷
    Log 2 ⟶ LogIs (log_is 2 Chosen 16 0 4080) ∷
    Evacuates 1 ⟶ Evacuated (did_so 0 0 1 1) ∷
    [])

-- where a round is given up a job that nobody has taken is taken back; one that a copier has is void: in the next round its object's copy is offered by another job, and once it is
-- finished it names nothing
abbrev pub OffersAreTakenBack : Type 0
OffersAreTakenBack = PlaysBeside (begins 4) (
    News 0 0 8 ⟶ At (place 0 0) ∷
    News 0 1 8 ⟶ At (place 0 2) ∷
    Own (ReadEpoch 0) ⟶ Replies (Epoch 0) ∷
    Own (Opens 0) ⟶ Replies did ∷
    Own (Pin 0 0) ⟶ Replies (Held (place 0 0)) ∷
    Own (Pin 0 1) ⟶ Replies (Held (place 0 2)) ∷
    Own (Close 0) ⟶ Replies did ∷
    News 0 2 4088 ⟶ At (place 1 0) ∷
    Selects 1 ⟶ Selected (0 ∷ []) ∷
    Mark 9 ⟶ Marked 2 (Some 1) ∷
    Waits ⟶ Polls Clear ∷
    Evacuates 16 ⟶ Evacuated (so_far 0 0 0 0) ∷
    Own (Claim 3 1 0x4000200800020001) ⟶ Replies did ∷
    Aborts ⟶ Made ∷
    Own (PeekJob 0 0) ⟶ Replies (Word 0) ∷
    Own (PeekJob 0 1) ⟶ Replies (Word 0x8c00200800020001) ∷
    Locates 0 ⟶ Lies (Some (near 0 0 dirty_hot)) ∷
    Locates 1 ⟶ Lies (Some (near 0 2 dirty_hot)) ∷
    Log 0 ⟶ LogIs (log_is 0 Sealed 32 0 4064) ∷
    Selects 1 ⟶ Selected (0 ∷ []) ∷
    Mark 9 ⟶ Marked 2 (Some 2) ∷
    Waits ⟶ Polls Clear ∷
    Evacuates 16 ⟶ Evacuated (so_far 0 0 0 0) ∷
    Own (PeekJob 0 0) ⟶ Replies (Word 0x4000201000000000) ∷
    Own (PeekJob 0 1) ⟶ Replies (Word 0x8c00200800020001) ∷
    Own (PeekJob 0 2) ⟶ Replies (Word 0x4000201800020001) ∷
    Own (ReadLength 3) ⟶ Replies (Word 0xa200000101000008) ∷
    Own (Read 3 0) ⟶ Replies (Word 0) ∷
    Own (Write 3 0) ⟶ Replies did ∷
    Own (Finish 3) ⟶ Replies did ∷
    Evacuates 16 ⟶ Evacuated (so_far 0 0 0 0) ∷
    Own (PeekJob 0 1) ⟶ Replies (Word 0) ∷
    Locates 1 ⟶ Lies (Some (near 0 2 record dirty_hot { evac = true })) ∷
    [])

-- 16 copies are offered at most; a hot object more moves at once, behind their places
abbrev pub NoJobIsEmpty : Type 0
NoJobIsEmpty = PlaysBehind (begins 4) (
    map (λ p. News 0 p 8) (range_with_len 0 17) ++ Own (ReadEpoch 0) ∷ Own (Opens 0) ∷ map (λ p. Own (Pin 0 p)) (range_with_len 0 17) ++
    Own (Close 0) ∷ News 0 17 4088 ∷ Selects 1 ∷ []) (
    Mark 99 ⟶ Marked 17 (Some 1) ∷
    Waits ⟶ Polls Clear ∷
    Evacuates 99 ⟶ Evacuated (so_far 1 0 0 0) ∷
    Locates 16 ⟶ Lies (Some (near 2 32 dirty)) ∷
    Own (PeekJob 0 15) ⟶ Replies (Word 0x40002078001e000f) ∷
    Evacuates 99 ⟶ Evacuated (so_far 0 0 0 0) ∷
    [])

-- each log in which nothing lies any more is given back, the highest too, whatever the lengths of what lay there
abbrev pub EachLogComesBack : Type 0
EachLogComesBack = PlaysBeside (begins 4) (
    News 0 0 4088 ⟶ At (place 0 0) ∷
    News 0 1 4088 ⟶ At (place 1 0) ∷
    News 0 2 4087 ⟶ At (place 2 0) ∷
    Selects 2 ⟶ Selected (0 ∷ 1 ∷ []) ∷
    Mark 9 ⟶ Marked 2 (Some 1) ∷
    Waits ⟶ Polls Clear ∷
    Own (Ask 0 1 Moved) ⟶ Replies (Word 0xa600000400010ff8) ∷
    MovesNow 1 ⟶ At (place 3 0) ∷
    Evacuates 9 ⟶ Evacuated (did_so 0 1 0 2) ∷
    News 0 3 8 ⟶ At (place 0 0) ∷
    Selects 2 ⟶ Selected (2 ∷ 3 ∷ []) ∷
    Mark 9 ⟶ Marked 2 (Some 2) ∷
    Waits ⟶ Polls Clear ∷
    Evacuates 9 ⟶ Evacuated (did_so 0 2 0 2) ∷
    [])
