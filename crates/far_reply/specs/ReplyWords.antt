-- Worked replies of each form, each with another number in every place, and the text that is printed for it.
use Rattle.std.specs.Prelude.{◌≡◌, ℕ, Bool, true, false, codes, Some, None, List, [], ◌∷◌}
use Rattle.far_word.specs.declared.mark.Marks.{Marks}
use Rattle.far_word.specs.declared.refused.Refused.TheVariants.{Memory, NoRoom, NoPointer, Length, Closed, AlreadyOpen, NotHeld, Range, Held, Damaged, Phase as WrongPhase, EpochsSpent, Marked as MarkFound, Shape, Syntax, BadChoice, StillOpen, Device}
use Rattle.far_book.specs.declared.home.Home.TheVariants.{Near, Far}
use Rattle.far_evac.specs.declared.answers.Progress.{Progress}
use Rattle.far_evac.specs.declared.answers.RoundEnd.TheVariants as ends
use Rattle.far_evac.specs.declared.census.LogKind.{LogKind}
use Rattle.far_evac.specs.declared.census.LogKind.TheVariants as kinds
use Rattle.far_evac.specs.declared.phase.Phase.TheVariants.{Marking, Waiting, Evacuating}
use Rattle.far_reply.specs.Reply.{Reply, Done, Pointer, Data, Logs, Lies, Audited, EpochRead, Selected, Marked, Clear, Evacuated, Ended, Refused, Halted, LogLine, reply_text}

-- a reply is printed as this text
abbrev pub Reads : Reply → List ℕ → Type 0
Reads reply text = reply_text reply ≡ text

-- ---- replies to mutators
abbrev pub DonesRead : Type 0
DonesRead = Reads Done (codes "ok\n")

abbrev pub PointersRead : Type 0
PointersRead = Reads (Pointer 0) (codes "pointer 0\n")
    × Reads (Pointer 2047) (codes "pointer 2047\n")

abbrev pub DataRead : Type 0
DataRead = Reads (Data (10 ∷ 255 ∷ 0 ∷ 192 ∷ [])) (codes "data 0aff00c0\n")

abbrev pub EpochsRead : Type 0
EpochsRead = Reads (EpochRead 7) (codes "epoch 7\n")
    × Reads (EpochRead 12345) (codes "epoch 12345\n")

-- an object in log 3 at word 45, and one on the far side, with these marks
abbrev pub near_with : Marks → Reply
near_with marks = Lies (Near record { log = 3; at = 45 } marks)

abbrev pub far_with : Marks → Reply
far_with marks = Lies (Far marks)

-- each mark by itself, then none and all; a far one has no EVAC. DIRTY has no letter
abbrev pub HomesRead : Type 0
HomesRead = Reads (near_with record { hot = true; evac = false; moved = false; dropped = false; dirty = false }) (codes "near 3 45 h\n")
    × Reads (near_with record { hot = false; evac = true; moved = false; dropped = false; dirty = false }) (codes "near 3 45 e\n")
    × Reads (near_with record { hot = false; evac = false; moved = true; dropped = false; dirty = false }) (codes "near 3 45 m\n")
    × Reads (near_with record { hot = false; evac = false; moved = false; dropped = true; dirty = false }) (codes "near 3 45 d\n")
    × Reads (near_with record { hot = false; evac = false; moved = false; dropped = false; dirty = false }) (codes "near 3 45 -\n")
    × Reads (near_with record { hot = false; evac = false; moved = false; dropped = false; dirty = true }) (codes "near 3 45 -\n")
    × Reads (near_with record { hot = true; evac = true; moved = true; dropped = true; dirty = false }) (codes "near 3 45 hemd\n")
    × Reads (near_with record { hot = true; evac = true; moved = true; dropped = true; dirty = true }) (codes "near 3 45 hemd\n")
    × Reads (far_with record { hot = false; evac = false; moved = false; dropped = false; dirty = false }) (codes "far -\n")
    × Reads (far_with record { hot = true; evac = false; moved = true; dropped = true; dirty = false }) (codes "far hmd\n")

-- ---- replies to inquiries
abbrev pub line_of : ℕ → LogKind → ℕ → ℕ → ℕ → LogLine
line_of log kind live dead unused = record { log = log; kind = kind; live = live; dead = dead; unused = unused }

-- a log of each kind, a line for each
abbrev pub LogsRead : Type 0
LogsRead = Reads (Logs (line_of 0 kinds.Sealed 16 4072 8 ∷ line_of 1 kinds.Open 40 32 4024 ∷ line_of 2 kinds.Chosen 72 4000 24 ∷ line_of 63 kinds.Free 0 0 4096 ∷ []))
    (codes "log 0 sealed live 16 dead 4072 unused 8\nlog 1 open live 40 dead 32 unused 4024\nlog 2 chosen live 72 dead 4000 unused 24\nlog 63 free live 0 dead 0 unused 4096\n")

abbrev pub AuditsRead : Type 0
AuditsRead = Reads (Audited record { near = 12; far = 3; live = 456 }) (codes "audit near 12 far 3 live 456\n")

-- ---- replies to steps of the evacuator
abbrev pub SelectionsRead : Type 0
SelectionsRead = Reads (Selected []) (codes "selected none\n")
    × Reads (Selected (3 ∷ 11 ∷ 2 ∷ [])) (codes "selected 3 11 2\n")

abbrev pub MarksRead : Type 0
MarksRead = Reads (Marked 16 None) (codes "marked 16\n")
    × Reads (Marked 5 (Some 8)) (codes "marked 5 waiting 8\n")

abbrev pub ClearsRead : Type 0
ClearsRead = Reads Clear (codes "clear\n")

-- what was done, each count another
abbrev pub progress_so : Bool → Progress
progress_so done = record { moved = 4; far = 13; dropped = 2; freed = 1; done = done }

abbrev pub EvacuationsRead : Type 0
EvacuationsRead = Reads (Evacuated (progress_so false)) (codes "evacuated moved 4 far 13 dropped 2 freed 1\n")
    × Reads (Evacuated (progress_so true)) (codes "evacuated moved 4 far 13 dropped 2 freed 1 done\n")

abbrev pub RoundsRead : Type 0
RoundsRead = Reads (Ended (ends.Done (progress_so true))) (codes "round done moved 4 far 13 dropped 2 freed 1\n")
    × Reads (Ended ends.Nothing) (codes "round none\n")
    × Reads (Ended (ends.Limit Marking)) (codes "round limit marking\n")
    × Reads (Ended (ends.Limit Waiting)) (codes "round limit waiting\n")
    × Reads (Ended (ends.Limit Evacuating)) (codes "round limit evacuating\n")

-- ---- refusals: those that tell their number alone
abbrev pub RefusalsRead : Type 0
RefusalsRead = Reads (Refused Memory) (codes "refused 1\n")
    × Reads (Refused NoRoom) (codes "refused 2\n")
    × Reads (Refused NoPointer) (codes "refused 3\n")
    × Reads (Refused Length) (codes "refused 4\n")
    × Reads (Refused Closed) (codes "refused 5\n")
    × Reads (Refused AlreadyOpen) (codes "refused 6\n")
    × Reads (Refused NotHeld) (codes "refused 7\n")
    × Reads (Refused Range) (codes "refused 8\n")
    × Reads (Refused Held) (codes "refused 9\n")
    × Reads (Refused Device) (codes "refused 10\n")
    × Reads (Refused Damaged) (codes "refused 11\n")
    × Reads (Refused WrongPhase) (codes "refused 12\n")
    × Reads (Refused EpochsSpent) (codes "refused 13\n")
    × Reads (Refused Shape) (codes "refused 15\n")

-- and those that tell more: a word, a line, a log, a mutator and an epoch
abbrev pub ReasonsRead : Type 0
ReasonsRead = Reads (Refused (MarkFound 0x0400_0000_0001_0008)) (codes "refused 14 0400000000010008\n")
    × Reads (Refused (MarkFound 0xe400_0004_0201_0ff8)) (codes "refused 14 e400000402010ff8\n")
    × Reads (Refused (Syntax 204)) (codes "refused 16 204\n")
    × Reads (Refused (BadChoice 40)) (codes "refused 17 40\n")
    × Reads (Refused (StillOpen 2 35)) (codes "refused 18 2 35\n")

-- and those of a step that had done something
abbrev pub HaltsRead : Type 0
HaltsRead = Reads (Halted Device (progress_so false)) (codes "refused 10 moved 4 far 13 dropped 2 freed 1\n")
    × Reads (Halted Memory (progress_so false)) (codes "refused 1 moved 4 far 13 dropped 2 freed 1\n")
