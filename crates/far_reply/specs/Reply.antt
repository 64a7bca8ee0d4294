-- Replies, and the lines that they are printed as.
use Rattle.std.specs.Prelude.{ℕ, ◌<◌, ◌≤◌, Bool, not, ◌||◌, Option, Some, None, List, [], ◌∷◌, ◌++◌, length, codes, decimal, if◌then◌else◌}
use Rattle.std.specs.Int.{to_be_bytes, w64}
use Rattle.std.specs.List.{flat_map}
use Rattle.hex.specs.Hex.{encode_lower}
use Rattle.far_word.specs.declared.mark.Marks.{Marks}
use Rattle.far_word.specs.declared.refused.Refused.{Refused as Refusal}
use Rattle.far_word.specs.declared.refused.Refused.TheVariants.{Marked as MarkFound, Syntax, BadChoice, StillOpen}
use Rattle.far_word.specs.Refused.{refusal_number}
use Rattle.far_word.specs.declared.sizes.TheConstants.{LONGEST, MOST_LOGS}
use Rattle.far_evac.specs.declared.answers.Progress.{Progress}
use Rattle.far_evac.specs.declared.answers.RoundEnd.{RoundEnd}
use Rattle.far_evac.specs.declared.answers.RoundEnd.TheVariants as ends
use Rattle.far_evac.specs.declared.phase.Phase.{Phase}
use Rattle.far_evac.specs.declared.phase.Phase.TheVariants.{Idle, Marking, Waiting, Evacuating}
use Rattle.far_evac.specs.declared.census.LogKind.{LogKind}
use Rattle.far_evac.specs.declared.census.LogKind.TheVariants.{Free, Open, Sealed, Chosen}
use Rattle.far_book.specs.declared.home.Home.{Home}
use Rattle.far_book.specs.declared.home.Home.TheVariants.{Near, Far}
pub use Rattle.far_reply.specs.declared.reply.Counts.{Counts}
pub use Rattle.far_reply.specs.declared.reply.LogLine.{LogLine}
use Rattle.far_reply.specs.declared.reply.Reply.{Reply as Given}
use Rattle.far_reply.specs.declared.reply.Reply.TheVariants.{Done as GivenDone, Pointer as GivenPointer, Data as GivenData, Logs as GivenLogs, Lies as GivenLies, Audited as GivenAudited, EpochRead as GivenEpochRead, Selected as GivenSelected, Marked as GivenMarked, Clear as GivenClear, Evacuated as GivenEvacuated, Ended as GivenEnded, Refused as GivenRefused, Halted as GivenHalted}

pub data Reply : Type 0 where
  Done : Reply
  Pointer : (pointer : ℕ) → Reply
  Data : (bytes : List ℕ) → Reply
  Logs : (lines : List LogLine) → Reply
  Lies : (home : Home) → Reply
  Audited : (counts : Counts) → Reply
  EpochRead : (epoch : ℕ) → Reply
  Selected : (logs : List ℕ) → Reply
  Marked : (count : ℕ) (waiting : Option ℕ) → Reply
  Clear : Reply
  Evacuated : (progress : Progress) → Reply
  Ended : (end : RoundEnd) → Reply
  Refused : (why : Refusal) → Reply
  Halted : (why : Refusal) (progress : Progress) → Reply

abbrev pub kind_word : LogKind → List ℕ
kind_word Free = codes "free"
kind_word Open = codes "open"
kind_word Sealed = codes "sealed"
kind_word Chosen = codes "chosen"

-- what `logs` says of one log: its number, its kind, and its bytes
abbrev pub log_text : LogLine → List ℕ
log_text line =
    codes "log " ++ decimal line.log ++ codes " " ++ kind_word line.kind ++ codes " live " ++ decimal line.live
    ++ codes " dead " ++ decimal line.dead ++ codes " unused " ++ decimal line.unused ++ codes "\n"

-- a mark's letter, where the mark is set
abbrev pub mark_letter : Bool → List ℕ → List ℕ
mark_letter is_set letter = if is_set then letter else []

-- the letters of the marks that are set: HOT, EVAC, MOVE, DROP, in this order; a dash where none is. DIRTY has none
abbrev pub letters_of : Marks → List ℕ
letters_of m =
    if not (m.hot || m.evac || m.moved || m.dropped) then codes "-"
    else mark_letter m.hot (codes "h") ++ mark_letter m.evac (codes "e") ++ mark_letter m.moved (codes "m") ++ mark_letter m.dropped (codes "d")

-- where an object is: near, with its log and the word in it, or far; and its marks
abbrev pub home_printed : Home → List ℕ
home_printed (Near place marks) = codes "near " ++ decimal place.log ++ codes " " ++ decimal place.at ++ codes " " ++ letters_of marks ++ codes "\n"
home_printed (Far marks) = codes "far " ++ letters_of marks ++ codes "\n"

-- what an audit counts
abbrev pub counts_printed : Counts → List ℕ
counts_printed counts = codes "audit near " ++ decimal counts.near ++ codes " far " ++ decimal counts.far ++ codes " live " ++ decimal counts.live ++ codes "\n"

-- what follows a refusal's number: a line; a log; a mutator and an epoch; or a word, in 16 digits
abbrev pub detail : Refusal → List ℕ
detail (MarkFound word) = codes " " ++ encode_lower (to_be_bytes w64 word)
detail (Syntax line) = codes " " ++ decimal line
detail (BadChoice log) = codes " " ++ decimal log
detail (StillOpen mutator epoch) = codes " " ++ decimal mutator ++ codes " " ++ decimal epoch
detail _ = []

-- a refusal's line
abbrev pub refusal_text : Refusal → List ℕ
refusal_text why = codes "refused " ++ decimal (refusal_number why) ++ detail why ++ codes "\n"

-- logs that were chosen, each after a space; a word where there is none
abbrev pub log_listed : ℕ → List ℕ
log_listed log = codes " " ++ decimal log

abbrev pub chosen_text : List ℕ → List ℕ
chosen_text [] = codes " none"
chosen_text (log ∷ logs) = flat_map log_listed (log ∷ logs)

-- the epoch that the round waits for, where it waits
abbrev pub waiting_text : Option ℕ → List ℕ
waiting_text None = []
waiting_text (Some epoch) = codes " waiting " ++ decimal epoch

-- what became of objects, and how many logs were given back
abbrev pub counted_text : Progress → List ℕ
counted_text done = codes " moved " ++ decimal done.moved ++ codes " far " ++ decimal done.far ++ codes " dropped " ++ decimal done.dropped ++ codes " freed " ++ decimal done.freed

abbrev pub done_text : Bool → List ℕ
done_text done = if done then codes " done" else []

abbrev pub phase_word : Phase → List ℕ
phase_word Idle = codes "idle"
phase_word Marking = codes "marking"
phase_word Waiting = codes "waiting"
phase_word Evacuating = codes "evacuating"

abbrev pub end_text : RoundEnd → List ℕ
end_text (ends.Done progress) = codes "done" ++ counted_text progress
end_text ends.Nothing = codes "none"
end_text (ends.Limit phase) = codes "limit " ++ phase_word phase

-- the line of a step that was refused in its midst, with what it had done
abbrev pub halted_text : Refusal → Progress → List ℕ
halted_text why progress = codes "refused " ++ decimal (refusal_number why) ++ counted_text progress ++ codes "\n"

-- the lines of a reply, each with its newline
abbrev pub reply_text : Reply → List ℕ
reply_text Done = codes "ok\n"
reply_text (Pointer pointer) = codes "pointer " ++ decimal pointer ++ codes "\n"
reply_text (Data bytes) = codes "data " ++ encode_lower bytes ++ codes "\n"
reply_text (Logs lines) = flat_map log_text lines
reply_text (Lies home) = home_printed home
reply_text (Audited counts) = counts_printed counts
reply_text (EpochRead epoch) = codes "epoch " ++ decimal epoch ++ codes "\n"
reply_text (Selected logs) = codes "selected" ++ chosen_text logs ++ codes "\n"
reply_text (Marked count waiting) = codes "marked " ++ decimal count ++ waiting_text waiting ++ codes "\n"
reply_text Clear = codes "clear\n"
reply_text (Evacuated progress) = codes "evacuated" ++ counted_text progress ++ done_text progress.done ++ codes "\n"
reply_text (Ended end) = codes "round " ++ end_text end ++ codes "\n"
reply_text (Refused why) = refusal_text why
reply_text (Halted why progress) = halted_text why progress

-- the reply that the code gives
abbrev pub reply_of : Given → Reply
reply_of GivenDone = Done
reply_of (GivenPointer pointer) = Pointer pointer
reply_of (GivenData bytes) = Data bytes.now
reply_of (GivenLogs lines) = Logs lines.now
reply_of (GivenLies home) = Lies home
reply_of (GivenAudited counts) = Audited counts
reply_of (GivenEpochRead epoch) = EpochRead epoch
reply_of (GivenSelected logs) = Selected logs.now
reply_of (GivenMarked marked) = Marked marked.now.count marked.now.waiting
reply_of GivenClear = Clear
reply_of (GivenEvacuated progress) = Evacuated progress.now
reply_of (GivenEnded end) = Ended end.now
reply_of (GivenRefused why) = Refused why
reply_of (GivenHalted why progress) = Halted why progress.now

-- no more bytes than an object has, no more lines than a heap has logs, and few logs that were chosen
abbrev pub IsShort : Reply → Type 0
IsShort Done = Unit {0}
IsShort (Pointer pointer) = Unit {0}
IsShort (Data bytes) = length bytes ≤ LONGEST
IsShort (Logs lines) = length lines ≤ MOST_LOGS
IsShort (Lies home) = Unit {0}
IsShort (Audited counts) = Unit {0}
IsShort (EpochRead epoch) = Unit {0}
IsShort (Selected logs) = length logs < 256
IsShort (Marked count waiting) = Unit {0}
IsShort Clear = Unit {0}
IsShort (Evacuated progress) = Unit {0}
IsShort (Ended end) = Unit {0}
IsShort (Refused why) = Unit {0}
IsShort (Halted why progress) = Unit {0}
