-- What a line answered, as the plain program's replies.
use Rattle.std.specs.Prelude.{◌+◌, ◌≤◌, length}
use Rattle.far_word.specs.declared.sizes.TheConstants.{MOST_LOGS}
use Rattle.far_reply.specs.Reply.{Reply, Done, Pointer, Data, Logs, Audited, Ended, Refused, Halted, reply_of}
use Rattle.far_split.specs.Kept.{lines_told}
use Rattle.far_split.specs.declared.told.Answer.{Answer}
use Rattle.far_split.specs.declared.told.Answer.TheVariants as answers
use Rattle.far_split.specs.declared.told.Told.{Told}
use Rattle.far_split.specs.declared.told.Told.TheVariants as told

abbrev pub as_reply : Answer → Reply
as_reply answers.Done = Done
as_reply (answers.Pointer pointer) = Pointer pointer
as_reply (answers.Data bytes) = Data bytes.items
as_reply (answers.Logs first rows) = Logs (lines_told first rows.items)
as_reply (answers.Audited counts) = Audited counts
as_reply (answers.Ended end) = Ended end
as_reply (answers.Refused why) = Refused why
as_reply (answers.Halted why so_far) = Halted why so_far

-- its logs are some of so many as a heap may have
abbrev pub TellsFewLogs : Answer → Type 0
TellsFewLogs (answers.Logs first rows) = first + length rows.items ≤ MOST_LOGS
TellsFewLogs other = Unit {0}

-- as it is lent
abbrev pub as_told : Told → Reply
as_told (told.Logs lines) = Logs lines
as_told (told.Reply reply) = reply_of reply
