-- How replies are kept: what is long in them stands in lists of its own.
use Rattle.std.specs.Prelude.{ℕ, ◌+◌, ◌-◌, ◌*◌, ◌<◌, ◌≤◌, List, [], ◌∷◌, slice_index_or, slice_range}
use Rattle.far_word.specs.declared.sizes.TheConstants.{LOG_BYTES}
use Rattle.far_evac.specs.declared.answers.RoundEnd.TheVariants.{Nothing}
use Rattle.far_reply.specs.declared.reply.LogLine.{LogLine}
use Rattle.far_reply.specs.Reply.{Reply, Done, Pointer, Data, Logs, Audited, Ended, Refused, Halted}
use Rattle.far_split.specs.declared.replies.Kept.{Kept}
use Rattle.far_split.specs.declared.replies.Kept.TheVariants as kept
use Rattle.far_split.specs.declared.replies.Round.{Round}
use Rattle.far_split.specs.declared.replies.Round.TheVariants as rounds
use Rattle.far_split.specs.declared.told.LogWords.{LogWords}

-- what is told of a log, by its words
abbrev pub line_told : ℕ → LogWords → LogLine
line_told log row = record { log = log; kind = row.kind; live = 8 * row.live; dead = 8 * row.dead; unused = LOG_BYTES - (8 * row.live + 8 * row.dead) }

-- of logs from this one on
abbrev pub lines_told : ℕ → List LogWords → List LogLine
lines_told first [] = []
lines_told first (row ∷ rows) = line_told first row ∷ lines_told (first + 1) rows

-- how a round ended, or was refused in its midst
abbrev pub round_reply : Round → Reply
round_reply (rounds.Ended end) = Ended end
round_reply (rounds.Halted why so_far) = Halted why so_far

-- the reply that is kept so, where these are all bytes, all logs' words and all rounds
abbrev pub reply_in : List ℕ → List LogWords → List Round → Kept → Reply
reply_in bytes logs ends kept.Done = Done
reply_in bytes logs ends (kept.Pointer pointer) = Pointer pointer
reply_in bytes logs ends (kept.Data from count) = Data (slice_range bytes from (from + count))
reply_in bytes logs ends (kept.Logs first from count) = Logs (lines_told first (slice_range logs from (from + count)))
reply_in bytes logs ends (kept.Audited counts) = Audited counts
reply_in bytes logs ends (kept.Refused why) = Refused why
reply_in bytes logs ends (kept.Round at) = round_reply (slice_index_or ends at (rounds.Ended Nothing))

-- its part is one of so many bytes, so many logs' words, and so many rounds; and logs have numbers below 256
abbrev pub IsKept : ℕ → ℕ → ℕ → Kept → Type 0
IsKept bytes logs ends (kept.Data from count) = from + count ≤ bytes
IsKept bytes logs ends (kept.Logs first from count) = (from + count ≤ logs) × (first + count ≤ 256)
IsKept bytes logs ends (kept.Round at) = at < ends
IsKept bytes logs ends other = Unit {0}

abbrev pub AreKept : ℕ → ℕ → ℕ → List Kept → Type 0
AreKept bytes logs ends [] = Unit {0}
AreKept bytes logs ends (one ∷ others) = IsKept bytes logs ends one × AreKept bytes logs ends others

-- it stands in none of the lists
abbrev pub IsWhole : Kept → Type 0
IsWhole (kept.Data from count) = ⊥
IsWhole (kept.Logs first from count) = ⊥
IsWhole (kept.Round at) = ⊥
IsWhole other = Unit {0}
