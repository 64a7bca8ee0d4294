-- The reply that an outcome reports, read from the buffers.
use Rattle.std.specs.Prelude.{◌≡◌, ◌⊎◌, ◌+◌, ◌*◌, ◌≤◌, take, slice_range}
use Rattle.far_word.specs.declared.refused.Refused.{Refused as Refusal}
use Rattle.far_word.specs.declared.refused.Refused.TheVariants.{Device, Memory}
use Rattle.far_word.specs.declared.sizes.TheConstants.{LOG_WORDS, LONGEST, MOST_LOGS}
use Rattle.far_replay.specs.declared.outcome.Outcome.{Outcome}
use Rattle.far_replay.specs.declared.outcome.Outcome.TheVariants as outcomes
use Rattle.far_replay.specs.declared.outcome.Scratch.{Scratch}
use Rattle.far_replay.specs.declared.outcome.Stepped.{Stepped}
use Rattle.far_replay.specs.declared.outcome.Stepped.TheVariants as steps
use Rattle.far_reply.specs.Reply.{Reply, Done, Pointer, Data, Logs, Lies, Audited, EpochRead, Selected, Marked, Clear, Evacuated, Ended, Refused, Halted}

-- what a step of the evacuator comes to
abbrev pub told_by : Scratch → Stepped → Reply
told_by scratch steps.Done = Done
told_by scratch (steps.Selected count) = Selected (take count scratch.bytes)
told_by scratch steps.Marked = Marked scratch.marked.count scratch.marked.waiting
told_by scratch steps.Clear = Clear
told_by scratch steps.Evacuated = Evacuated scratch.progress
told_by scratch steps.Ended = Ended scratch.end
told_by scratch (steps.Refused why) = Refused why
told_by scratch (steps.Halted why) = Halted why scratch.progress

abbrev pub reply_by : Scratch → Outcome → Reply
reply_by scratch outcomes.Done = Done
reply_by scratch (outcomes.Pointer pointer) = Pointer pointer
reply_by scratch (outcomes.Data from count) = Data (slice_range scratch.bytes from (from + count))
reply_by scratch (outcomes.Logs count) = Logs (take count scratch.lines)
reply_by scratch outcomes.Lies = Lies scratch.home
reply_by scratch outcomes.Audited = Audited scratch.counts
reply_by scratch (outcomes.EpochRead epoch) = EpochRead epoch
reply_by scratch outcomes.Stepped = told_by scratch scratch.stepped
reply_by scratch (outcomes.Refused why) = Refused why

-- it isn't the heap that refuses a step so, but what is outside it: the memory that there is, or the device
abbrev pub IsOutside : Refusal → Type 0
IsOutside why = (why ≡ Memory) ⊎ (why ≡ Device)

-- the outcome speaks of what the buffers have room for
abbrev pub IsInScratch : Outcome → Type 0
IsInScratch (outcomes.Data from count) = (from + count ≤ 8 * LOG_WORDS) × (count ≤ LONGEST)
IsInScratch (outcomes.Logs count) = count ≤ MOST_LOGS
IsInScratch outcome = Unit {0}
