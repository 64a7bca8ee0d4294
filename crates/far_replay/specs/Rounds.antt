-- What the evacuator's commands make of a heap: when each is refused, the moment after it, and what it tells.
use Rattle.std.specs.Prelude.{ℕ, Bool, true, false, not, List, [], ◌∷◌, length, map, take, Result, Ok, Err}
use Rattle.far_word.specs.declared.refused.Refused.{Refused as Refusal}
use Rattle.far_word.specs.declared.refused.Refused.TheVariants.{Phase as WrongPhase, EpochsSpent, StillOpen}
use Rattle.far_log.specs.declared.row.LogRow.{LogRow}
use Rattle.far_policy.specs.LeastLive.{least_live}
use Rattle.far_policy.specs.Logs.{logs_of}
use Rattle.far_policy.specs.Scripted.{scripted}
use Rattle.far_book.specs.book.Rows.{row_of}
use Rattle.far_evac.specs.declared.answers.RoundEnd.{RoundEnd}
use Rattle.far_evac.specs.declared.answers.RoundEnd.TheVariants as ends
use Rattle.far_evac.specs.declared.answers.Polled.{Polled}
use Rattle.far_evac.specs.declared.answers.Polled.TheVariants as polls
use Rattle.far_evac.specs.declared.phase.Phase.{Phase}
use Rattle.far_evac.specs.declared.phase.Phase.TheVariants.{Idle, Marking, Waiting, Evacuating}
use Rattle.far_evac.specs.Choosing.{after_aborting, after_selecting, is_spent}
use Rattle.far_evac.specs.Marking.{after_marking, newly_marked, waiting_for}
use Rattle.far_evac.specs.Moment.{Moment, progress_of}
use Rattle.far_evac.specs.MomentLaw.{is_idle}
use Rattle.far_evac.specs.Turns.{round_end, turns_made}
use Rattle.far_evac.specs.Waiting.{after_polling, polled}
use Rattle.far_evac.specs.Walk.{ended, is_done, walked}
use Rattle.far_text.specs.Command.{Choice, By, Script, Policy, Oldest, LeastLive, Step, Select, Mark, Wait, Evacuate, Abort, Round}
use Rattle.far_reply.specs.Reply.{Reply, Done, Selected, Marked, Clear, Evacuated, Ended}

-- ---- which logs are chosen
-- what is told of each sealed log, oldest first
abbrev pub rows_in : Moment → List LogRow
rows_in now = map (row_of now.core) now.order

-- the logs that a policy chooses of rows, at most so many
abbrev pub chosen_by : Policy → List LogRow → ℕ → List ℕ
chosen_by Oldest rows most = take most (logs_of rows)
chosen_by LeastLive rows most = logs_of (least_live rows most)

-- a choice gives logs, or its refusal, which names the first log of a script that may not be chosen
abbrev pub given_by : Choice → List LogRow → ℕ → Result (List ℕ) Refusal
given_by (By policy) rows most = Ok (chosen_by policy rows most)
given_by (Script logs) rows most = scripted rows most logs

abbrev pub logs_given : Result (List ℕ) Refusal → List ℕ
logs_given (Ok logs) = logs
logs_given (Err why) = []

-- ---- when a step is refused
abbrev pub is_marking : Phase → Bool
is_marking Idle = false
is_marking Marking = true
is_marking Waiting = false
is_marking Evacuating = false

abbrev pub is_waiting : Phase → Bool
is_waiting Idle = false
is_waiting Marking = false
is_waiting Waiting = true
is_waiting Evacuating = false

abbrev pub is_evacuating : Phase → Bool
is_evacuating Idle = false
is_evacuating Marking = false
is_evacuating Waiting = false
is_evacuating Evacuating = true

-- the refusal of a choice, if it is one
abbrev pub choice_causes : Result (List ℕ) Refusal → List (Bool × Refusal)
choice_causes (Ok logs) = []
choice_causes (Err why) = (true, why) ∷ []

-- a mutator that the round waits for, if there is one
abbrev pub wait_causes : Polled → List (Bool × Refusal)
wait_causes polls.Clear = []
wait_causes (polls.StillOpen mutator epoch) = (true, StillOpen mutator epoch) ∷ []

abbrev pub step_causes : Moment → Step → List (Bool × Refusal)
step_causes now (Select choice most) = (not (is_idle now.phase), WrongPhase) ∷ (is_spent now.core, EpochsSpent) ∷ choice_causes (given_by choice (rows_in now) most)
step_causes now (Mark count) = (not (is_marking now.phase), WrongPhase) ∷ []
step_causes now Wait = (not (is_waiting now.phase), WrongPhase) ∷ wait_causes (polled now.core)
step_causes now (Evacuate count) = (not (is_evacuating now.phase), WrongPhase) ∷ []
step_causes now Abort = (is_idle now.phase, WrongPhase) ∷ []
step_causes now (Round policy most turns) = (not (is_idle now.phase), WrongPhase) ∷ (is_spent now.core, EpochsSpent) ∷ []

-- ---- the moment after a step that isn't refused
-- so many turns of a round of these logs, if there is one
abbrev pub after_round : Moment → List ℕ → ℕ → Moment
after_round now [] turns = now
after_round now (l ∷ ls) turns = (turns_made (after_selecting now (l ∷ ls)) turns).moment

abbrev pub step_effect : Moment → Step → Moment
step_effect now (Select choice most) = after_selecting now (logs_given (given_by choice (rows_in now) most))
step_effect now (Mark count) = after_marking now count
step_effect now Wait = after_polling now
step_effect now (Evacuate count) = ended (walked now count)
step_effect now Abort = after_aborting now
step_effect now (Round policy most turns) = after_round now (chosen_by policy (rows_in now) most) turns

-- and after one that is refused: as before, but that a wait has seen clear the mutators before the one that it waits for
abbrev pub refused_step : Moment → Step → Refusal → Moment
refused_step now Wait (StillOpen mutator epoch) = after_polling now
refused_step now step why = now

-- ---- what it tells
abbrev pub round_told : Moment → List ℕ → ℕ → RoundEnd
round_told now [] turns = ends.Nothing
round_told now (l ∷ ls) turns = round_end (turns_made (after_selecting now (l ∷ ls)) turns)

abbrev pub step_reply : Moment → Step → Reply
step_reply now (Select choice most) = Selected (logs_given (given_by choice (rows_in now) most))
step_reply now (Mark count) = Marked (length (newly_marked now count)) (waiting_for now count)
step_reply now Wait = Clear
step_reply now (Evacuate count) = Evacuated (progress_of (walked now count).tally (is_done (walked now count)))
step_reply now Abort = Done
step_reply now (Round policy most turns) = Ended (round_told now (chosen_by policy (rows_in now) most) turns)
