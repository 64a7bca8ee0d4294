-- The worked calls go by what the evacuator's contracts say: those that begin a round by `unselectable`, the others by the phase.
use Rattle.std.specs.Prelude.{◌≡◌, ◌≢◌, ℕ, None, Some, length, map, take}
use Rattle.far_word.specs.declared.refused.Refused.{Refused as Refusal}
use Rattle.far_word.specs.declared.refused.Refused.TheVariants.{Phase as WrongPhase}
use Rattle.far_policy.specs.LeastLive.{least_live}
use Rattle.far_policy.specs.Logs.{logs_of}
use Rattle.far_book.specs.book.Rows.{row_of}
use Rattle.far_evac.specs.declared.answers.RoundEnd.{RoundEnd}
use Rattle.far_evac.specs.declared.phase.Phase.TheVariants.{Idle, Marking, Waiting, Evacuating}
use Rattle.far_evac.specs.Choosing.{after_aborting, after_selecting}
use Rattle.far_evac.specs.Marking.{after_marking, newly_marked, waiting_for}
use Rattle.far_evac.specs.Moment.{Moment, progress_of}
use Rattle.far_evac.specs.Refusals.{unselectable}
use Rattle.far_evac.specs.Turns.{IsRound}
use Rattle.far_evac.specs.Waiting.{after_polling, polled}
use Rattle.far_evac.specs.Walk.{ended, is_done, walked}
use Rattle.far_evac.specs.worked.Calls.{Aborts, Ends, Evacuated, Evacuates, Made, Marked, Marks, Polls, Refused, Rounds, Selected, Selects, SelectsEmptiest, Waits, turn_of}

-- a round begins where nothing bars it, and is made as `IsRound` says; else the refusal is what bars it, and nothing changes
pub record BeginsSo (m : Moment) (most turns : ℕ) : Type 0 where
  pub barred : (why : Refusal) → unselectable m ≡ Some why →
      (turn_of m (Selects most) ≡ (m, Refused why)) × (turn_of m (SelectsEmptiest most) ≡ (m, Refused why)) × (turn_of m (Rounds most turns) ≡ (m, Refused why))
  pub selects : unselectable m ≡ None → turn_of m (Selects most) ≡ (after_selecting m (take most m.order), Selected (take most m.order))
  pub emptiest : unselectable m ≡ None → let logs = logs_of (least_live (map (row_of m.core) m.order) most) in turn_of m (SelectsEmptiest most) ≡ (after_selecting m logs, Selected logs)
  pub makes : (end : RoundEnd) (t : Moment) → unselectable m ≡ None → IsRound m (take most m.order) turns end t → turn_of m (Rounds most turns) ≡ (t, Ends end)

-- each other call is made in its phase, and refused in any other
pub record GoesByPhase (m : Moment) (n : ℕ) : Type 0 where
  pub marks : m.phase ≡ Marking → turn_of m (Marks n) ≡ (after_marking m n, Marked (length (newly_marked m n)) (waiting_for m n))
  pub marks_not : m.phase ≢ Marking → turn_of m (Marks n) ≡ (m, Refused WrongPhase)
  pub waits : m.phase ≡ Waiting → turn_of m Waits ≡ (after_polling m, Polls (polled m.core))
  pub waits_not : m.phase ≢ Waiting → turn_of m Waits ≡ (m, Refused WrongPhase)
  pub leaves : m.phase ≡ Evacuating → let w = walked m n in turn_of m (Evacuates n) ≡ (ended w, Evacuated (progress_of w.tally (is_done w)))
  pub leaves_not : m.phase ≢ Evacuating → turn_of m (Evacuates n) ≡ (m, Refused WrongPhase)
  pub gives_up : m.phase ≢ Idle → turn_of m Aborts ≡ (after_aborting m, Made)
  pub gives_up_not : m.phase ≡ Idle → turn_of m Aborts ≡ (m, Refused WrongPhase)

abbrev pub AsCalled : Type 0
AsCalled = (m : Moment) (most turns n : ℕ) → BeginsSo m most turns × GoesByPhase m n
