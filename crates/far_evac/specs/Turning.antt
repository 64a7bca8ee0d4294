-- Where turns stand, one after the other, and what bounds their sums.
use Rattle.std.specs.Prelude.{◌≡◌, ◌≢◌, ℕ, ◌+◌, ◌*◌, ◌^◌, ◌<◌, ◌≤◌, Bool, true, false, cond, length, Result, Ok, Err}
use Rattle.far_word.specs.declared.sizes.TheConstants.{JOBS, LOG_WORDS, MOST_LOGS}
use Rattle.far_evac.specs.declared.answers.EvacFault.{EvacFault}
use Rattle.far_evac.specs.declared.answers.Progress.{Progress}
use Rattle.far_evac.specs.declared.phase.Phase.TheVariants.{Evacuating}
use Rattle.far_evac.specs.Live.{live_among}
use Rattle.far_evac.specs.Moment.{Moment, Tally, nothing, objects_in, tally_of}
use Rattle.far_evac.specs.MomentLaw.{is_idle}
use Rattle.far_evac.specs.Turns.{Turned}

-- where turns stand that have counted so much, and whether the round is over
abbrev pub turned_at : Moment → Tally → Bool → Turned
turned_at m tally over = record { moment = m; tally = tally; over = over }

-- the most objects that logs have: no word begins two spans
abbrev pub most_objects : ℕ
most_objects = MOST_LOGS * LOG_WORDS

-- what was counted and what is left together are no more than a heap can have; nothing was counted before objects leave
pub record IsWithin (m : Moment) (total : Tally) : Type 0 where
  pub objects : objects_in total + length (live_among m.core m.collection) ≤ most_objects
  pub logs : total.freed + length m.collection ≤ MOST_LOGS
  pub fresh : m.phase ≢ Evacuating → total ≡ nothing

-- calls together count no more than that, whoever else moves objects: so many lie in a heap's logs at most
pub record IsBounded (total : Tally) : Type 0 where
  pub objects : objects_in total ≤ most_objects
  pub logs : total.freed ≤ MOST_LOGS

-- the most objects that a call counts: where copies may be offered, those too that were collected
abbrev pub most_counted : Bool → ℕ
most_counted copying = cond copying (most_objects + JOBS) most_objects

pub record IsBoundedBy (copying : Bool) (total : Tally) : Type 0 where
  pub objects : objects_in total ≤ most_counted copying
  pub logs : total.freed ≤ MOST_LOGS

-- where copies may be offered, so many turns count no more than so many times that
pub record IsCountedIn (turns : ℕ) (total : Tally) : Type 0 where
  pub objects : objects_in total ≤ turns * most_counted true
  pub logs : total.freed ≤ turns * MOST_LOGS

-- the most turns of a round where copies may be offered
abbrev pub most_turns : ℕ
most_turns = 2 ^ 48

-- a sum is a word
pub record IsSmall (total : Tally) : Type 0 where
  pub objects : objects_in total < 2 ^ 64
  pub logs : total.freed < 2 ^ 64

-- what a call has counted, also one that was refused
abbrev pub told_in : Result Progress EvacFault → Tally
told_in (Ok progress) = tally_of progress
told_in (Err fault) = tally_of fault.so_far

-- after a turn the sum is no more, and where the round isn't over turns may go on
pub record GoesOn (t : Moment) (total : Tally) (over : Bool) : Type 0 where
  pub bounded : IsBounded total
  pub more : over ≡ false → IsWithin t total × (is_idle t.phase ≡ false)
