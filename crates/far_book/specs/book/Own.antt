-- The book's own part of a state: what no owner changes.
use Rattle.std.specs.Prelude.{◌≡◌, ℕ, false, cond, Option, Some, None}
use Rattle.far_word.specs.declared.job.JobWord.{JobWord}
use Rattle.far_word.specs.declared.job.JobWord.TheVariants.{Empty, Offered, Taken, Finished}
use Rattle.far_word.specs.Job.{job_of, job_word}
use Rattle.far_events.specs.state.Opening.{for_copiers, opening}
use Rattle.far_events.specs.state.State.{Copying, State}
use Rattle.far_hand.specs.Beside.{hidden, uncopied}
use Rattle.far_hand.specs.ShapeOf.{shape_of}

-- a job's word, but that one that is taken is as it was offered, without its copier
abbrev pub untaken_of : ℕ → Option JobWord → ℕ
untaken_of w None = w
untaken_of w (Some Empty) = w
untaken_of w (Some (Offered job)) = w
untaken_of w (Some (Taken job c)) = job_word (Offered job)
untaken_of w (Some (Finished job c)) = w

abbrev pub untaken : ℕ → ℕ
untaken w = untaken_of w (job_of w)

-- what is copied, without copiers
abbrev pub unread : Copying → Copying
unread k = uncopied k (λ j. untaken (k.word j))

-- every job is empty
abbrev pub HasNoJob : State → Type 0
HasNoJob s = (j : ℕ) → s.copying.word j ≡ 0

-- all is left out that owners may change at any moment, or that the book can't know of them: of the words of the logs the
-- headers of spans alone are left, and of the owners their scopes, and what they remember, use, hold and have soiled, are those of
-- owners that have done nothing. What an owner was promised of a far side isn't the book's either, nor what copiers have
abbrev pub own_part : State → State
own_part s = record (hidden s s.cell (λ a. cond (s.starts a) (s.word a) 0) (λ j. untaken (s.copying.word j))) { honest = false }

-- all cells are free and the logs are as at the start, whatever owners have done with their scopes, and whether copiers may have jobs or not
abbrev pub IsAtStart : State → Type 0
IsAtStart s = own_part s ≡ own_part (for_copiers s.copying.has_copiers (opening (shape_of s) s.honest))
