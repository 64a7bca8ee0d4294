-- What is known of a state by a hand beside which others are at work.
use Rattle.std.specs.Prelude.{◌≡◌, ◌||◌, ℕ, Bool, true, false, cond, List, slice_index, slice_index_or}
use Rattle.far_events.specs.state.State.{State, put}
use Rattle.far_hand.specs.Beside.{hidden}
use Rattle.far_hand.specs.Finds.{Finds}
use Rattle.far_hand.specs.FindsJob.{FindsJob}
use Rattle.far_hand.specs.Known.{unknown}
use Rattle.far_hand.specs.Quiet.{RestsAt}

-- the words of the logs, where headers and what is counted on are known
abbrev pub masked_word : (ℕ → ℕ) → (ℕ → Bool) → (ℕ → Bool) → ℕ → ℕ
masked_word word starts counted a = cond (starts a || counted a) (word a) (unknown a)

-- the state as it is known where these words were found in the cells, these words of the logs are counted on beside
-- headers, and these words were found of the jobs; of what others do nothing is known
abbrev pub masked : State → (ℕ → ℕ) → (ℕ → Bool) → (ℕ → ℕ) → State
masked s found counted jobs = hidden s found (masked_word s.word s.starts counted) jobs

-- each cell is one that may be found where that word was found last
abbrev pub AllFind : (ℕ → ℕ) → (ℕ → ℕ) → Type 0
AllFind found cell = (p : ℕ) → Finds (found p) (cell p)

-- and each job's word
abbrev pub AllFindJobs : (ℕ → ℕ) → (ℕ → ℕ) → Type 0
AllFindJobs jobs word = (j : ℕ) → FindsJob (jobs j) (word j)

-- each word that is counted on and is no header rests, by what was found in the cells. So no owner stores there and no copier writes there, and none is
-- of a dead span
abbrev pub CountsOnRest : State → (ℕ → ℕ) → (ℕ → Bool) → Type 0
CountsOnRest s found counted = (a : ℕ) → counted a ≡ true → s.starts a ≡ false → RestsAt (record s { cell = found }) a

-- what stands at a place of a hand's lists
abbrev pub word_at : List ℕ → ℕ → ℕ
word_at found p = slice_index found p

abbrev pub is_counted : List Bool → ℕ → Bool
is_counted counted a = slice_index_or counted a false

-- what is counted on after a read: nothing, if the log was given back; the word too, if its object is quiet; else what was counted on before
abbrev pub recounted : (ℕ → Bool) → Bool → Bool → ℕ → ℕ → Bool
recounted counted true quiet a = λ _. false
recounted counted false true a = put counted a true
recounted counted false false a = counted
