-- Logs that are named one by one, and the first of them that may not be chosen.
use Rattle.std.specs.Prelude.{◌≡◌, ◌<◌, ◌||◌, not, nat_le, ℕ, Bool, true, false, Option, Some, None, List, length, take, slice_index, Result, Ok, Err}
use Rattle.std.specs.List.{find, range_with_len}
use Rattle.far_word.specs.declared.refused.Refused.{Refused}
use Rattle.far_word.specs.declared.refused.Refused.TheVariants.{BadChoice}
use Rattle.far_log.specs.declared.row.LogRow.{LogRow}
use Rattle.far_policy.specs.Logs.{is_among, logs_of}

-- the log that is named at this place may not be chosen: it is none of the rows, or was named before, or enough were
abbrev pub is_bad : List LogRow → ℕ → List ℕ → ℕ → Bool
is_bad rows most named k = not (is_among (logs_of rows) (slice_index named k)) || is_among (take k named) (slice_index named k) || nat_le most k

-- all named logs are chosen, and none is bad; or the first bad one is refused
abbrev pub FollowsScript : List LogRow → ℕ → List ℕ → Result (List ℕ) Refused → Type 0
FollowsScript rows most named (Ok logs) = (logs ≡ named) × ((k : ℕ) → k < length named → is_bad rows most named k ≡ false)
FollowsScript rows most named (Err why) = (k : ℕ) × (k < length named) × (is_bad rows most named k ≡ true)
    × ((i : ℕ) → i < k → is_bad rows most named i ≡ false) × (why ≡ BadChoice (slice_index named k))

-- ---- the same as a function

-- what becomes of the named logs where this is the place of the first bad one
abbrev pub judged : List ℕ → Option ℕ → Result (List ℕ) Refused
judged named None = Ok named
judged named (Some k) = Err (BadChoice (slice_index named k))

abbrev pub scripted : List LogRow → ℕ → List ℕ → Result (List ℕ) Refused
scripted rows most named = judged named (find (is_bad rows most named) (range_with_len 0 (length named)))
