-- What holds of every choice: which rows may be chosen from; one list of least live bytes; one outcome of a script.
use Rattle.std.specs.Prelude.{◌≡◌, ◌<◌, ℕ, true, List, map, eqb, Result}
use Rattle.std.specs.List.{IsDistinct}
use Rattle.far_word.specs.declared.sizes.TheConstants.{MOST_LOGS}
use Rattle.far_word.specs.declared.refused.Refused.{Refused}
use Rattle.far_log.specs.declared.row.LogRow.{LogRow}
use Rattle.far_policy.specs.Logs.{is_among, logs_of, AreRows}
use Rattle.far_policy.specs.LeastLive.{TakesLeast, least_live}
use Rattle.far_policy.specs.Scripted.{FollowsScript, scripted}

-- rows that tell of different logs, which a heap may have, may be chosen from, and their logs are these
abbrev pub RowsTellOfLogs : Type 0
RowsTellOfLogs = (logs : List ℕ) (row : ℕ → LogRow) → ((l : ℕ) → (row l).log ≡ l) → IsDistinct eqb logs → ((l : ℕ) → is_among logs l ≡ true → l < MOST_LOGS) →
    AreRows (map row logs) × (logs_of (map row logs) ≡ logs)

-- rows of different logs have a list of least live bytes
abbrev pub LeastIsThere : Type 0
LeastIsThere = (rows : List LogRow) (most : ℕ) → AreRows rows → TakesLeast rows most (least_live rows most)

-- no rows have two
abbrev pub LeastIsOne : Type 0
LeastIsOne = (rows : List LogRow) (most : ℕ) (taken others : List LogRow) → TakesLeast rows most taken → TakesLeast rows most others → taken ≡ others

-- a script has an outcome
abbrev pub ScriptIsFollowed : Type 0
ScriptIsFollowed = (rows : List LogRow) (most : ℕ) (named : List ℕ) → FollowsScript rows most named (scripted rows most named)

-- and never two
abbrev pub ScriptIsOne : Type 0
ScriptIsOne = (rows : List LogRow) (most : ℕ) (named : List ℕ) (one other : Result (List ℕ) Refused) →
    FollowsScript rows most named one → FollowsScript rows most named other → one ≡ other
