-- What any policy may name, and how its answer and its list are one outcome.
use Rattle.std.specs.Prelude.{◌≡◌, ◌≤◌, ℕ, true, List, length, eqb, Result, Ok, Err}
use Rattle.std.specs.List.{IsDistinct}
use Rattle.far_word.specs.declared.refused.Refused.{Refused}
use Rattle.far_word.specs.declared.refused.Refused.TheVariants.{BadChoice}
use Rattle.far_log.specs.declared.row.LogRow.{LogRow}
use Rattle.far_policy.specs.Logs.{is_among, logs_of}

-- different logs of the rows, at most so many
pub record IsChoice (rows : List LogRow) (most : ℕ) (logs : List ℕ) : Type 0 where
  pub once : IsDistinct eqb logs
  pub of_rows : (l : ℕ) → is_among logs l ≡ true → is_among (logs_of rows) l ≡ true
  pub few : length logs ≤ most

-- a refusal that names a log, for whatever cause
abbrev pub IsBadChoice : Refused → Type 0
IsBadChoice why = (log : ℕ) × (why ≡ BadChoice log)

-- what a call gave: the logs in its list, or its refusal
abbrev pub outcome : Result (Unit {0}) Refused → List ℕ → Result (List ℕ) Refused
outcome (Ok done) logs = Ok logs
outcome (Err why) logs = Err why
