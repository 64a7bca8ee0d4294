-- The rows of logs, and the logs that they are of.
use Rattle.std.specs.Prelude.{◌≡◌, ◌<◌, ℕ, Bool, true, List, map, eqb}
use Rattle.std.specs.List.{IsDistinct, list_any}
use Rattle.far_word.specs.declared.sizes.TheConstants.{MOST_LOGS}
use Rattle.far_log.specs.declared.row.LogRow.{LogRow}

-- whether a log is in a list
abbrev pub is_among : List ℕ → ℕ → Bool
is_among logs l = list_any (eqb l) logs

-- the logs of rows, in their order
abbrev pub logs_of : List LogRow → List ℕ
logs_of rows = map (λ (row : LogRow). row.log) rows

-- rows of different logs, all of which a heap may have
pub record AreRows (rows : List LogRow) : Type 0 where
  pub once : IsDistinct eqb (logs_of rows)
  pub range : (l : ℕ) → is_among (logs_of rows) l ≡ true → l < MOST_LOGS
