-- Worked choices.
use Rattle.std.specs.Prelude.{◌≡◌, ℕ, List, [], ◌∷◌, take, Ok, Err}
use Rattle.far_word.specs.declared.refused.Refused.TheVariants.{BadChoice}
use Rattle.far_log.specs.declared.row.LogRow.{LogRow}
use Rattle.far_policy.specs.Logs.{logs_of}
use Rattle.far_policy.specs.LeastLive.{least_live}
use Rattle.far_policy.specs.Scripted.{scripted}

-- the row of a log without dead bytes
abbrev pub row_with : ℕ → ℕ → ℕ → LogRow
row_with log live unused = record { log = log; live = live; dead = 0; unused = unused }

-- four sealed logs, oldest first: two have as many live bytes
abbrev pub four : List LogRow
four = row_with 5 4096 0 ∷ row_with 2 16 4080 ∷ row_with 9 0 4096 ∷ row_with 0 16 4080 ∷ []

-- one sealed log
abbrev pub one : List LogRow
one = row_with 0 16 4080 ∷ []

abbrev pub OldestRowsHold : Type 0
OldestRowsHold = (take 2 (logs_of four) ≡ 5 ∷ 2 ∷ []) × (take 9 (logs_of four) ≡ 5 ∷ 2 ∷ 9 ∷ 0 ∷ []) × (take 0 (logs_of four) ≡ [])

abbrev pub LeastLiveRowsHold : Type 0
LeastLiveRowsHold = (logs_of (least_live four 2) ≡ 9 ∷ 0 ∷ []) × (logs_of (least_live four 9) ≡ 9 ∷ 0 ∷ 2 ∷ 5 ∷ [])
    × (logs_of (least_live four 0) ≡ []) × (logs_of (least_live [] 4) ≡ [])

abbrev pub ScriptedRowsHold : Type 0
ScriptedRowsHold = (scripted one 1 (0 ∷ []) ≡ Ok (0 ∷ [])) × (scripted one 1 (1 ∷ []) ≡ Err (BadChoice 1)) × (scripted one 2 (0 ∷ 0 ∷ []) ≡ Err (BadChoice 0))
    × (scripted one 0 (0 ∷ []) ≡ Err (BadChoice 0)) × (scripted [] 0 [] ≡ Ok [])
    × (scripted four 2 (9 ∷ 5 ∷ 2 ∷ []) ≡ Err (BadChoice 2)) × (scripted four 4 (9 ∷ 255 ∷ 9 ∷ []) ≡ Err (BadChoice 255))
    × (scripted four 4 (9 ∷ 5 ∷ 2 ∷ 0 ∷ []) ≡ Ok (9 ∷ 5 ∷ 2 ∷ 0 ∷ []))
