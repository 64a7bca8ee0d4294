-- The words of a state's table.
use Rattle.std.specs.Prelude.{◌-◌, ◌/◌, ◌%◌, ◌==◌, cond, nat_lt, ℕ}
use Rattle.far_events.specs.state.State.{State}
use Rattle.far_table.specs.Layout.{EPOCH_AT, LINE, cell_at, data_at, job_at, scope_at}

-- of the words from owner 0's scope on, the first of each line is a scope
abbrev pub line_word : (ℕ → ℕ) → ℕ → ℕ
line_word scope j = cond (j % LINE == 0) (scope (j / LINE)) 0

-- the word at a place of the table of a state
abbrev pub table_word : State → ℕ → ℕ
table_word s i = cond (nat_lt i (scope_at 0)) (cond (i == EPOCH_AT) s.epoch 0) (cond (nat_lt i (cell_at 0)) (line_word s.scope (i - scope_at 0))
    (cond (nat_lt i (job_at 0)) (s.cell (i - cell_at 0)) (cond (nat_lt i (data_at 0)) (s.copying.word (i - job_at 0)) (s.word (i - data_at 0)))))
