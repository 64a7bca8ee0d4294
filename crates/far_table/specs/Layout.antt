-- Where each shared word stands. The cells are those of the largest heap; the words of the logs are last, as many as the heap has. The epoch and each scope word have a
-- line of cache: what is between them is nobody's.
use Rattle.std.specs.Prelude.{◌≡◌, ℕ, ◌+◌, ◌*◌, cond, nat_lt, List, slice_index}
use Rattle.far_word.specs.declared.sizes.TheConstants.{JOBS, LOG_WORDS, MOST_MUTATORS, POINTERS}

-- the words of a line of cache, of 128 bytes
abbrev pub LINE : ℕ
LINE = 16

-- word 0 is for the split of seats
abbrev pub EPOCH_AT : ℕ
EPOCH_AT = LINE

abbrev pub SCOPES_AT : ℕ
SCOPES_AT = 2 * LINE

abbrev pub CELLS_AT : ℕ
CELLS_AT = SCOPES_AT + MOST_MUTATORS * LINE

abbrev pub JOBS_AT : ℕ
JOBS_AT = CELLS_AT + POINTERS

abbrev pub LOGS_AT : ℕ
LOGS_AT = JOBS_AT + JOBS

-- how many words the table of so many logs has
abbrev pub table_words : ℕ → ℕ
table_words logs = LOGS_AT + logs * LOG_WORDS

abbrev pub scope_at : ℕ → ℕ
scope_at m = m * LINE + SCOPES_AT

abbrev pub cell_at : ℕ → ℕ
cell_at p = p + CELLS_AT

abbrev pub job_at : ℕ → ℕ
job_at j = j + JOBS_AT

abbrev pub data_at : ℕ → ℕ
data_at a = a + LOGS_AT

-- so it is today, in numbers
pub record LayoutIs : Type 0 where
  pub epoch : EPOCH_AT ≡ 16
  pub scopes : (SCOPES_AT ≡ 32) × (LINE ≡ 16)
  pub cells : CELLS_AT ≡ 160
  pub jobs : JOBS_AT ≡ 2208
  pub logs : LOGS_AT ≡ 2224
  pub words : (logs : ℕ) → table_words logs ≡ 2224 + logs * 512

abbrev pub epoch_in : List ℕ → ℕ
epoch_in ws = slice_index ws EPOCH_AT

abbrev pub scope_in : List ℕ → ℕ → ℕ
scope_in ws m = cond (nat_lt m MOST_MUTATORS) (slice_index ws (scope_at m)) 0

abbrev pub cell_in : List ℕ → ℕ → ℕ
cell_in ws p = cond (nat_lt p POINTERS) (slice_index ws (cell_at p)) 0

abbrev pub job_in : List ℕ → ℕ → ℕ
job_in ws j = cond (nat_lt j JOBS) (slice_index ws (job_at j)) 0

abbrev pub word_in : List ℕ → ℕ → ℕ
word_in ws a = slice_index ws (data_at a)
