-- What stands in a copier's view, and how its steps change it.
use Rattle.std.specs.Prelude.{ℕ, Bool, true, false, Option, Some, None, List, [], ◌∷◌, slice_index_or}
use Rattle.far_word.specs.declared.job.Job.{Job}
use Rattle.far_log.specs.Spans.{head_len}
use Rattle.far_table.specs.View.{CopierView, idle}
use Rattle.far_table.specs.Rows.{over}

-- the words that it has read of its job's source, and those that it has written to the target
abbrev pub words_read : CopierView → ℕ → Option ℕ
words_read v = over v.read (λ _. None)

abbrev pub words_written : CopierView → ℕ → Bool
words_written v = over v.written (λ _. false)

-- ---- the view after a step
-- a look at job j found a word, or an exchange did that was lost
abbrev pub peeked_view : ℕ → ℕ → CopierView → CopierView
peeked_view j found v = record v { seen = (j, found) ∷ v.seen }

-- the job is the copier's, which has read and written nothing of it
abbrev pub claimed_view : ℕ → Job → CopierView → CopierView
claimed_view j job v = record v { task = Some record { number = j; job = job }; length = None; read = []; written = [] }

-- the source's header was read
abbrev pub measured_view : ℕ → CopierView → CopierView
measured_view head v = record v { length = Some (head_len head) }

-- word i of the source was read
abbrev pub word_read_view : ℕ → ℕ → CopierView → CopierView
word_read_view i word v = record v { read = (i, Some word) ∷ v.read }

-- word i of the target was written
abbrev pub word_written_view : ℕ → CopierView → CopierView
word_written_view i v = record v { written = (i, true) ∷ v.written }

abbrev pub finished_view : CopierView → CopierView
finished_view v = record v { task = None }

-- ---- many copiers
abbrev pub copier_at : List CopierView → ℕ → CopierView
copier_at cs c = slice_index_or cs c (idle 0)
