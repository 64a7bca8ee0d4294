-- What a contract sees of a copier's seat, and of a job that it has.
use Rattle.std.specs.Prelude.{◌≡◌, ◌≢◌, ◌⊎◌, ◌+◌, ◌-◌, ◌<◌, ◌≤◌, ℕ, zero, suc, true, Some, None, option_map}
use Rattle.far_word.specs.declared.job.JobWord.TheVariants.{Offered, Taken}
use Rattle.far_word.specs.declared.pointer.Place.{Place}
use Rattle.far_word.specs.Job.{job_in, job_of}
use Rattle.far_word.specs.Pointer.{read_of}
use Rattle.far_word.specs.Sizes.{words_for}
use Rattle.far_log.specs.Spans.{head_len}
use Rattle.far_events.specs.declared.event.Event.TheVariants.{Claim, Get, PeekJob, Read, ReadLength, Write}
use Rattle.far_events.specs.declared.event.Kind.TheVariants.{Free}
use Rattle.far_events.specs.declared.event.Reply.TheVariants.{Done, Word}
use Rattle.far_events.specs.declared.event.Task.{Task}
use Rattle.far_events.specs.events.Claim.{offered_in}
use Rattle.far_events.specs.events.Legal.{Legal}
use Rattle.far_events.specs.events.Step.{after}
use Rattle.far_events.specs.state.Jobs.{job_words, near_place}
use Rattle.far_events.specs.state.State.{State, addr}
use Rattle.far_table.specs.CopierViews.{claimed_view, measured_view, peeked_view, word_read_view, word_written_view, words_written}
use Rattle.far_table.specs.Layout.{JOBS_AT, data_at}
use Rattle.far_table.specs.Tells.{CopierMade, CopierMayBe}
use Rattle.far_table.specs.View.{CopierView}

-- a job: which one it is, with its object's pointer and places; how many data words the object has, and how many of them are copied
pub record CopyJob : Type 0 where
  pub task : Task
  pub words : ℕ
  pub copied : ℕ

-- ---- what a job keeps: where its word stands in the table, the word that offered it, and where the next word of its source stands, that of its target, and the source's end
-- where the first data word of the object at a place stands
abbrev pub first_at : Place → ℕ
first_at place = data_at (addr place + 1)

-- the job of this number, as its word says
abbrev pub task_of : ℕ → ℕ → Task
task_of number word = record { number = number; job = job_in word }

abbrev pub job_kept : ℕ → ℕ → ℕ → ℕ → CopyJob
job_kept at offered from end = record { task = task_of (at - JOBS_AT) offered; words = end - first_at (job_in offered).from; copied = from - first_at (job_in offered).from }

pub record IsKept (at offered from to end : ℕ) : Type 0 where
  pub low : JOBS_AT ≤ at
  pub offers : job_of offered ≡ Some (Offered (job_in offered))
  pub begun : first_at (job_in offered).from ≤ from
  pub some : from ≤ end
  pub along : to + first_at (job_in offered).from ≡ from + first_at (job_in offered).to

-- ---- a job of a copier
-- the job is the one that the copier has, of as many words as the length that it has read says; so many of them were written, from the first on
pub record IsJobOf (job : CopyJob) (v : CopierView) : Type 0 where
  pub task : v.task ≡ Some job.task
  pub long : option_map words_for v.length ≡ Some job.words
  pub some : job.copied ≤ job.words
  pub written : (i : ℕ) → i < job.copied → words_written v i ≡ true

-- no word is left
abbrev pub IsCopied : CopyJob → Type 0
IsCopied job = job.copied ≡ job.words

-- one word more is copied
abbrev pub copied_on : CopyJob → CopyJob
copied_on job = record job { copied = job.copied + 1 }

-- ---- a claim
-- a look at job j that didn't get it: its word offers none; or it did, and another had changed it before the exchange. The view notes what was found, so there was this look
abbrev pub Missed : ℕ → CopierView → CopierView → Type 0
Missed j v v' = (found : ℕ) × CopierMade (PeekJob v.number j) v (Word found) (peeked_view j found v)
    × (((offered_in (job_of found) ≡ None) × (v' ≡ peeked_view j found v))
    ⊎ ((later : ℕ) × (later ≢ found) × CopierMade (Claim v.number j found) (peeked_view j found v) (Word later) v' × (v' ≡ peeked_view j later (peeked_view j found v))))

-- the first n jobs were looked at, one after the other, and none was got
abbrev pub MissedFirst : ℕ → CopierView → CopierView → Type 0
MissedFirst zero v v' = v' ≡ v
MissedFirst (suc n) v v' = (u : CopierView) × MissedFirst n v u × Missed n u v'

-- nothing changed but what looks have found
abbrev pub OnlyLooked : CopierView → CopierView → Type 0
OnlyLooked v v' = v' ≡ record v { seen = v'.seen }

-- a job was taken: its word offered it, and the exchange won
pub record Took (task : Task) (v v' : CopierView) : Type 0 where
  pub found : ℕ
  pub offers : job_of found ≡ Some (Offered task.job)
  pub peeks : CopierMade (PeekJob v.number task.number) v (Word found) (peeked_view task.number found v)
  pub claims : CopierMade (Claim v.number task.number found) (peeked_view task.number found v) Done v'
  pub view : v' ≡ claimed_view task.number task.job (peeked_view task.number found v)

-- the header of its source was read: it has as many words as the header says, of which none is copied
pub record Measured (job : CopyJob) (v v' : CopierView) : Type 0 where
  pub head : ℕ
  pub reads : CopierMade (ReadLength v.number) v (Word head) v'
  pub view : v' ≡ measured_view head v
  pub words : job.words ≡ words_for (head_len head)
  pub copied : job.copied ≡ 0

-- the jobs of lower numbers were looked at and not got; then this job was taken, and the header of its source read
abbrev pub Claimed : CopyJob → CopierView → CopierView → Type 0
Claimed job v v' = (looked taken : CopierView) × MissedFirst job.task.number v looked × Took job.task looked taken × Measured job taken v'

-- the job's word says that this copier has taken it, and the copier has it; no other has it. Neither its source's log nor its target's is free, and to give one of them
-- back isn't legal; and no pointer is named to its target
pub record IsTakenBy (c : ℕ) (job : CopyJob) (s : State) : Type 0 where
  pub says : job_of (s.copying.word job.task.number) ≡ Some (Taken job.task.job c)
  pub has : s.copying.task c ≡ Some job.task
  pub alone : (d : ℕ) (t : Task) → s.copying.task d ≡ Some t → t.number ≡ job.task.number → d ≡ c
  pub words : job.words ≡ job_words s.word job.task.job
  pub logs : (s.kind job.task.job.from.log ≢ Free) × (s.kind job.task.job.to.log ≢ Free)
  pub stay : (l at : ℕ) → (l ≡ job.task.job.from.log) ⊎ (l ≡ job.task.job.to.log) → ¬ Legal s (Get l at true)
  pub nobodys : (p : ℕ) → near_place (read_of (s.cell p)) ≢ Some job.task.job.to

-- ---- a word
-- of the shared words one alone changes, word a of the logs, and is w then
pub record OnlyWord (a w : ℕ) (s t : State) : Type 0 where
  pub here : t.word a ≡ w
  pub words : (b : ℕ) → b ≢ a → t.word b ≡ s.word b
  pub rest : (t.epoch ≡ s.epoch) × (t.scope ≡ s.scope) × (t.cell ≡ s.cell) × (t.copying.word ≡ s.copying.word)

-- the next word of a job was copied: it was read of the source, and this word was written to the target. The write changes no other word, in
-- whatever state it was made
pub record CopiedNext (job : CopyJob) (v v' : CopierView) : Type 0 where
  pub word : ℕ
  pub reads : CopierMade (Read v.number job.copied) v (Word word) (word_read_view job.copied word v)
  pub writes : CopierMade (Write v.number job.copied) (word_read_view job.copied word v) Done v'
  pub view : v' ≡ word_written_view job.copied (word_read_view job.copied word v)
  pub alone : (s : State) → CopierMayBe (word_read_view job.copied word v) s → OnlyWord (addr job.task.job.to + 1 + job.copied) word s (after s (Write v.number job.copied))
