-- Causes for which an event is refused, a row each, said of what is so in the state and not by the event's guard.
use Rattle.std.specs.Prelude.{◌≡◌, ◌≢◌, ◌⊎◌, ℕ, ◌+◌, ◌*◌, ◌/◌, ◌%◌, ◌^◌, ◌<◌, ◌-◌, ◌≤◌, Bool, true, false, Some, None}
use Rattle.far_word.specs.declared.job.Job.{Job}
use Rattle.far_word.specs.declared.mark.Mark.TheVariants.{Hot, Evac, Dirty}
use Rattle.far_word.specs.declared.mark.Mark.{Mark}
use Rattle.far_word.specs.declared.mark.Marks.{Marks}
use Rattle.far_word.specs.declared.pointer.Place.{Place}
use Rattle.far_word.specs.declared.pointer.PtrWord.TheVariants.{Near, Far}
use Rattle.far_word.specs.declared.sizes.TheConstants.{CELLS, JOBS, LOG_WORDS, MOST_COPIERS}
use Rattle.far_word.specs.Header.{head_word}
use Rattle.far_word.specs.Job.{job_of}
use Rattle.far_word.specs.Mark.{field}
use Rattle.far_word.specs.Pointer.{read_of}
use Rattle.far_word.specs.Sizes.{size_of}
use Rattle.far_log.specs.Spans.{head_len}
use Rattle.far_events.specs.declared.event.Event.{Event}
use Rattle.far_events.specs.declared.event.Event.TheVariants as event
use Rattle.far_events.specs.declared.event.Kind.TheVariants.{Free, Open, Sealed}
use Rattle.far_events.specs.declared.event.Reply.TheVariants.{Refused}
use Rattle.far_events.specs.declared.event.Task.{Task}
use Rattle.far_events.specs.events.Quiet.{IsQuiet}
use Rattle.far_events.specs.events.Step.{step_of}
use Rattle.far_events.specs.state.Jobs.{job_at}
use Rattle.far_events.specs.state.State.{State, addr}

-- the event is answered Refused, and nothing changes
abbrev pub IsRefused : State → Event → Type 0
IsRefused s e = step_of s e ≡ (s, Refused)

-- what an owner is refused about its scope: past the last owner; under an open scope; without an epoch read before; under a closed scope
pub record ScopesAreRefused (s : State) : Type 0 where
  pub read_past : (m : ℕ) → s.mutators ≤ m → IsRefused s (event.ReadEpoch m)
  pub read_open : (m : ℕ) → s.scope m ≢ 0 → IsRefused s (event.ReadEpoch m)
  pub open_past : (m : ℕ) → s.mutators ≤ m → IsRefused s (event.Open m)
  pub open_twice : (m : ℕ) → s.scope m ≢ 0 → IsRefused s (event.Open m)
  pub open_unread : (m : ℕ) → s.remembered m ≡ None → IsRefused s (event.Open m)
  pub close_past : (m : ℕ) → s.mutators ≤ m → IsRefused s (event.Close m)
  pub close_closed : (m : ℕ) → s.scope m ≡ 0 → IsRefused s (event.Close m)

-- and about a pointer: under a closed scope; another owner's; one that it doesn't use, or already uses; one that it holds, or doesn't; a free
-- or dropped cell; any mark but MOVE and DROP
pub record PointersAreRefused (s : State) : Type 0 where
  pub pin_closed : (m p : ℕ) → s.scope m ≡ 0 → IsRefused s (event.Pin m p)
  pub pin_others : (m p : ℕ) → p / CELLS ≢ m → IsRefused s (event.Pin m p)
  pub pin_unused : (m p : ℕ) → s.used p ≡ false → IsRefused s (event.Pin m p)
  pub pin_held : (m p : ℕ) (place : Place) → s.held p ≡ Some place → IsRefused s (event.Pin m p)
  pub adopt_past : (m p : ℕ) → s.mutators ≤ m → IsRefused s (event.Adopt m p)
  pub adopt_others : (m p : ℕ) → p / CELLS ≢ m → IsRefused s (event.Adopt m p)
  pub adopt_used : (m p : ℕ) → s.used p ≡ true → IsRefused s (event.Adopt m p)
  pub adopt_free : (m p : ℕ) → s.cell p ≡ 0 → IsRefused s (event.Adopt m p)
  pub adopt_dropped : (m p : ℕ) → field (s.cell p) 59 1 ≡ 1 → IsRefused s (event.Adopt m p)
  pub ask_past : (m p : ℕ) (k : Mark) → s.mutators ≤ m → IsRefused s (event.Ask m p k)
  pub ask_others : (m p : ℕ) (k : Mark) → p / CELLS ≢ m → IsRefused s (event.Ask m p k)
  pub ask_unused : (m p : ℕ) (k : Mark) → s.used p ≡ false → IsRefused s (event.Ask m p k)
  pub ask_held : (m p : ℕ) (k : Mark) (place : Place) → s.held p ≡ Some place → IsRefused s (event.Ask m p k)
  pub ask_hot : (m p : ℕ) → IsRefused s (event.Ask m p Hot)
  pub ask_evac : (m p : ℕ) → IsRefused s (event.Ask m p Evac)
  pub ask_dirty : (m p : ℕ) → IsRefused s (event.Ask m p Dirty)

-- and about an object's words: under a closed scope; another owner's; of one that isn't held; to store into one that isn't soiled; to soil one that is quiet; a word that
-- begins at the object's end or past it; a word in which byte k or a later one isn't 0, where byte k is past that end
pub record WordsAreRefused (s : State) : Type 0 where
  pub load_closed : (m p i : ℕ) → s.scope m ≡ 0 → IsRefused s (event.Load m p i)
  pub load_others : (m p i : ℕ) → p / CELLS ≢ m → IsRefused s (event.Load m p i)
  pub load_unheld : (m p i : ℕ) → s.held p ≡ None → IsRefused s (event.Load m p i)
  pub load_past : (m p i len ds : ℕ) (place : Place) (k : Marks) → read_of (s.cell p) ≡ Some (Near len ds place k) → len ≤ 8 * i → IsRefused s (event.Load m p i)
  pub store_closed : (m p i w : ℕ) → s.scope m ≡ 0 → IsRefused s (event.Store m p i w)
  pub store_others : (m p i w : ℕ) → p / CELLS ≢ m → IsRefused s (event.Store m p i w)
  pub store_unheld : (m p i w : ℕ) → s.held p ≡ None → IsRefused s (event.Store m p i w)
  pub store_unsoiled : (m p i w : ℕ) → s.soiled p ≡ false → IsRefused s (event.Store m p i w)
  pub soil_closed : (m p : ℕ) → s.scope m ≡ 0 → IsRefused s (event.Soil m p)
  pub soil_others : (m p : ℕ) → p / CELLS ≢ m → IsRefused s (event.Soil m p)
  pub soil_unheld : (m p : ℕ) → s.held p ≡ None → IsRefused s (event.Soil m p)
  pub soil_quiet : (m p : ℕ) → IsQuiet s p → IsRefused s (event.Soil m p)
  pub store_past : (m p i w len ds : ℕ) (place : Place) (k : Marks) → read_of (s.cell p) ≡ Some (Near len ds place k) → len ≤ 8 * i → IsRefused s (event.Store m p i w)
  pub store_over : (m p i w n len ds : ℕ) (place : Place) (k : Marks) → read_of (s.cell p) ≡ Some (Near len ds place k) → len ≤ 8 * i + n → w / 2 ^ (8 * n) ≢ 0 →
      IsRefused s (event.Store m p i w)

-- what the book is refused about logs: past the last log or a log's last word; to give back a log that isn't sealed, in which an
-- object lies, dropped or not, in which a view rests, or which a job reads or writes; to write into a sealed log, or below a tail
pub record LogsAreRefused (s : State) : Type 0 where
  pub get_past : (l at : ℕ) (free : Bool) → s.logs ≤ l → IsRefused s (event.Get l at free)
  pub get_over : (l at : ℕ) (free : Bool) → LOG_WORDS ≤ at → IsRefused s (event.Get l at free)
  pub free_unsealed : (l at : ℕ) → s.kind l ≢ Sealed → IsRefused s (event.Get l at true)
  pub free_occupied : (l at p len ds : ℕ) (place : Place) (k : Marks) → read_of (s.cell p) ≡ Some (Near len ds place k) → place.log ≡ l → IsRefused s (event.Get l at true)
  pub free_viewed : (l at p : ℕ) (place : Place) → s.held p ≡ Some place → place.log ≡ l → IsRefused s (event.Get l at true)
  pub free_copied : (l at j : ℕ) (job : Job) → job_at s.copying.word j ≡ Some job → (job.from.log ≡ l) ⊎ (job.to.log ≡ l) → IsRefused s (event.Get l at true)
  pub put_past : (l at w : ℕ) → s.logs ≤ l → IsRefused s (event.Put l at w)
  pub put_over : (l at w : ℕ) → LOG_WORDS ≤ at → IsRefused s (event.Put l at w)
  pub put_sealed : (l at w : ℕ) → s.kind l ≡ Sealed → IsRefused s (event.Put l at w)
  pub put_below : (l at w : ℕ) → at < s.tail l → IsRefused s (event.Put l at w)

-- about cells, jobs and rounds: past the last pointer, owner, job or copier; to mark or clear what isn't near; to mark in a log that isn't sealed; to raise the
-- epoch past the greatest, or with a log chosen that isn't sealed, or is none, or in which a near object has no EVAC, dropped or not
pub record RoundsAreRefused (s : State) : Type 0 where
  pub see_past : (p : ℕ) → CELLS * s.mutators ≤ p → IsRefused s (event.See p)
  pub mark_past : (p : ℕ) → CELLS * s.mutators ≤ p → IsRefused s (event.Mark p)
  pub mark_free : (p : ℕ) → s.cell p ≡ 0 → IsRefused s (event.Mark p)
  pub mark_far : (p len ds : ℕ) (k : Marks) → read_of (s.cell p) ≡ Some (Far len ds k) → IsRefused s (event.Mark p)
  pub mark_unsealed : (p len ds : ℕ) (place : Place) (k : Marks) → read_of (s.cell p) ≡ Some (Near len ds place k) → s.kind place.log ≢ Sealed → IsRefused s (event.Mark p)
  pub clear_past : (p : ℕ) → CELLS * s.mutators ≤ p → IsRefused s (event.Clear p)
  pub clear_free : (p : ℕ) → s.cell p ≡ 0 → IsRefused s (event.Clear p)
  pub clear_far : (p len ds : ℕ) (k : Marks) → read_of (s.cell p) ≡ Some (Far len ds k) → IsRefused s (event.Clear p)
  pub look_past : (m : ℕ) → s.mutators ≤ m → IsRefused s (event.Look m)
  pub see_job_past : (j : ℕ) → JOBS ≤ j → IsRefused s (event.SeeJob j)
  pub peek_job_past : (c j : ℕ) → JOBS ≤ j → IsRefused s (event.PeekJob c j)
  pub peek_job_none : (c j : ℕ) → MOST_COPIERS ≤ c → IsRefused s (event.PeekJob c j)
  pub advance_last : (logs : ℕ) → s.epoch ≡ 2 ^ 62 - 1 → IsRefused s (event.Advance logs)
  pub advance_unsealed : (logs l : ℕ) → l < 64 → logs / 2 ^ l % 2 ≡ 1 → s.kind l ≢ Sealed → IsRefused s (event.Advance logs)
  pub advance_past : (logs l : ℕ) → l < 64 → logs / 2 ^ l % 2 ≡ 1 → s.logs ≤ l → IsRefused s (event.Advance logs)
  pub advance_unmarked : (logs p len ds : ℕ) (place : Place) (k : Marks) → read_of (s.cell p) ≡ Some (Near len ds place k) → logs / 2 ^ place.log % 2 ≡ 1 → k.evac ≡ false →
      IsRefused s (event.Advance logs)

-- about copying: past the last copier or job; to take a job beside another, one that isn't offered (whose stage isn't 1), or any where no copier may have one; without
-- a job; to read a word that begins at the object's end or past it, to write one that wasn't read, to finish before each is written; to empty a job that is empty or taken
-- (stages 0 and 2); to take or empty one by a word that is off the layout
pub record CopyingIsRefused (s : State) : Type 0 where
  pub claim_past : (c j old : ℕ) → JOBS ≤ j → IsRefused s (event.Claim c j old)
  pub claim_none : (c j old : ℕ) → MOST_COPIERS ≤ c → IsRefused s (event.Claim c j old)
  pub claim_again : (c j old : ℕ) (t : Task) → s.copying.task c ≡ Some t → IsRefused s (event.Claim c j old)
  pub claim_unoffered : (c j old : ℕ) → old / 2 ^ 62 ≢ 1 → IsRefused s (event.Claim c j old)
  pub claim_alone : (c j old : ℕ) → s.copying.has_copiers ≡ false → IsRefused s (event.Claim c j old)
  pub claim_off_layout : (c j old : ℕ) → job_of old ≡ None → IsRefused s (event.Claim c j old)
  pub length_idle : (c : ℕ) → s.copying.task c ≡ None → IsRefused s (event.ReadLength c)
  pub read_idle : (c i : ℕ) → s.copying.task c ≡ None → IsRefused s (event.Read c i)
  pub read_over : (c i : ℕ) (t : Task) → s.copying.task c ≡ Some t → head_len (s.word (addr t.job.from)) ≤ 8 * i → IsRefused s (event.Read c i)
  pub write_idle : (c i : ℕ) → s.copying.task c ≡ None → IsRefused s (event.Write c i)
  pub write_unread : (c i : ℕ) → s.copying.read c i ≡ None → IsRefused s (event.Write c i)
  pub finish_idle : (c : ℕ) → s.copying.task c ≡ None → IsRefused s (event.Finish c)
  pub finish_unwritten : (c i : ℕ) (t : Task) → s.copying.task c ≡ Some t → 8 * i < head_len (s.word (addr t.job.from)) → s.copying.written c i ≡ false → IsRefused s (event.Finish c)
  pub collect_past : (j old : ℕ) → JOBS ≤ j → IsRefused s (event.Collect j old)
  pub collect_empty : (j old : ℕ) → old / 2 ^ 62 ≡ 0 → IsRefused s (event.Collect j old)
  pub collect_taken : (j old : ℕ) → old / 2 ^ 62 ≡ 2 → IsRefused s (event.Collect j old)
  pub collect_off_layout : (j old : ℕ) → job_of old ≡ None → IsRefused s (event.Collect j old)

-- about offers: past the last job or pointer; a job that isn't empty; what isn't near; without EVAC, outside the round, or of an owner that
-- wasn't seen clear
pub record OffersAreRefused (s : State) (j p : ℕ) (to : Place) : Type 0 where
  pub past_jobs : JOBS ≤ j → IsRefused s (event.Offer j p to)
  pub past : CELLS * s.mutators ≤ p → IsRefused s (event.Offer j p to)
  pub twice : s.copying.word j ≢ 0 → IsRefused s (event.Offer j p to)
  pub free : s.cell p ≡ 0 → IsRefused s (event.Offer j p to)
  pub far : (len ds : ℕ) (k : Marks) → read_of (s.cell p) ≡ Some (Far len ds k) → IsRefused s (event.Offer j p to)
  pub unmarked : (len ds : ℕ) (from : Place) (k : Marks) → read_of (s.cell p) ≡ Some (Near len ds from k) → k.evac ≡ false → IsRefused s (event.Offer j p to)
  pub outside : (len ds : ℕ) (from : Place) (k : Marks) → read_of (s.cell p) ≡ Some (Near len ds from k) → s.round from.log ≡ false → IsRefused s (event.Offer j p to)
  pub unseen : s.clear (p / CELLS) ≡ false → IsRefused s (event.Offer j p to)

-- and about the place of a copy: a log past the last, a sealed one, not at the open log's tail, not at a free log's start; past its log's end;
-- no header for the pointer there; a last data word that isn't 0
pub record TargetsAreRefused (s : State) (j p len ds : ℕ) (to : Place) : Type 0 where
  pub past_logs : s.logs ≤ to.log → IsRefused s (event.Offer j p to)
  pub shut : s.kind to.log ≡ Sealed → IsRefused s (event.Offer j p to)
  pub off_tail : s.kind to.log ≡ Open → to.at ≢ s.tail to.log → IsRefused s (event.Offer j p to)
  pub off_start : s.kind to.log ≡ Free → to.at ≢ 0 → IsRefused s (event.Offer j p to)
  pub over : LOG_WORDS < to.at + size_of len → IsRefused s (event.Offer j p to)
  pub headless : s.word (addr to) ≢ head_word p len ds → IsRefused s (event.Offer j p to)
  pub not_blank : (i : ℕ) → 8 * i < len → len ≤ 8 * i + 8 → s.word (addr to + 1 + i) ≢ 0 → IsRefused s (event.Offer j p to)

abbrev pub CopiesAreRefused : State → Type 0
CopiesAreRefused s = ((j p : ℕ) (to : Place) → OffersAreRefused s j p to)
    × ((j p len ds : ℕ) (to from : Place) (k : Marks) → read_of (s.cell p) ≡ Some (Near len ds from k) → TargetsAreRefused s j p len ds to)
