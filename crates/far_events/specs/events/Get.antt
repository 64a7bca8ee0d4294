-- The book reads a word of a log; or it gives back a log in which no span is live, and which no job reads or writes, and reads the word too.
use Rattle.std.specs.Prelude.{◌≡◌, ◌≢◌, ◌+◌, ◌*◌, ◌/◌, ◌<◌, ◌==◌, ◌&&◌, ◌||◌, ℕ, Bool, true, false, cond, not, nat_lt, zero, suc, Option, Some, None}
use Rattle.far_word.specs.declared.job.Job.{Job}
use Rattle.far_word.specs.declared.mark.Marks.{Marks}
use Rattle.far_word.specs.declared.pointer.Place.{Place}
use Rattle.far_word.specs.declared.pointer.PtrWord.TheVariants.{Near}
use Rattle.far_word.specs.declared.sizes.TheConstants.{JOBS, LOG_WORDS}
use Rattle.far_word.specs.Header.{head_of}
use Rattle.far_word.specs.Pointer.{read_of}
use Rattle.far_log.specs.Spans.{pointer_in}
use Rattle.far_events.specs.declared.event.Kind.TheVariants.{Free, Sealed}
use Rattle.far_events.specs.declared.event.Reply.{Reply}
use Rattle.far_events.specs.declared.event.Reply.TheVariants.{Word}
use Rattle.far_events.specs.state.Spans.{names_place}
use Rattle.far_events.specs.state.Jobs.{job_at}
use Rattle.far_events.specs.state.State.{Copying, State, put}
use Rattle.far_events.specs.events.Mark.{is_sealed}
use Rattle.far_events.specs.events.Rule.{Form, Rule}
use Rattle.far_events.specs.events.Touch.{Part, NoPart, BookView}
use Rattle.far_events.specs.events.Changes.{Change}
use Rattle.far_events.specs.events.Changes as change

-- word at of a log is the header of a live span
abbrev pub is_live_at : State → ℕ → ℕ → Bool
is_live_at s l at = s.starts (l * LOG_WORDS + at) && names_place (read_of (s.cell (pointer_in (head_of (s.word (l * LOG_WORDS + at)))))) l at

-- none of the first n words of a log is the header of a live span
abbrev pub none_live : State → ℕ → ℕ → Bool
none_live s l zero = true
none_live s l (suc n) = none_live s l n && not (is_live_at s l n)

-- no pointer lies in the log, dropped or not
abbrev pub IsVacant : State → ℕ → Type 0
IsVacant s l = (p len ds : ℕ) (place : Place) (m : Marks) → read_of (s.cell p) ≡ Some (Near len ds place m) → place.log ≢ l

-- a job reads or writes the log
abbrev pub is_copied_at : ℕ → Option Job → Bool
is_copied_at l None = false
is_copied_at l (Some job) = (job.from.log == l) || (job.to.log == l)

-- none of the first n jobs does
abbrev pub none_copied : Copying → ℕ → ℕ → Bool
none_copied k l zero = true
none_copied k l (suc n) = none_copied k l n && not (is_copied_at l (job_at k.word n))

-- no job reads or writes the log
abbrev pub IsUncopied : Copying → ℕ → Type 0
IsUncopied k l = (j : ℕ) (job : Job) → job_at k.word j ≡ Some job → (job.from.log ≢ l) × (job.to.log ≢ l)

-- the log may be given back, where it is to be
abbrev pub may_free : State → ℕ → Bool → Bool
may_free s l false = true
may_free s l true = is_sealed (s.kind l) && none_live s l LOG_WORDS && none_copied s.copying l JOBS

abbrev pub MayFree : State → ℕ → Bool → Type 0
MayFree s l false = Unit {0}
MayFree s l true = (s.kind l ≡ Sealed) × IsVacant s l × IsUncopied s.copying l

-- the state with a log given back: it is free and has no spans; its words stay
abbrev pub with_free_log : State → ℕ → State
with_free_log s l = record s {
  kind = put s.kind l Free;
  tail = put s.tail l 0;
  starts = λ a. cond (a / LOG_WORDS == l) false (s.starts a);
  round = put s.round l false;
}

abbrev pub after_get : State → ℕ → Bool → State
after_get s l false = s
after_get s l true = with_free_log s l

-- a log is given back: it is free, empty and out of the round; all other logs stay, and all that isn't said of logs and spans
pub record Frees (s : State) (l : ℕ) (t : State) : Type 0 where
  pub free : (t.kind l ≡ Free) × (t.tail l ≡ 0) × (t.round l ≡ false)
  pub begins : (a : ℕ) → a / LOG_WORDS ≡ l → t.starts a ≡ false
  pub others : (k : ℕ) → k ≢ l → (t.kind k ≡ s.kind k) × (t.tail k ≡ s.tail k) × (t.round k ≡ s.round k)
  pub starts : (a : ℕ) → a / LOG_WORDS ≢ l → t.starts a ≡ s.starts a
  pub rest : t ≡ record s { kind = t.kind; tail = t.tail; starts = t.starts; round = t.round }

abbrev pub FreeReports : State → ℕ → Bool → State → Type 0
FreeReports s l false t = t ≡ s
FreeReports s l true t = Frees s l t

abbrev pub GetReports : State → ℕ → ℕ → Bool → Reply → State → Type 0
GetReports s l at free (Word w) t = (w ≡ s.word (l * LOG_WORDS + at)) × FreeReports s l free t
GetReports s l at free r t = ⊥

abbrev pub part_of : Bool → Part
part_of false = NoPart
part_of true = BookView

abbrev pub get_rule : State → ℕ → ℕ → Bool → Rule
get_rule s l at free = record {
  test = nat_lt l s.logs && nat_lt at LOG_WORDS && may_free s l free;
  after = after_get s l free;
  answer = Word (s.word (l * LOG_WORDS + at));
  Legal = (l < s.logs) × (at < LOG_WORDS) × MayFree s l free;
  Reports = GetReports s l at free;
  touches = record { word = None; part = part_of free };
}

abbrev pub get_change : ℕ → Bool → Reply → Option Change
get_change l false (Word x) = Some change.Stays
get_change l true (Word x) = Some (change.Releases l)
get_change l free r = None

abbrev pub get_form : ℕ → ℕ → Bool → Form
get_form l at free = record { Fits = Unit {0}; change = get_change l free }
