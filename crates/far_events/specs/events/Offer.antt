-- The book offers a job: a span is taken for the copy of an object that is quiet in the round.
use Rattle.std.specs.Prelude.{◌≡◌, ◌≢◌, ◌+◌, ◌-◌, ◌*◌, ◌/◌, ◌<◌, ◌≤◌, ◌==◌, ◌&&◌, ℕ, Bool, true, false, nat_lt, nat_le, Option, Some, None}
use Rattle.far_word.specs.declared.job.Job.{Job}
use Rattle.far_word.specs.declared.job.JobWord.TheVariants.{Offered}
use Rattle.far_word.specs.declared.mark.Marks.{Marks}
use Rattle.far_word.specs.declared.pointer.Place.{Place}
use Rattle.far_word.specs.declared.pointer.PtrWord.{PtrWord}
use Rattle.far_word.specs.declared.pointer.PtrWord.TheVariants.{Free, Near, Far}
use Rattle.far_word.specs.declared.sizes.TheConstants.{CELLS, JOBS, LOG_WORDS}
use Rattle.far_word.specs.Job.{job_of, job_word}
use Rattle.far_word.specs.Pointer.{read_of}
use Rattle.far_word.specs.Sizes.{size_of, words_for}
use Rattle.far_events.specs.declared.event.Reply.{Reply}
use Rattle.far_events.specs.declared.event.Reply.TheVariants.{Done}
use Rattle.far_events.specs.state.State.{Copying, State, put}
use Rattle.far_events.specs.events.Changes.{Change}
use Rattle.far_events.specs.events.Changes as change
use Rattle.far_events.specs.events.Copies.{data_at}
use Rattle.far_events.specs.events.NewSpans.{IsNewSpan, is_new_span, with_begun, Takes}
use Rattle.far_events.specs.events.Touch.{JobAt, BookView}
use Rattle.far_events.specs.events.Rule.{Rule, Form}

-- the object lies at a place with EVAC, in a log of the round, and its owner was seen clear in it, dropped or not; a header for it and a last
-- data word of 0 are written where the next span of a log may stand, and that span ends within its log
pub record MayOffer (s : State) (p len ds : ℕ) (from to : Place) (m : Marks) : Type 0 where
  pub near : read_of (s.cell p) ≡ Some (Near len ds from m)
  pub marked : m.evac ≡ true
  pub chosen : s.round from.log ≡ true
  pub seen : s.clear (p / CELLS) ≡ true
  pub fits : to.at + size_of len ≤ LOG_WORDS
  pub span : IsNewSpan s p len ds to
  pub ends : data_at s.word to (words_for len - 1) ≡ 0

-- the same as tests
abbrev pub is_within : State → ℕ → Place → Bool
is_within s len to = nat_lt to.log s.logs && nat_le (to.at + size_of len) LOG_WORDS

abbrev pub ends_blank : State → ℕ → Place → Bool
ends_blank s len to = data_at s.word to (words_for len - 1) == 0

abbrev pub is_clear_near : State → ℕ → Place → Marks → Bool
is_clear_near s p from m = m.evac && s.round from.log && s.clear (p / CELLS)

abbrev pub takes_copy : State → ℕ → ℕ → ℕ → Place → Bool
takes_copy s p len ds to = is_within s len to && is_new_span s p len ds to && ends_blank s len to

abbrev pub may_offer : State → ℕ → Place → Option PtrWord → Bool
may_offer s p to None = false
may_offer s p to (Some Free) = false
may_offer s p to (Some (Near len ds from m)) = is_clear_near s p from m && takes_copy s p len ds to
may_offer s p to (Some (Far len ds m)) = false

-- a job is offered in the round of this epoch, and its pointer isn't named to its target
abbrev pub with_job : Copying → ℕ → ℕ → Job → Copying
with_job k j epoch job = record k { word = put k.word j (job_word (Offered job)); since = put k.since j epoch; named = put k.named j false }

abbrev pub offered : State → ℕ → ℕ → Job → State
offered s j len job = record (with_begun s len job.to) { copying = with_job s.copying j s.round_epoch job }

abbrev pub after_offer : State → ℕ → ℕ → Place → Option PtrWord → State
after_offer s j p to None = s
after_offer s j p to (Some Free) = s
after_offer s j p to (Some (Near len ds from m)) = offered s j len (record { pointer = p; from = from; to = to })
after_offer s j p to (Some (Far len ds m)) = s

-- the word offers the job, in this round, and its pointer isn't named to its target; all other jobs stay; the span is taken
pub record Offers (s : State) (j len : ℕ) (job : Job) (t : State) : Type 0 where
  pub says : job_of (t.copying.word j) ≡ Some (Offered job)
  pub since : t.copying.since j ≡ s.epoch
  pub unnamed : t.copying.named j ≡ false
  pub others : (i : ℕ) → i ≢ j → (t.copying.word i ≡ s.copying.word i) × (t.copying.since i ≡ s.copying.since i) × (t.copying.named i ≡ s.copying.named i)
  pub takes : Takes s len job.to t

abbrev pub OfferReports : State → ℕ → ℕ → Place → Reply → State → Type 0
OfferReports s j p to Done t = (len ds : ℕ) (from : Place) (m : Marks) → read_of (s.cell p) ≡ Some (Near len ds from m) → Offers s j len (record { pointer = p; from = from; to = to }) t
OfferReports s j p to r t = ⊥

abbrev pub offer_rule : State → ℕ → ℕ → Place → Rule
offer_rule s j p to = record {
  test = nat_lt j JOBS && nat_lt p (CELLS * s.mutators) && (s.copying.word j == 0) && may_offer s p to (read_of (s.cell p));
  after = after_offer s j p to (read_of (s.cell p));
  answer = Done;
  Legal = (j < JOBS) × (p < CELLS * s.mutators) × (s.copying.word j ≡ 0) × ((len ds : ℕ) × (from : Place) × (m : Marks) × MayOffer s p len ds from to m);
  Reports = OfferReports s j p to;
  touches = record { word = Some (JobAt j); part = BookView };
}

abbrev pub offer_change : Place → Reply → Option Change
offer_change to Done = Some (change.Holds to.log)
offer_change to r = None

abbrev pub offer_form : Place → Form
offer_form to = record { Fits = Unit {0}; change = offer_change to }
