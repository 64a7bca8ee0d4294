-- That a call of a hand is an event made, after a turn of the owners.
use Rattle.std.proofs.Common.{◌≡◌, ◌∙◌, ℕ, ◌+◌, ◌*◌, Bool, true, false, ap, sym, subst, arith}
use Rattle.std.specs.Prelude.{if◌then◌else◌}
use Rattle.std.specs.Vec.{vec_len}
use Rattle.std.proofs.lemmas.Bool.{false_from_ne_true}
use Rattle.far_word.specs.declared.sizes.TheConstants.{CELLS, EPOCH_END, LOG_WORDS}
use Rattle.far_events.specs.declared.event.Event.{Event}
use Rattle.far_events.specs.declared.event.Event.TheVariants.{Advance}
use Rattle.far_events.specs.declared.event.Reply.{Reply}
use Rattle.far_events.specs.declared.event.Reply.TheVariants.{Refused}
use Rattle.far_events.specs.events.Advance.{MayAdvance}
use Rattle.far_events.specs.events.Legal.{Legal}
use Rattle.far_events.specs.events.Step.{after, answer, is_legal}
use Rattle.far_core.specs.state.CoreState.{core_state}
use Rattle.far_events.specs.state.Law.{Law}
use Rattle.far_events.specs.state.State.{State, put}
use Rattle.far_core.proofs.Owing.{is_fact, is_test}
use Rattle.far_hand.specs.declared.beset.Beset.{Beset}
use Rattle.far_hand.specs.BesetView.{TurnThen, beset_may_be, beset_view, core_may_be, next_event, passed, turned}
use Rattle.far_hand.specs.Known.{Forgets}
use Rattle.far_hand.specs.Masked.{masked, word_at, is_counted, AllFind, AllFindJobs, CountsOnRest}
use Rattle.far_hand.specs.MayBe.{Made, Shows}
use Rattle.far_hand.specs.Others.{OthersChange}
use Rattle.far_hand.proofs.Counting.{counts_none}
use Rattle.far_hand.proofs.JobsFound.{jobs_put, jobs_set}

abbrev with_answer : State → Reply → State × Reply
with_answer s r = (s, r)

abbrev by_test : State → State → Reply → Bool → State × Reply
by_test s t r b = if b then (t, r) else (s, Refused)

-- a legal event that is made with its answer is a step
pub legal_made : (s t : State) (e : Event) (r : Reply) → Legal s e → t ≡ after s e → answer s e ≡ r → Made s e r t
legal_made s t e r legal state told =
    ap (λ (u : State). with_answer u r) state ∙ (ap (with_answer (after s e)) (sym told) ∙ sym (ap (by_test s (after s e) (answer s e)) (is_test s e legal)))

-- no round begins in the last epoch
never : (s : State) (logs : ℕ) → Law s → s.epoch + 1 ≡ EPOCH_END → is_legal s (Advance logs) ≡ true → ⊥
never s logs law last h = let legal : MayAdvance s logs = is_fact s (Advance logs) law h in let below = legal.below in omega (arith, below, last)

pub spent_made : (s t : State) (logs : ℕ) → Law s → t ≡ s → s.epoch + 1 ≡ EPOCH_END → Made s (Advance logs) Refused t
spent_made s t logs law same last =
    ap (λ (u : State). with_answer u Refused) same
    ∙ sym (ap (by_test s (after s (Advance logs)) (answer s (Advance logs))) (false_from_ne_true (is_legal s (Advance logs)) (never s logs law last)))

-- ---- over a beset hand
-- after the owners' turn the core is as it might have been before the call
pub turn_may_be : (hand later : Beset) → beset_view later ≡ beset_view hand → core_state later.core ≡ turned hand → OthersChange (core_state hand.core) (core_state later.core) →
    beset_may_be hand (turned hand)
turn_may_be hand later view made change =
    let may : beset_may_be hand (core_state later.core) = record {
      law = later.core.law;
      change = change;
      shown = subst (λ (o : State). Shows o (core_state later.core)) view (core_may_be later).shown;
    } in
    subst (beset_may_be hand) made may

pub turned_made : (hand later : Beset) (e : Event) (r : Reply) (t : State) → core_state later.core ≡ turned hand → Legal (core_state later.core) e → t ≡ after (core_state later.core) e →
    answer (core_state later.core) e ≡ r → Made (turned hand) e r t
turned_made hand later e r t made legal state told = subst (λ (s : State). Made s e r t) made (legal_made (core_state later.core) t e r legal state told)

-- a call that makes its event after the turn, where it is legal in the core
pub turn_then : (before hand : Beset) (e : Event) (r : Reply) {later : Beset} → beset_view hand ≡ beset_view before → core_state hand.core ≡ turned before →
    OthersChange (core_state before.core) (core_state hand.core) → hand.events ≡ before.events → hand.made ≡ passed (next_event before) before.made →
    Legal (core_state hand.core) e → core_state later.core ≡ after (core_state hand.core) e → answer (core_state hand.core) e ≡ r →
    later.events ≡ hand.events → later.made ≡ hand.made → TurnThen before e r later
turn_then before hand e r {later} view made change events next legal state told list past = record {
  turn = turn_may_be before hand view made change;
  call = turned_made before hand e r (core_state later.core) made legal state told;
  list = list ∙ events;
  past = past ∙ next;
}

-- what a call tells that may forget words: the view is the event's but for them
pub record ForgetsTo (o : State) (e : Event) (v : State) : Type 0 where
  pub kept : v ≡ record (after o e) { word = v.word }
  pub forgot : Forgets o v

-- by what the core and the rows are then
pub rows_forget : (o : State) (e : Event) (t t' : State) (found found' : ℕ → ℕ) (counted counted' : ℕ → Bool) (jobs jobs' : ℕ → ℕ) → t ≡ t' → found ≡ found' → counted ≡ counted' → jobs ≡ jobs' →
    ForgetsTo o e (masked t' found' counted' jobs') → ForgetsTo o e (masked t found counted jobs)
rows_forget o e t t' found found' counted counted' jobs jobs' is cells none set = subst (ForgetsTo o e) (sym (λ i. masked (is i) (cells i) (none i) (set i)))

-- ---- the rows of a beset hand
-- nothing is counted on any more
pub none_rest : (t : State) (found : ℕ → ℕ) (counted : ℕ → Bool) → counted ≡ (λ _. false) → CountsOnRest t found counted
none_rest t found counted none = subst (λ (k : ℕ → Bool). CountsOnRest t found k) (sym none) (counts_none t found)

-- what is so of rows of so many cells and words, with these words found in cells and of jobs and these words counted on, over a core of this state
abbrev pub Rows : State → ℕ → ℕ → (ℕ → ℕ) → (ℕ → ℕ) → (ℕ → Bool) → Type 0
Rows s cells words found jobs counted = record {
  found_sized : cells ≡ CELLS * s.mutators;
  counted_sized : words ≡ LOG_WORDS * s.logs;
  finds : AllFind found s.cell;
  finds_jobs : AllFindJobs jobs s.copying.word;
  counts : CountsOnRest s found counted;
}

module _ (hand : Beset) (t : State) (j w : ℕ) (jobs : ℕ → ℕ) (set : jobs ≡ put (word_at hand.jobs) j w) where
  abbrev s : State
  s = core_state hand.core

  abbrev found : ℕ → ℕ
  found = word_at hand.found.items

  -- the word of a job was found, and nothing else
  pub job_seen_rows : t ≡ s → s.copying.word j ≡ w → Rows t (vec_len hand.found) (vec_len hand.counted) found jobs (is_counted hand.counted.items)
  job_seen_rows is here = subst (λ (u : State). Rows u (vec_len hand.found) (vec_len hand.counted) found jobs (is_counted hand.counted.items)) (sym is) (record {
    found_sized = hand.found_sized;
    counted_sized = hand.counted_sized;
    finds = hand.finds;
    finds_jobs = subst (λ (f : ℕ → ℕ). AllFindJobs f s.copying.word) (sym set) (jobs_put (word_at hand.jobs) s.copying.word j w hand.finds_jobs here);
    counts = hand.counts;
  })

  -- a word was written for a job, in a core that keeps its cells
  pub job_set_rows : (next : State) (words : ℕ) (counted : ℕ → Bool) → t ≡ next → next.mutators ≡ s.mutators → next.logs ≡ s.logs → next.cell ≡ s.cell →
      next.copying.word ≡ put s.copying.word j w → words ≡ vec_len hand.counted → CountsOnRest t found counted → Rows t (vec_len hand.found) words found jobs counted
  job_set_rows next words counted is mutators logs cell word len counts = record {
    found_sized = hand.found_sized ∙ ap (λ n. CELLS * n) (sym mutators ∙ ap (λ (u : State). u.mutators) (sym is));
    counted_sized = len ∙ (hand.counted_sized ∙ ap (λ n. LOG_WORDS * n) (sym logs ∙ ap (λ (u : State). u.logs) (sym is)));
    finds = subst (AllFind found) (sym cell ∙ ap (λ (u : State). u.cell) (sym is)) hand.finds;
    finds_jobs = subst (λ (f : ℕ → ℕ). AllFindJobs f t.copying.word) (sym set)
        (subst (AllFindJobs (put (word_at hand.jobs) j w)) (sym word ∙ ap (λ (u : State). u.copying.word) (sym is)) (jobs_set (word_at hand.jobs) s.copying.word j w hand.finds_jobs));
    counts = counts;
  }
