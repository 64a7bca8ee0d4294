-- A step of the evacuator leads on by legal events of the book, and leaves what owners have; what a refused one leaves.
use Rattle.std.proofs.Common.{◌≡◌, ℕ, ◌/◌, ◌<◌, ◌==◌, ◌&&◌, ◌||◌, Bool, true, false, not, cond, nat_lt, is_some, All, Option, Some, None, List, [], ◌∷◌, Result, Ok, Err, ap, sym, refl, ◌∙◌, subst, inl, inr}
use Rattle.std.specs.Prelude.{◌⊎◌, ◌↔◌}
use Rattle.std.proofs.lemmas.Bool.{cond_both, lt-ltb, ltb-true, not-false, or_left, or_right, true≢false}
use Rattle.std.proofs.lemmas.List.Elements.{All-head, All-tail}
use Rattle.far_word.specs.declared.mark.Marks.{Marks}
use Rattle.far_word.specs.declared.pointer.PtrWord.TheVariants.{Near, Far}
use Rattle.far_word.specs.declared.pointer.PtrWord.{PtrWord}
use Rattle.far_word.specs.declared.refused.Refused.TheVariants.{Phase as WrongPhase, EpochsSpent, StillOpen}
use Rattle.far_word.specs.declared.refused.Refused.{Refused as Refusal}
use Rattle.far_word.specs.declared.sizes.TheConstants.{CELLS}
use Rattle.far_word.specs.Pointer.{read_of}
use Rattle.far_events.specs.declared.event.Event.{Event}
use Rattle.far_events.specs.events.Naming.{is_dropped}
use Rattle.far_events.specs.events.Ranges.{AllLegal, after_events}
use Rattle.far_events.specs.events.Step.{Fits, step_of}
use Rattle.far_events.specs.state.Law.{Law}
use Rattle.far_events.specs.state.State.{State}
use Rattle.far_core.specs.world.World.{Object}
use Rattle.far_core.specs.world.WorldOf.{world_of}
use Rattle.far_events.proofs.Cells.{unused}
use Rattle.far_core.proofs.Keeps.{step_keeps as event_keeps}
use Rattle.far_core.proofs.Owing.{is_test}
use Rattle.far_core.proofs.Steps.{agrees}
use Rattle.far_book.specs.book.Reached.{IsOfBook, Reached}
use Rattle.far_evac.specs.Choosing.{is_spent}
use Rattle.far_evac.specs.declared.phase.Phase.TheVariants.{Marking, Waiting, Evacuating}
use Rattle.far_evac.specs.declared.phase.Phase.{Phase}
use Rattle.far_evac.specs.Leading.{Leads}
use Rattle.far_evac.specs.Moment.{Moment}
use Rattle.far_evac.specs.MomentLaw.{MomentLaw, is_idle}
use Rattle.far_evac.specs.Owned.{anywhere, KeepsObjects}
use Rattle.far_evac.specs.Turns.{IsRound}
use Rattle.far_evac.specs.Waiting.{after_polling, first_open, polled, polled_at, polled_to}
use Rattle.far_evac.proofs.KeptObjects.{objects_none}
use Rattle.far_evac.proofs.KeptTurns.{aborting_objects, marking_objects, polling_objects, selecting_objects, whole_objects}
use Rattle.far_evac.proofs.Leading.{aborting, polling, reached_none, selecting}
use Rattle.far_evac.proofs.LeadingMarks.{marking}
use Rattle.far_evac.proofs.LeadingTurns.{round_leads}
use Rattle.far_evac.proofs.LeadingWalks.{walking, walking_objects}
use Rattle.far_evac.proofs.Onward.{or_split}
use Rattle.far_text.specs.Command.{Choice, Command, Evacuator, Step, Select, Mark, Wait, Evacuate, Abort, Round}
use Rattle.std.specs.List.{AllByRecursion as Each}
use Rattle.far_alone.specs.Own.{bytes_in_world, own_of}
use Rattle.far_alone.specs.Between.{Between}
use Rattle.far_alone.specs.EventRows.{AllPass, AllSucceed}
use Rattle.far_replay.specs.Changes.{StayThrough}
use Rattle.far_replay.specs.Rounds.{after_round, choice_causes, chosen_by, given_by, is_evacuating, is_marking, is_waiting, logs_given, refused_step, round_told, rows_in, step_effect, wait_causes}
use Rattle.far_replay.specs.Stays.{CellStays, MayGain, Sees, Stays}
use Rattle.far_replay.specs.Turn.{effect, first_cause, refusal, refused_effect, turn_effect, unless}
use Rattle.far_alone.proofs.Leading.{legal_made}
use Rattle.far_replay.proofs.RoundChoices.{Chooses, choice_is, policy_chooses}
use Rattle.far_replay.proofs.ViewsRest.{ClosesLast, NoClose, fronts_stay, none_closes}

-- ---- causes
-- where none holds, the first doesn't
pub none_first : (holds : Bool) (why : Refusal) (causes : List (Bool × Refusal)) → first_cause ((holds, why) ∷ causes) ≡ None → (holds ≡ false) × (first_cause causes ≡ None)
none_first holds why causes = cond_both holds (Some why) (first_cause causes) (λ (o : Option Refusal). o ≡ None → (holds ≡ false) × (first_cause causes ≡ None)) (λ _ e. absurd cc) (λ no e. (no, e))

-- the first that holds, or one after it
pub some_first : (P : Type 0) (holds : Bool) (first why : Refusal) (causes : List (Bool × Refusal)) → (holds ≡ true → first ≡ why → P) → (holds ≡ false → first_cause causes ≡ Some why → P) →
    first_cause ((holds, first) ∷ causes) ≡ Some why → P
some_first P holds first why causes here later = cond_both holds (Some first) (first_cause causes) (λ (o : Option Refusal). o ≡ Some why → P) (λ yes e. let same : first ≡ why = cc in here yes same) (λ no e. later no e)

-- a step that isn't refused and one that is
module _ (P : Moment → Type 0) (now : Moment) (step : Step) (refused : (why : Refusal) → refusal now (Evacuator step) ≡ Some why → P (refused_step now step why)) (made : refusal now (Evacuator step) ≡ None → P (step_effect now step)) where
  by_refusal : (o : Option Refusal) → refusal now (Evacuator step) ≡ o → P (unless o (refused_effect now (Evacuator step)) (turn_effect now (Evacuator step)))
  by_refusal None e = made e
  by_refusal (Some why) e = refused why e

  pub by_outcome : P (effect now (Evacuator step))
  by_outcome = by_refusal (refusal now (Evacuator step)) refl

-- ---- phases
pub idle_is : (phase : Phase) → not (is_idle phase) ≡ false → is_idle phase ≡ true
idle_is phase h = not-false (is_idle phase) h

pub marking_is : (phase : Phase) → not (is_marking phase) ≡ false → phase ≡ Marking
marking_is Marking h = refl
marking_is _ h = absurd (true≢false h)

pub waiting_is : (phase : Phase) → not (is_waiting phase) ≡ false → phase ≡ Waiting
waiting_is Waiting h = refl
waiting_is _ h = absurd (true≢false h)

pub evacuating_is : (phase : Phase) → not (is_evacuating phase) ≡ false → phase ≡ Evacuating
evacuating_is Evacuating h = refl
evacuating_is _ h = absurd (true≢false h)

-- ---- what is true where a step isn't refused
-- no round is running, and a later epoch is left
pub record MayBegin (now : Moment) : Type 0 where
  pub idle : is_idle now.phase ≡ true
  pub left : is_spent now.core ≡ false

pub begins : (now : Moment) (causes : List (Bool × Refusal)) → first_cause ((not (is_idle now.phase), WrongPhase) ∷ (is_spent now.core, EpochsSpent) ∷ causes) ≡ None → MayBegin now × (first_cause causes ≡ None)
begins now causes e =
    let phase = none_first (not (is_idle now.phase)) WrongPhase ((is_spent now.core, EpochsSpent) ∷ causes) e in
    let epoch = none_first (is_spent now.core) EpochsSpent causes phase.1 in
    (record { idle = idle_is now.phase phase.0; left = epoch.0 }, epoch.1)

-- the choice gave logs
pub chooses : (now : Moment) (given : Result (List ℕ) Refusal) (choice : Choice) (most : ℕ) → MomentLaw now → given_by choice (rows_in now) most ≡ given → first_cause (choice_causes given) ≡ None → Chooses now (logs_given given)
chooses now (Ok logs) choice most moment is e = choice_is now choice most logs moment is
chooses now (Err why) choice most moment is e = absurd cc

-- a round of these logs
pub is_round : (now : Moment) (logs : List ℕ) (turns : ℕ) → IsRound now logs turns (round_told now logs turns) (after_round now logs turns)
is_round now [] turns = (refl, refl)
is_round now (l ∷ ls) turns = (refl, refl)

-- ---- what is true of a wait that is refused for an open scope
pub waits : (now : Moment) (mutator epoch : ℕ) → refusal now (Evacuator Wait) ≡ Some (StillOpen mutator epoch) → now.phase ≡ Waiting
waits now mutator epoch = some_first (now.phase ≡ Waiting) (not (is_waiting now.phase)) WrongPhase (StillOpen mutator epoch) (wait_causes (polled now.core)) (λ _ e. absurd cc) (λ no _. waiting_is now.phase no)

-- ---- each step leads on
module _ (now : Moment) (law : Law now.core) (moment : MomentLaw now) (alone : now.copying ≡ false) where
  leads_nowhere : Leads now now
  leads_nowhere = record { reached = reached_none now.core; law = law; moment = moment; copying = refl }

  wait_refused : (why : Refusal) → refusal now (Evacuator Wait) ≡ Some why → Leads now (refused_step now Wait why)
  wait_refused (StillOpen mutator epoch) e = polling now law moment (waits now mutator epoch e)
  wait_refused why e = leads_nowhere

  refused_leads : (step : Step) (why : Refusal) → refusal now (Evacuator step) ≡ Some why → Leads now (refused_step now step why)
  refused_leads Wait why e = wait_refused why e
  refused_leads _ why e = leads_nowhere

  pub made_leads : (step : Step) → refusal now (Evacuator step) ≡ None → Leads now (step_effect now step)
  made_leads (Select choice most) e =
      let given = given_by choice (rows_in now) most in
      let may = begins now (choice_causes given) e in
      let chosen = chooses now given choice most moment refl may.1 in
      selecting now (logs_given given) law moment may.0.idle may.0.left chosen.once chosen.of_order
  made_leads (Mark count) e = marking now count law moment (marking_is now.phase (none_first (not (is_marking now.phase)) WrongPhase [] e).0)
  made_leads Wait e = polling now law moment (waiting_is now.phase (none_first (not (is_waiting now.phase)) WrongPhase (wait_causes (polled now.core)) e).0)
  made_leads (Evacuate count) e = (walking now count law moment alone (evacuating_is now.phase (none_first (not (is_evacuating now.phase)) WrongPhase [] e).0)).answer
  made_leads Abort e = aborting now law moment
  made_leads (Round policy most turns) e =
      let logs = chosen_by policy (rows_in now) most in
      let may = begins now [] e in
      let chosen = policy_chooses now policy most moment in
      round_leads now logs turns (round_told now logs turns) (after_round now logs turns) law moment alone may.0.idle may.0.left chosen.once chosen.of_order (is_round now logs turns)

pub step_leads : (now : Moment) (step : Step) → Law now.core → MomentLaw now → now.copying ≡ false → Leads now (effect now (Evacuator step))
step_leads now step law moment alone = by_outcome (Leads now) now step (refused_leads now law moment alone step) (made_leads now law moment alone step)

-- ---- and leaves what owners have
module _ (now : Moment) (law : Law now.core) (moment : MomentLaw now) (alone : now.copying ≡ false) where
  abbrev Keeps : Moment → Type 0
  Keeps next = KeepsObjects now.core next.core

  wait_leaves : (why : Refusal) → Keeps (refused_step now Wait why)
  wait_leaves (StillOpen mutator epoch) = polling_objects now
  wait_leaves why = objects_none now.core

  refused_leaves : (step : Step) (why : Refusal) → Keeps (refused_step now step why)
  refused_leaves Wait why = wait_leaves why
  refused_leaves _ why = objects_none now.core

  pub made_leaves : (step : Step) → refusal now (Evacuator step) ≡ None → Keeps (step_effect now step)
  made_leaves (Select choice most) e = selecting_objects now (logs_given (given_by choice (rows_in now) most))
  made_leaves (Mark count) e = marking_objects now count law moment (marking_is now.phase (none_first (not (is_marking now.phase)) WrongPhase [] e).0)
  made_leaves Wait e = polling_objects now
  made_leaves (Evacuate count) e = (walking_objects now count law moment alone (evacuating_is now.phase (none_first (not (is_evacuating now.phase)) WrongPhase [] e).0)).answer
  made_leaves Abort e = aborting_objects now law moment
  made_leaves (Round policy most turns) e =
      let logs = chosen_by policy (rows_in now) most in
      let may = begins now [] e in
      let chosen = policy_chooses now policy most moment in
      whole_objects now logs turns (round_told now logs turns) (after_round now logs turns) law moment alone may.0.idle may.0.left chosen.once chosen.of_order (is_round now logs turns)

pub step_keeps : (now : Moment) (step : Step) → Law now.core → MomentLaw now → now.copying ≡ false → KeepsObjects now.core (effect now (Evacuator step)).core
step_keeps now step law moment alone = by_outcome (Keeps now law moment alone) now step (λ why _. refused_leaves now law moment alone step why) (made_leaves now law moment alone step)

-- ---- what is left as it was
zero_kept : (cell : ℕ) → cell ≡ 0 → is_dropped (read_of cell) ≡ false
zero_kept cell none = ap (λ w. is_dropped (read_of w)) none ∙ ap is_dropped unused

-- a pointer that is named then was named before
pub between_kept : (s t : State) → Between s → KeepsObjects s t → Between t
between_kept s t between kept = record {
  named = λ p here. ap (λ (used : ℕ → Bool). used p) kept.used ∙ between.named p (λ none. here ((kept.free p (zero_kept (s.cell p) none)).1 none));
}

bytes_anywhere : (o : Option Object) → bytes_in_world (anywhere o) ≡ bytes_in_world o
bytes_anywhere None = refl
bytes_anywhere (Some o) = refl

-- what a mutator knows of itself doesn't change
pub owned_same : (s t : State) (m : ℕ) → KeepsObjects s t → own_of (world_of t) m ≡ own_of (world_of s) m
unfolding world_of
owned_same s t m kept =
    let bytes = λ (p : ℕ). sym (bytes_anywhere ((world_of t).object p)) ∙ ap bytes_in_world (kept.object p) ∙ bytes_anywhere ((world_of s).object p) in
    λ i. record {
      opened = not (kept.scope i m == 0);
      object = λ p. cond (p / CELLS == m) (bytes p i) None;
      viewed = λ p. (p / CELLS == m) && is_some (kept.held i p);
    }

-- ---- what is reached by legal events of the book
each_of : (P : Event → Type 0) (es : List Event) → All P es → Each P es
each_of P [] h = tt
each_of P (e ∷ es) h = (All-head P e es h, each_of P es (All-tail P e es h))

no_close : (e : Event) → IsOfBook e → NoClose e
no_close e book m same = subst IsOfBook same book

no_closes : (es : List Event) → Each IsOfBook es → Each NoClose es
no_closes [] book = tt
no_closes (e ∷ es) book = (no_close e book.0, no_closes es book.1)

each_passes : (s : State) (es : List Event) → Law s → AllLegal s es → Each Fits es → AllPass s es
each_passes s [] law legal fits = tt
each_passes s (e ∷ es) law legal fits =
    let next = event_keeps s e law fits.0 in
    (is_test s e legal.0, record { step = refl; law = next; agrees = agrees (step_of s e).0 next }, each_passes (step_of s e).0 es next legal.1 fits.1)

-- events that carry a state on: each passes and succeeds, and logs in which views rest stay
pub record Carries (s t : State) : Type 0 where
  pub events : List Event
  pub of_book : All IsOfBook events
  pub ends : t ≡ after_events s events
  pub pass : AllPass s events
  pub succeed : AllSucceed s events
  pub stay : StayThrough s events

pub reached_reaches : (s t : State) → Law s → Reached s t → Carries s t
reached_reaches s t law way =
    let fits = each_of Fits way.made way.fits in
    let last = none_closes way.made (no_closes way.made (each_of IsOfBook way.made way.of_book)) in
    record {
      events = way.made;
      ends = way.leads;
      of_book = way.of_book;
      pass = each_passes s way.made law way.legal fits;
      succeed = legal_made s way.made way.legal;
      stay = λ es mid rest front p place. fronts_stay s es mid rest law (subst (Each Fits) (sym front) fits) (subst ClosesLast (sym front) last) p place;
    }

-- ---- what a refused step leaves
gains_none : (a : Marks) → MayGain a a
gains_none a = record { hot = λ h. h; moved = λ h. h; evac = refl; dropped = refl; dirty = refl }

-- who was seen clear, where nobody was looked at
pub same_clear : (b : Bool) (Seen : Type 0) → ¬ Seen → (b ≡ true) ↔ ((b ≡ true) ⊎ Seen)
same_clear b Seen blind = (
  inl,
  (λ h. elim h [ inl was ↦ was | inr now ↦ absurd (blind now) ]),
)

pub cell_same : (o : Option PtrWord) → CellStays o o
cell_same (Some (Near len ds place marks)) = (refl, refl, refl, gains_none marks)
cell_same (Some (Far len ds marks)) = (refl, refl, gains_none marks)
cell_same _ = tt

pub stays_same : (c : Command) (why : Refusal) (now : Moment) → ((m : ℕ) → ¬ Sees c why m) → Stays c why now now
stays_same c why now blind = record {
  objects = refl;
  cells = λ p. cell_same (read_of (now.core.cell p));
  unmarked = λ p other. refl;
  seen = λ _. refl;
  clear = λ m. same_clear (now.core.clear m) (Sees c why m) (blind m);
  rest = refl;
  round = (refl, refl, refl);
}

-- those below a number were seen clear
below_clear : (b : Bool) (m k n : ℕ) → k ≡ n → ((b || nat_lt m k) ≡ true) ↔ ((b ≡ true) ⊎ (m < n))
below_clear b m k n same = (
  (λ h. elim (or_split b (nat_lt m k) h) [ inl was ↦ inl was | inr lt ↦ inr (subst (λ x. m < x) same (ltb-true m k lt)) ]),
  (λ h. elim h [ inl was ↦ or_left b (nat_lt m k) was | inr lt ↦ or_right b (nat_lt m k) (lt-ltb m k (subst (λ x. m < x) (sym same) lt)) ]),
)

-- a wait that goes on has seen some
wait_stays : (now : Moment) (mutator epoch : ℕ) (o : Option ℕ) → first_cause (wait_causes (polled_at now.core o)) ≡ Some (StillOpen mutator epoch) → Stays (Evacuator Wait) (StillOpen mutator epoch) now (polled_to now o)
unfolding world_of
wait_stays now mutator epoch None = λ e. absurd cc
wait_stays now mutator epoch (Some k) = λ e. let same : k ≡ mutator = cc in record {
  objects = refl;
  cells = λ p. cell_same (read_of (now.core.cell p));
  unmarked = λ p other. refl;
  seen = λ blind. absurd (blind tt);
  clear = λ m. below_clear (now.core.clear m) m k mutator same;
  rest = refl;
  round = (refl, refl, refl);
}

refused_wait : (now : Moment) (why : Refusal) → refusal now (Evacuator Wait) ≡ Some why → Stays (Evacuator Wait) why now (refused_step now Wait why)
refused_wait now (StillOpen mutator epoch) =
    some_first (Stays (Evacuator Wait) (StillOpen mutator epoch) now (after_polling now)) (not (is_waiting now.phase)) WrongPhase (StillOpen mutator epoch) (wait_causes (polled now.core))
    (λ _ e. absurd cc) (λ _ e. wait_stays now mutator epoch (first_open now.core) e)
refused_wait now why = λ _. stays_same (Evacuator Wait) why now (λ m h. h)

pub step_stays : (now : Moment) (step : Step) (why : Refusal) → refusal now (Evacuator step) ≡ Some why → Stays (Evacuator step) why now (refused_step now step why)
step_stays now (Select choice most) why e = stays_same (Evacuator (Select choice most)) why now (λ m h. h)
step_stays now (Mark count) why e = stays_same (Evacuator (Mark count)) why now (λ m h. h)
step_stays now Wait why e = refused_wait now why e
step_stays now (Evacuate count) why e = stays_same (Evacuator (Evacuate count)) why now (λ m h. h)
step_stays now Abort why e = stays_same (Evacuator Abort) why now (λ m h. h)
step_stays now (Round policy most turns) why e = stays_same (Evacuator (Round policy most turns)) why now (λ m h. h)
