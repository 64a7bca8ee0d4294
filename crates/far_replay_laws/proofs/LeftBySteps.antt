-- What each step of the evacuator leaves of objects.
use Rattle.std.specs.Prelude.{Contains}
use Rattle.std.proofs.Common.{◌≡◌, ℕ, cond, ◌^◌, ◌<◌, true, false, not, Option, Some, None, List, [], ◌∷◌, ap, sym, refl, ◌∙◌, subst, inl, inr}
use Rattle.far_word.specs.declared.mark.Marks.{Marks}
use Rattle.far_word.specs.declared.refused.Refused.{Refused as Refusal}
use Rattle.far_word.specs.declared.refused.Refused.TheVariants.{Phase as WrongPhase, StillOpen}
use Rattle.far_word.specs.Pointer.{read_of}
use Rattle.far_events.specs.state.Law.{Law}
use Rattle.far_events.specs.state.State.{State}
use Rattle.far_core.specs.world.Steps.{with_home}
use Rattle.far_core.specs.world.World.{FarSide, Object}
use Rattle.far_core.specs.world.WorldOf.{world_of}
use Rattle.far_book.specs.book.Dealing.{has_evac}
use Rattle.far_evac.specs.Choosing.{after_aborting, after_selecting}
use Rattle.far_evac.specs.Live.{live_among}
use Rattle.far_evac.specs.Marking.{after_marking, newly_marked}
use Rattle.far_evac.specs.Moment.{Moment}
use Rattle.far_evac.specs.MomentLaw.{MomentLaw}
use Rattle.far_evac.specs.Owned.{anywhere}
use Rattle.far_evac.specs.Waiting.{first_open, polled_to}
use Rattle.far_evac.specs.Walk.{ended, walked}
use Rattle.far_evac.specs.declared.phase.Phase.TheVariants.{Evacuating, Idle}
use Rattle.far_evac.proofs.Marks.{is_given_up, is_marked}
use Rattle.far_text.specs.Command.{Command, On, Mutator, Book, Evacuator, By, Policy, Step, Select, Mark, Wait, Evacuate, Abort, Round}
use Rattle.far_replay.specs.Answers.{Commanded, Refuses, Served, Serves, StopsLeaving, StopsRound, IsMoment, Gives}
use Rattle.far_evac.specs.declared.answers.RoundEnd.TheVariants.{Limit}
use Rattle.far_replay.proofs.Outcomes.{by_outcome}
use Rattle.far_replay_laws.proofs.Stops.{begun, left_some, starts, stood_so}
use Rattle.far_replay_laws.specs.Left.{AllStayPut, CellBy, DealsWith, IsAnywhere, Leaves, LeavesRest, MarksBy, SomeStay, StaysMarked, StaysPut, StepLeaves}
use Rattle.far_reply.specs.Reply.{Reply, Done, Ended, Evacuated, Refused, Selected}
use Rattle.far_replay.specs.Rounds.{after_round, chosen_by, given_by, is_evacuating, logs_given, refused_step, rows_in, step_effect, step_reply}
use Rattle.far_replay_laws.specs.Steps.{IsChosen, LiesIn}
use Rattle.far_replay.specs.Turn.{effect, reply_to, refusal, refused_effect, turn_effect, turn_reply, unless}
use Rattle.far_replay_laws.proofs.CountedOnce.{all_at, among_in, in_among, member_or_apart}
use Rattle.far_replay.proofs.Lasting.{Lasts, after_step, moment_lasts}
use Rattle.far_replay_laws.proofs.LeftByWalks.{IsApart, apart_from, ended_put, framed_put, lay_there, marked_frame, marking_frame, marking_put, polling_put, put_more, put_none, turns_put}
use Rattle.far_replay_laws.proofs.Unreached.{EvacIs, Fate, cell_still, ended_fate, evac_alone, evac_object, fate_marked, has_stayed, marked_fate, marked_none, turns_fate}
use Rattle.far_replay.proofs.RoundLeads.{evacuating_is, made_leaves, none_first, step_keeps}
use Rattle.far_replay_laws.proofs.Standing.{stands}
use Rattle.far_replay_laws.proofs.StepsTell.{held_chosen}
use Rattle.far_replay_laws.proofs.MovesTaken.{chosen_held}
use Rattle.far_replay_laws.proofs.TurnsTell.{made_so}
use Rattle.far_replay.specs.Commanded.{Misled}
use Rattle.far_replay_laws.proofs.Misleading.{by_asked}

-- ---- each object is what it was
anywhere_is : (o x : Option Object) → anywhere x ≡ anywhere o → IsAnywhere o x
anywhere_is None None e = tt
anywhere_is (Some o) (Some x) e =
    let same : with_home x FarSide ≡ with_home o FarSide = cc in
    (ap (λ (y : Object). y.owner) same, ap (λ (y : Object). y.ds) same, ap (λ (y : Object). y.bytes) same)
anywhere_is _ _ e = absurd cc

objects_are : (now : Moment) (step : Step) → Law now.core → MomentLaw now → now.copying ≡ false → (p : ℕ) → IsAnywhere ((world_of now.core).object p) ((world_of (effect now (Evacuator step)).core).object p)
objects_are now step law moment alone p = anywhere_is ((world_of now.core).object p) ((world_of (effect now (Evacuator step)).core).object p) ((step_keeps now step law moment alone).object p)

-- ---- where no cell changes
still_put : (now : Moment) (step : Step) (r : Reply) (t : State) → ((a : Marks) → MarksBy step r a a) → t ≡ record now.core { clear = t.clear } → AllStayPut now.core step r t
still_put now step r t same is = subst (AllStayPut now.core step r) (sym is) record {
  cells = λ p. cell_still (MarksBy step r) same (read_of (now.core.cell p));
  objects = λ p. evac_object now.core (record now.core { clear = t.clear }) refl p refl;
  rest = refl;
}

clear_put : (s t : State) (q : ℕ) → t ≡ record s { clear = t.clear } → StaysPut s t q
clear_put s t q is = subst (λ (u : State). StaysPut s u q) (sym is) (framed_put s (record s { clear = t.clear }) q refl refl)

polled_still : (now : Moment) (o : Option ℕ) → (polled_to now o).core ≡ record now.core { clear = (polled_to now o).core.clear }
polled_still now None = refl
polled_still now (Some k) = refl

chosen_still : (now : Moment) (logs : List ℕ) → (after_selecting now logs).core ≡ record now.core { clear = (after_selecting now logs).core.clear }
chosen_still now [] = refl
chosen_still now (l ∷ ls) = refl

refused_wait : (now : Moment) (why : Refusal) → (refused_step now Wait why).core ≡ record now.core { clear = (refused_step now Wait why).core.clear }
refused_wait now (StillOpen mutator epoch) = polled_still now (first_open now.core)
refused_wait now why = refl

refused_still : (now : Moment) (step : Step) (why : Refusal) → (refused_step now step why).core ≡ record now.core { clear = (refused_step now step why).core.clear }
refused_still now Wait why = refused_wait now why
refused_still now _ why = refl

-- ---- a step that is refused
refused_rest : (now : Moment) (step : Step) (why : Refusal) → LeavesRest now step (Refused why) (refused_step now step why)
refused_rest now (Select choice most) why = still_put now (Select choice most) (Refused why) now.core (λ a. refl) refl
refused_rest now (Mark count) why = still_put now (Mark count) (Refused why) now.core (λ a. refl) refl
refused_rest now Wait why = still_put now Wait (Refused why) (refused_step now Wait why).core (λ a. refl) (refused_wait now why)
refused_rest now (Evacuate count) why = still_put now (Evacuate count) (Refused why) now.core (λ a. refl) refl
refused_rest now Abort why = still_put now Abort (Refused why) now.core (λ a. refl) refl
refused_rest now (Round policy most turns) why = still_put now (Round policy most turns) (Refused why) now.core (λ a. refl) refl

-- ---- a step that is made
module _ (now : Moment) (law : Law now.core) (moment : MomentLaw now) (alone : now.copying ≡ false) where
  fits : (p : ℕ) → now.core.cell p < 2 ^ 64
  fits p = (law.cells.cell_read p).0

  abbrev NotDealt : Step → ℕ → Type 0
  NotDealt step p = (l : ℕ) → DealsWith now step l → ¬ LiesIn now.core p l

  apart_if : (p : ℕ) → ((l : ℕ) → IsChosen now l → ¬ LiesIn now.core p l) → IsApart now.core now.collection p
  apart_if p none l c = none l (held_chosen now moment l (in_among l now.collection c))

  marks_rest : (count : ℕ) → AllStayPut now.core (Mark count) (step_reply now (Mark count)) (after_marking now count).core
  marks_rest count =
      let t : State = (after_marking now count).core in
      let is = is_marked now count fits in
      record {
        cells = λ p. elim (member_or_apart p (newly_marked now count)) [
          | inl c ↦ evac_alone true (read_of (now.core.cell p)) (read_of (t.cell p)) (all_at (λ q. has_evac (read_of (t.cell q)) ≡ true) p (newly_marked now count) is.now c) (is.same p)
          | inr apart ↦ subst (λ w. CellBy (EvacIs true) (read_of (now.core.cell p)) (read_of w)) (sym (is.others p apart)) (cell_still (EvacIs true) (λ a. inl refl) (read_of (now.core.cell p)))
        ];
        objects = λ p. evac_object now.core t (marking_frame now count) p (is.same p);
        rest = marking_frame now count;
      }

  abort_frame : (after_aborting now).core ≡ marked_frame now.core (after_aborting now).core
  abort_frame = let is = ap (λ (m : Moment). m.core) (is_given_up now fits).rest in is ∙ sym (ap (marked_frame now.core) is)

  abort_rest : AllStayPut now.core Abort Done (after_aborting now).core
  abort_rest =
      let t : State = (after_aborting now).core in
      let is = is_given_up now fits in
      let lived = live_among now.core now.collection in
      record {
        cells = λ p. elim (member_or_apart p lived) [
          | inl c ↦ evac_alone false (read_of (now.core.cell p)) (read_of (t.cell p)) (all_at (λ q. has_evac (read_of (t.cell q)) ≡ false) p lived is.bare c) (is.same p)
          | inr apart ↦ subst (λ w. CellBy (EvacIs false) (read_of (now.core.cell p)) (read_of w)) (sym (is.others p apart)) (cell_still (EvacIs false) (λ a. inl refl) (read_of (now.core.cell p)))
        ];
        objects = λ p. evac_object now.core t abort_frame p (is.same p);
        rest = abort_frame;
      }

  abort_put : (q : ℕ) → IsApart now.core now.collection q → StaysPut now.core (after_aborting now).core q
  abort_put q none = framed_put now.core (after_aborting now).core q abort_frame (elim (member_or_apart q (live_among now.core now.collection)) [
    | inl c ↦ absurd (apart_from now.core now.collection q q none c refl)
    | inr apart ↦ (is_given_up now fits).others q apart
  ])

  -- a round of logs that `select` would tell
  round_put : (policy : Policy) (most turns : ℕ) → refusal now (Evacuator (Round policy most turns)) ≡ None → (q : ℕ) → NotDealt (Round policy most turns) q →
      StaysPut now.core (after_round now (chosen_by policy (rows_in now) most) turns).core q
  round_put policy most turns may q none = by_logs (chosen_by policy (rows_in now) most) refl where
    by_logs : (logs : List ℕ) → chosen_by policy (rows_in now) most ≡ logs → StaysPut now.core (after_round now logs turns).core q
    by_logs [] e = put_none now.core q
    by_logs (l ∷ ls) e =
        let m : Moment = after_selecting now (l ∷ ls) in
        let tells : Served now (Evacuator (Select (By policy) most)) (Selected (l ∷ ls)) m =
        subst (λ (xs : List ℕ). Served now (Evacuator (Select (By policy) most)) (Selected xs) (after_selecting now xs)) e (made_so now (Select (By policy) most) may) in
        let apart : IsApart m.core m.collection q = λ k c. none k (l ∷ ls, m, tells, c) in
        (turns_put m q law (starts now law moment alone policy most turns may (l ∷ ls) e).moment alone refl apart turns).put_there

  -- what lies where it lay
  round_marked : (policy : Policy) (most turns : ℕ) → refusal now (Evacuator (Round policy most turns)) ≡ None → (q l : ℕ) → LiesIn now.core q l →
      LiesIn (after_round now (chosen_by policy (rows_in now) most) turns).core q l → StaysMarked now.core (after_round now (chosen_by policy (rows_in now) most) turns).core q
  round_marked policy most turns may q l was = by_logs (chosen_by policy (rows_in now) most) refl where
    by_logs : (logs : List ℕ) → chosen_by policy (rows_in now) most ≡ logs → LiesIn (after_round now logs turns).core q l → StaysMarked now.core (after_round now logs turns).core q
    by_logs [] e is = marked_none now.core q
    by_logs (k ∷ ks) e is =
        let m : Moment = after_selecting now (k ∷ ks) in
        let t : Moment = after_round now (k ∷ ks) turns in
        has_stayed StaysMarked m.core m.collection q t.core t.collection (turns_fate m q law (starts now law moment alone policy most turns may (k ∷ ks) e).moment alone refl turns) l was is

  some_stay : (Stays : State → State → ℕ → Type 0) (step : Step) → ((p l : ℕ) → LiesIn now.core p l → LiesIn (step_effect now step).core p l → Stays now.core (step_effect now step).core p) →
      refusal now (Evacuator step) ≡ None → SomeStay Stays now.core (step_effect now step).core
  some_stay Stays step unreached e =
      let kept = made_leaves now law moment alone step e in
      record { unreached = unreached; used = kept.used; held = kept.held; scope = kept.scope; remembered = kept.remembered }

  made_rest : (step : Step) → refusal now (Evacuator step) ≡ None → LeavesRest now step (step_reply now step) (step_effect now step)
  made_rest (Select choice most) e =
      let logs = logs_given (given_by choice (rows_in now) most) in
      still_put now (Select choice most) (step_reply now (Select choice most)) (after_selecting now logs).core (λ a. refl) (chosen_still now logs)
  made_rest (Mark count) e = marks_rest count
  made_rest Wait e = still_put now Wait (step_reply now Wait) (polled_to now (first_open now.core)).core (λ a. refl) (polled_still now (first_open now.core))
  made_rest (Evacuate count) e =
      let leaves : now.phase ≡ Evacuating = evacuating_is now.phase (none_first (not (is_evacuating now.phase)) WrongPhase [] e).0 in
      let t : Moment = ended (walked now count) in
      some_stay StaysPut (Evacuate count) (λ p l was is. has_stayed StaysPut now.core now.collection p t.core t.collection (ended_fate now law moment alone leaves p count) l was is) e
  made_rest Abort e = abort_rest
  made_rest (Round policy most turns) e = some_stay StaysMarked (Round policy most turns) (λ p l was is. round_marked policy most turns e p l was is) e

  made_others : (step : Step) → refusal now (Evacuator step) ≡ None → (q : ℕ) → NotDealt step q → StaysPut now.core (step_effect now step).core q
  made_others (Select choice most) e q none = let logs = logs_given (given_by choice (rows_in now) most) in clear_put now.core (after_selecting now logs).core q (chosen_still now logs)
  made_others (Mark count) e q none = (marking_put now count q law (apart_if q none)).put_there
  made_others Wait e q none = (polling_put now q).put_there
  made_others (Evacuate count) e q none =
      let leaves : now.phase ≡ Evacuating = evacuating_is now.phase (none_first (not (is_evacuating now.phase)) WrongPhase [] e).0 in
      (ended_put now law moment alone leaves q (apart_if q none) count).put_there
  made_others Abort e q none = abort_put q (apart_if q none)
  made_others (Round policy most turns) e q none = round_put policy most turns e q none

  -- ---- either
  rest_by : (step : Step) (o : Option Refusal) → refusal now (Evacuator step) ≡ o → LeavesRest now step (unless o Refused (turn_reply now (Evacuator step))) (unless o (refused_effect now (Evacuator step)) (turn_effect now (Evacuator step)))
  rest_by step None e = made_rest step e
  rest_by step (Some why) e = refused_rest now step why

  others_by : (step : Step) (o : Option Refusal) → refusal now (Evacuator step) ≡ o → (q : ℕ) → NotDealt step q → StaysPut now.core (unless o (refused_effect now (Evacuator step)) (turn_effect now (Evacuator step))).core q
  others_by step None e q none = made_others step e q none
  others_by step (Some why) e q none = clear_put now.core (refused_step now step why).core q (refused_still now step why)

  step_leaves : (step : Step) → StepLeaves now step (reply_to now (Evacuator step)) (effect now (Evacuator step))
  step_leaves step = record {
    objects = objects_are now step law moment alone;
    others = others_by step (refusal now (Evacuator step)) refl;
    rest = rest_by step (refusal now (Evacuator step)) refl;
  }

-- ---- each step
served_left : (now : Moment) (step : Step) (r : Reply) (next : Moment) → Lasts now → Served now (Evacuator step) r next → StepLeaves now step r next
served_left now step r next lasts h =
    subst (λ (x : Moment). StepLeaves now step r x) (sym h.moment) (subst (λ (x : Reply). StepLeaves now step x (effect now (Evacuator step))) (sym h.reply) (step_leaves now lasts.law lasts.round lasts.alone step))

-- ---- one that the device stops
anywhere_more : (o x y : Option Object) → IsAnywhere o x → IsAnywhere x y → IsAnywhere o y
anywhere_more None None None h k = tt
anywhere_more None (Some x) y h k = absurd h
anywhere_more (Some o) None y h k = absurd h
anywhere_more (Some o) (Some x) (Some y) h k = (k.0 ∙ h.0, k.1 ∙ h.1, k.2 ∙ h.2)
anywhere_more _ _ _ h k = absurd k

stop_left : (now : Moment) (why : Refusal) (objects count : ℕ) (r : Reply) (next : Moment) → Lasts now → StopsLeaving why objects now count r next → StepLeaves now (Evacuate count) r next
stop_left now why objects count r next lasts h =
    let x = served_left now (Evacuate objects) (Evacuated h.progress) next lasts h.left in
    subst (λ y. StepLeaves now (Evacuate count) y next) (sym h.reply) record { objects = x.objects; others = x.others; rest = x.rest }

round_left : (now : Moment) (why : Refusal) (turns objects : ℕ) (policy : Policy) (most count : ℕ) (r : Reply) (next : Moment) → Lasts now → (h : StopsRound why turns objects now policy most count r next) → Lasts h.stood →
    StepLeaves now (Round policy most count) r next
round_left now why turns objects policy most count r next lasts h later =
    let stood = stood_so now policy most turns h.stood h.turned in
    let left = left_some h.stood objects h.progress next h.left h.unfinished in
    let logs = stood.log ∷ stood.logs in
    let m : Moment = after_selecting now logs in
    let started = begun now lasts.law lasts.round lasts.alone policy most turns h.stood stood in
    let x = served_left now (Round policy most turns) (Ended (Limit Evacuating)) h.stood lasts h.turned in
    let y = served_left h.stood (Evacuate objects) (Evacuated h.progress) next later h.left in
    let tells : Served now (Evacuator (Select (By policy) most)) (Selected logs) m =
    subst (λ (xs : List ℕ). Served now (Evacuator (Select (By policy) most)) (Selected xs) (after_selecting now xs)) stood.chosen (made_so now (Select (By policy) most) stood.may) in
    let fate = λ (q : ℕ). subst (λ (z : Moment). Fate StaysMarked m.core m.collection q z.core z.collection) (sym stood.stands) (turns_fate m q started.law started.moment (started.copying ∙ lasts.alone) refl turns) in
    let ends : ended (walked h.stood objects) ≡ next = ap (λ b. cond b (record (walked h.stood objects).moment { phase = Idle }) (walked h.stood objects).moment) left.goes ∙ sym left.stands in
    let last = λ (q : ℕ). subst (λ (z : Moment). Fate StaysPut h.stood.core h.stood.collection q z.core z.collection) ends (ended_fate h.stood later.law later.round later.alone left.leaves q objects) in
    subst (λ z. StepLeaves now (Round policy most count) z next) (sym h.reply) record {
      objects = λ p. anywhere_more ((world_of now.core).object p) ((world_of h.stood.core).object p) ((world_of next.core).object p) (x.objects p) (y.objects p);
      others = λ p none.
          let first : StaysPut now.core h.stood.core p = x.others p none in
          put_more now.core h.stood.core next.core p first
          (y.others p (λ l chosen lies. none l (logs, m, tells, (fate p).fewer l (in_held h.stood l chosen)) (lay_there now.core h.stood.core p l first.cell lies)));
      rest = record {
        unreached = λ p l was is. has_stayed StaysMarked m.core m.collection p next.core next.collection
            (marked_fate m.core h.stood.core next.core m.collection h.stood.collection next.collection p (fate p) (fate_marked h.stood.core next.core h.stood.collection next.collection p (last p))) l was is;
        used = y.rest.used ∙ x.rest.used;
        held = y.rest.held ∙ x.rest.held;
        scope = y.rest.scope ∙ x.rest.scope;
        remembered = y.rest.remembered ∙ x.rest.remembered;
      };
    }
  where
    in_held : (s : Moment) (l : ℕ) → IsChosen s l → Contains s.collection l
    in_held s l chosen = among_in l s.collection (chosen_held s l chosen)

served_so : (now : Moment) (c : Command) (r : Reply) (next : Moment) → Lasts now → Served now c r next → Leaves now c r next
served_so now (Mutator m request) r next lasts h = stands now (Mutator m request) r next lasts (Serves, h)
served_so now (Book inquiry) r next lasts h = stands now (Book inquiry) r next lasts (Serves, h)
served_so now (Evacuator step) r next lasts h = served_left now step r next lasts h

pub left_so : (now : Moment) (c : Command) (r : Reply) (next : Moment) → Lasts now → Commanded now c r next → Leaves now c r next
left_so now c r next lasts h = by_outcome now r next (λ d. Leaves now d r next)
    (λ d h. served_so now d r next lasts h)
    (λ why m p how h. stands now (Mutator m (On p how)) r next lasts (Refuses why 0 0, h))
    (λ why objects count h. stop_left now why objects count r next lasts h)
    (λ why turns objects policy most count h. round_left now why turns objects policy most count r next lasts h (after_step now (Round policy most turns) (Ended (Limit Evacuating)) h.stood lasts h.turned))
    (λ row m p d asks h. by_asked m p (λ x. Misled row now x p r next → Leaves now x r next)
    (λ how k. stands now (Mutator m (On p how)) r next lasts (Gives row false, k)) d asks h)
    c h

pub steps_left : (now : Moment) (step : Step) (r : Reply) (next : Moment) → IsMoment now → Commanded now (Evacuator step) r next → StepLeaves now step r next
steps_left now step r next is h = left_so now (Evacuator step) r next (moment_lasts now is) h
