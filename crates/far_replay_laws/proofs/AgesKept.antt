-- The sealed logs keep their order from one moment to the next.
use Rattle.std.proofs.Common.{◌≡◌, ℕ, ◌==◌, ◌||◌, Bool, true, false, not, cond, eqb, Option, Some, None, List, [], ◌∷◌, ◌++◌, filter, append_assoc, ap, sym, refl, ◌∙◌, subst, inl, inr}
use Rattle.std.proofs.lemmas.Bool.{cond_both, eq-eqb, eqb-true, false≢true}
use Rattle.std.proofs.lemmas.List.Elements.{filter-append}
use Rattle.far_word.specs.declared.refused.Refused.{Refused as Refusal}
use Rattle.far_events.specs.state.Law.{Law}
use Rattle.far_events.specs.state.State.{State}
use Rattle.far_word.specs.Pointer.{read_of}
use Rattle.far_book.specs.book.Releasing.{order_without}
use Rattle.far_evac.specs.Choosing.{after_selecting}
use Rattle.far_evac.specs.Marking.{after_marking, leaves_some, marked_core}
use Rattle.far_evac.specs.Moment.{Moment}
use Rattle.far_evac.specs.MomentLaw.{MomentLaw, is_idle}
use Rattle.far_evac.specs.RoundSteps.{advanced, among}
use Rattle.far_evac.specs.Turns.{turns_made}
use Rattle.far_evac.specs.Waiting.{after_polling, first_open, polled_to}
use Rattle.far_evac.specs.Walk.{Way, Moves, ended, walked, way_of}
use Rattle.far_evac.specs.declared.phase.Phase.TheVariants.{Waiting}
use Rattle.far_evac.proofs.Bools.{or_left, or_right}
use Rattle.far_evac.proofs.Marks.{marking_frame}
use Rattle.far_evac.proofs.Onward.{or_split}
use Rattle.far_text.specs.Command.{Command, Mutator, Book, Evacuator, By, Policy, Step, Select, Mark, Wait, Evacuate, Abort, Round}
use Rattle.far_replay_laws.specs.Ages.{KeepsAges, MayGiveBack}
use Rattle.far_replay.specs.Answers.{Commanded, Served, IsMoment}
use Rattle.far_evac.specs.declared.answers.Progress.{Progress}
use Rattle.far_replay.proofs.Outcomes.{by_outcome}
use Rattle.far_replay_laws.proofs.Stops.{LeftSome, Stood, begun, left_some, starts, stood_so}
use Rattle.far_replay.specs.Events.{IsNoStep}
use Rattle.far_replay.specs.Moment.{with_core, as_if_stored}
use Rattle.far_reply.specs.Reply.{Reply, Evacuated}
use Rattle.far_replay.specs.Rounds.{after_round, chosen_by, given_by, logs_given, refused_step, rows_in, step_effect}
use Rattle.far_replay_laws.specs.Steps.{Takes}
use Rattle.far_replay.specs.Turn.{effect, refusal, refused_effect, turn_effect, unless}
use Rattle.far_replay_laws.proofs.CountedOnce.{among_in}
use Rattle.far_replay.proofs.Lasting.{Lasts, moment_lasts, misled_from}
use Rattle.far_replay.proofs.RoundLeads.{step_stays}
use Rattle.far_replay_laws.proofs.StepsTell.{held_chosen, policy_takes}
use Rattle.far_replay.proofs.ToldRounds.{told_effect}
use Rattle.far_evac.specs.Leaving.{order_by}
use Rattle.far_evac.proofs.SmallSteps.{walked_kept}
use Rattle.far_evac.proofs.TurnSteps.{KeepsTurns, ended_kept, turns_kept_exactly}
use Rattle.far_replay.specs.Commanded.{AsksFor, Misled}
use Rattle.far_replay_laws.proofs.Misleading.{as_misled}

-- ---- from one order to another
-- but for some of these logs, those of the first come first, as they stood
record Ages (logs a b : List ℕ) : Type 0 where
  gone : ℕ → Bool
  since : List ℕ
  order : b ≡ filter (λ l. not (gone l)) a ++ since
  given : (l : ℕ) → gone l ≡ true → among logs l ≡ true

all_kept : (xs : List ℕ) → filter (λ _. true) xs ≡ xs
all_kept [] = refl
all_kept (x ∷ xs) = ap (λ ys. x ∷ ys) (all_kept xs)

none_more : (xs : List ℕ) → xs ++ [] ≡ xs
none_more [] = refl
none_more (x ∷ xs) = ap (λ ys. x ∷ ys) (none_more xs)

more_ages : (logs a since : List ℕ) → Ages logs a (a ++ since)
more_ages logs a since = record { gone = λ _. false; since = since; order = ap (λ xs. xs ++ since) (sym (all_kept a)); given = λ l e. absurd (false≢true e) }

same_ages : (logs a b : List ℕ) → b ≡ a → Ages logs a b
same_ages logs a b e = subst (Ages logs a) (none_more a ∙ sym e) (more_ages logs a [])

without_ages : (logs a : List ℕ) (l : ℕ) → among logs l ≡ true → Ages logs a (order_without l a)
without_ages logs a l here = record {
  gone = λ k. k == l;
  since = [];
  order = sym (none_more (order_without l a));
  given = λ k e. subst (λ j. among logs j ≡ true) (sym (eqb-true k l e)) here;
}

twice : (f g : ℕ → Bool) (xs : List ℕ) → filter (λ l. not (g l)) (filter (λ l. not (f l)) xs) ≡ filter (λ l. not (f l || g l)) xs
twice f g [] = refl
twice f g (x ∷ xs) = at_first (f x) (twice f g xs) where
  at_first : (b : Bool) → filter (λ l. not (g l)) (filter (λ l. not (f l)) xs) ≡ filter (λ l. not (f l || g l)) xs →
      filter (λ l. not (g l)) (cond (not b) (x ∷ filter (λ l. not (f l)) xs) (filter (λ l. not (f l)) xs))
      ≡ cond (not (b || g x)) (x ∷ filter (λ l. not (f l || g l)) xs) (filter (λ l. not (f l || g l)) xs)
  at_first true rest = rest
  at_first false rest = ap (λ ys. cond (not (g x)) (x ∷ ys) ys) rest

join_ages : (logs a b c : List ℕ) → Ages logs a b → Ages logs b c → Ages logs a c
join_ages logs a b c x y = record {
  gone = λ l. x.gone l || y.gone l;
  since = filter (λ l. not (y.gone l)) x.since ++ y.since;
  order =
      y.order
      ∙ ap (λ xs. filter (λ l. not (y.gone l)) xs ++ y.since) x.order
      ∙ ap (λ xs. xs ++ y.since) (filter-append (λ l. not (y.gone l)) (filter (λ l. not (x.gone l)) a) x.since)
      ∙ append_assoc (filter (λ l. not (y.gone l)) (filter (λ l. not (x.gone l)) a)) (filter (λ l. not (y.gone l)) x.since) y.since
      ∙ ap (λ xs. xs ++ (filter (λ l. not (y.gone l)) x.since ++ y.since)) (twice x.gone y.gone a);
  given = λ l e. elim (or_split (x.gone l) (y.gone l) e) [ inl h ↦ x.given l h | inr h ↦ y.given l h ];
}

-- ---- what walks and turns keep, which give back logs of these alone
record Stands (logs order : List ℕ) (m : Moment) : Type 0 where
  ages : Ages logs order m.order
  within : (l : ℕ) → among m.collection l ≡ true → among logs l ≡ true

order_ages : (logs : List ℕ) (s : State) (order : List ℕ) (way : Way) → Ages logs order (order_by s order way)
order_ages logs s order (Moves place) = cond_both (place.log == s.current) order (order ++ s.current ∷ []) (Ages logs order) (λ _. same_ages logs order order refl) (λ _. more_ages logs order (s.current ∷ []))
order_ages logs s order _ = same_ages logs order order refl

walked_ages : (logs order : List ℕ) (m : Moment) (n : ℕ) → Stands logs order m → Stands logs order (walked m n).moment
walked_ages logs order m n h = (walked_kept (λ k w. Stands logs order w.moment) record {
  learns = tt;
  gives = λ k w l ls none h. record {
    ages = join_ages logs order w.moment.order (order_without l w.moment.order) h.ages (without_ages logs w.moment.order l (h.within l (or_left (eqb l l) (among ls l) (eq-eqb l l refl))));
    within = λ j e. h.within j (or_right (eqb j l) (among ls j) e);
  };
  deals = λ k w l ls p ps word here finds h.
      let s : State = w.moment.core in
      let way = way_of s (read_of word) in
      record { ages = join_ages logs order w.moment.order (order_by s w.moment.order way) h.ages (order_ages logs s w.moment.order way); within = h.within };
} m h n).1.0

keeps_turns : (logs order : List ℕ) → KeepsTurns true (λ m tally. Stands logs order m)
keeps_turns logs order = record {
  learns = tt;
  beside = tt;
  marks = λ m n tally lawful is h. cond_both (leaves_some m n) (record m { core = marked_core m n }) (record m { core = advanced (marked_core m n) m.collection; phase = Waiting }) (Stands logs order)
      (λ _. record { ages = h.ages; within = h.within }) (λ _. record { ages = h.ages; within = h.within });
  looks = λ m k phase tally lawful is h. record { ages = h.ages; within = h.within };
  walks = λ m n tally law moment alone is h. walked_ages logs order m n h;
  ends = λ m tally h. record { ages = h.ages; within = h.within };
}

begun_ages : (now : Moment) (l : ℕ) (ls : List ℕ) → Stands (l ∷ ls) now.order (after_selecting now (l ∷ ls))
begun_ages now l ls = record { ages = same_ages (l ∷ ls) now.order now.order refl; within = λ k h. h }

turns_ages : (logs order : List ℕ) (m : Moment) (n : ℕ) → Law m.core → MomentLaw m → m.copying ≡ false → is_idle m.phase ≡ false → Stands logs order m → Stands logs order (turns_made m n).moment
turns_ages logs order m n law moment alone runs h = turns_kept_exactly (λ t tally. Stands logs order t) (keeps_turns logs order) m n law moment alone runs h

-- ---- commands
from_ages : (now : Moment) (c : Command) (after : Moment) (logs : List ℕ) → Ages logs now.order after.order → ((l : ℕ) → among logs l ≡ true → MayGiveBack now c l) → KeepsAges now c after
from_ages now c after logs x may = record { gone = x.gone; since = x.since; order = x.order; given = λ l e. may l (x.given l e) }

none_given : (now : Moment) (c : Command) (l : ℕ) → among [] l ≡ true → MayGiveBack now c l
none_given now c l e = absurd (false≢true e)

still : (now : Moment) (c : Command) (after : Moment) → after.order ≡ now.order → KeepsAges now c after
still now c after e = from_ages now c after [] (same_ages [] now.order after.order e) (none_given now c)

told_keeps : (now : Moment) (c : Command) → IsNoStep c → KeepsAges now c (effect now c)
told_keeps now c told =
    let t : State = (effect now c).core in
    let ages : Ages [] now.order (with_core now t).order = cond_both (t.current == now.core.current) now.order (now.order ++ now.core.current ∷ []) (Ages [] now.order)
    (λ _. same_ages [] now.order now.order refl) (λ _. more_ages [] now.order (now.core.current ∷ [])) in
    from_ages now c (effect now c) [] (subst (λ (x : Moment). Ages [] now.order x.order) (sym (told_effect now c told)) ages) (none_given now c)

selected_order : (now : Moment) (logs : List ℕ) → (after_selecting now logs).order ≡ now.order
selected_order now [] = refl
selected_order now (l ∷ ls) = refl

polled_order : (now : Moment) (o : Option ℕ) → (polled_to now o).order ≡ now.order
polled_order now None = refl
polled_order now (Some k) = refl

module _ (now : Moment) (law : Law now.core) (moment : MomentLaw now) (alone : now.copying ≡ false) where
  round_keeps : (policy : Policy) (most turns : ℕ) → refusal now (Evacuator (Round policy most turns)) ≡ None → (logs : List ℕ) → chosen_by policy (rows_in now) most ≡ logs → KeepsAges now (Evacuator (Round policy most turns)) (after_round now logs turns)
  round_keeps policy most turns may [] e = still now (Evacuator (Round policy most turns)) now refl
  round_keeps policy most turns may (l ∷ ls) e =
      let m : Moment = after_selecting now (l ∷ ls) in
      let begun = starts now law moment alone policy most turns may (l ∷ ls) e in
      let x = turns_ages (l ∷ ls) now.order m turns begun.law begun.moment (begun.copying ∙ alone) refl (begun_ages now l ls) in
      from_ages now (Evacuator (Round policy most turns)) (turns_made m turns).moment (l ∷ ls) x.ages
      (λ k h. (l ∷ ls, subst (Takes now (By policy) most) e (policy_takes now law moment alone policy most), among_in k (l ∷ ls) h))

  made_keeps : (step : Step) → refusal now (Evacuator step) ≡ None → KeepsAges now (Evacuator step) (step_effect now step)
  made_keeps (Select choice most) may = still now (Evacuator (Select choice most)) (step_effect now (Select choice most)) (selected_order now (logs_given (given_by choice (rows_in now) most)))
  made_keeps (Mark count) may = still now (Evacuator (Mark count)) (after_marking now count) (ap (λ (m : Moment). m.order) (marking_frame now count))
  made_keeps Wait may = still now (Evacuator Wait) (after_polling now) (polled_order now (first_open now.core))
  made_keeps (Evacuate count) may =
      let w = walked now count in
      let x = walked_ages now.collection now.order now count record { ages = same_ages now.collection now.order now.order refl; within = λ l h. h } in
      from_ages now (Evacuator (Evacuate count)) (ended w) now.collection
      (ended_kept true (λ m tally. Stands now.collection now.order m) (keeps_turns now.collection now.order) w w.tally x).ages (held_chosen now moment)
  made_keeps Abort may = still now (Evacuator Abort) (step_effect now Abort) refl
  made_keeps (Round policy most turns) may = round_keeps policy most turns may (chosen_by policy (rows_in now) most) refl

  step_keeps : (step : Step) (o : Option Refusal) → refusal now (Evacuator step) ≡ o → KeepsAges now (Evacuator step) (unless o (refused_effect now (Evacuator step)) (turn_effect now (Evacuator step)))
  step_keeps step None e = made_keeps step e
  step_keeps step (Some why) e = still now (Evacuator step) (refused_step now step why) (step_stays now step why e).round.0

effect_keeps : (now : Moment) (c : Command) → Lasts now → KeepsAges now c (effect now c)
effect_keeps now (Mutator m request) lasts = told_keeps now (Mutator m request) tt
effect_keeps now (Book inquiry) lasts = told_keeps now (Book inquiry) tt
effect_keeps now (Evacuator step) lasts = step_keeps now lasts.law lasts.round lasts.alone step (refusal now (Evacuator step)) refl

served_keeps : (now : Moment) (c : Command) (r : Reply) (next : Moment) → IsMoment now → Served now c r next → KeepsAges now c next
served_keeps now c r next is h = subst (KeepsAges now c) (sym h.moment) (effect_keeps now c (moment_lasts now is))

-- a round that was stopped
stop_keeps : (now : Moment) → Lasts now → (policy : Policy) (most turns count objects : ℕ) (stood next : Moment) (progress : Progress) (h : Stood now policy most turns stood) → LeftSome stood objects progress next →
    KeepsAges now (Evacuator (Round policy most count)) next
stop_keeps now lasts policy most turns count objects stood next progress h left =
    let logs = h.log ∷ h.logs in
    let m : Moment = after_selecting now logs in
    let began = begun now lasts.law lasts.round lasts.alone policy most turns stood h in
    let x : Stands logs now.order stood = subst (Stands logs now.order) (sym h.stands) (turns_ages logs now.order m turns began.law began.moment (began.copying ∙ lasts.alone) refl (begun_ages now h.log h.logs)) in
    let w = walked_ages logs now.order stood objects x in
    let ages : Ages logs now.order next.order = subst (λ (y : Moment). Ages logs now.order y.order) (sym left.stands) w.ages in
    from_ages now (Evacuator (Round policy most count)) next logs ages
    (λ k e. (logs, subst (Takes now (By policy) most) h.chosen (policy_takes now lasts.law lasts.round lasts.alone policy most), among_in k logs e))

-- a command that was given other words gives none back
misled_keeps : (row : ℕ → ℕ) (now : Moment) (r : Reply) (next : Moment) (m p : ℕ) → IsMoment now → (c : Command) → AsksFor m p c → Misled row now c p r next → KeepsAges (as_if_stored now p row) c (as_if_stored next p row) → KeepsAges now c next
misled_keeps row now r next m p is = as_misled row now r next m p (λ now c r next. KeepsAges now c next)
    (λ from bytes x. record { gone = x.gone; since = x.since; order = x.order; given = x.given })
    (λ from len bytes x. record { gone = x.gone; since = x.since; order = x.order; given = x.given })
    (λ x. record { gone = x.gone; since = x.since; order = x.order; given = x.given })

pub ages_stay : (now : Moment) (c : Command) (r : Reply) (next : Moment) → IsMoment now → Commanded now c r next → KeepsAges now c next
ages_stay now c r next is h = by_outcome now r next (λ d. KeepsAges now d next)
    (λ d h. served_keeps now d r next is h)
    (λ why m p how h. let x = served_keeps now _ _ next is h.tried in record { gone = x.gone; since = x.since; order = x.order; given = x.given })
    (λ why objects count h. let x = served_keeps now (Evacuator (Evacuate objects)) (Evacuated h.progress) next is h.left in record { gone = x.gone; since = x.since; order = x.order; given = x.given })
    (λ why turns objects policy most count h.
    stop_keeps now (moment_lasts now is) policy most turns count objects h.stood next h.progress (stood_so now policy most turns h.stood h.turned) (left_some h.stood objects h.progress next h.left h.unfinished))
    (λ row m p d asks h. misled_keeps row now r next m p is d asks h (served_keeps (as_if_stored now p row) d r (as_if_stored next p row) (misled_from row now d p r next is h) h.served))
    c h
