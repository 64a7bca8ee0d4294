-- A round tells what its turns add up to; and so each step of the evacuator tells what is so.
use Rattle.std.specs.Prelude.{if◌then◌else◌}
use Rattle.std.proofs.Common.{◌≡◌, ◌≢◌, ℕ, zero, suc, ◌+◌, ◌≤◌, Bool, true, false, not, cond, Option, Some, None, List, [], ◌∷◌, length, Result, Ok, Err, ap, sym, refl, ◌∙◌, subst, arith}
use Rattle.std.proofs.lemmas.Bool.{cond_both, eqb-true, false≢true, true≢false}
use Rattle.far_word.specs.declared.refused.Refused.{Refused as Refusal}
use Rattle.far_word.specs.declared.refused.Refused.TheVariants.{Phase as WrongPhase, StillOpen}
use Rattle.far_word.specs.declared.sizes.TheConstants.{EPOCH_END}
use Rattle.far_policy.specs.Scripted.{FollowsScript, scripted}
use Rattle.far_policy.proofs.Scripts.{follows_script}
use Rattle.far_events.specs.state.Law.{Law}
use Rattle.far_evac.specs.Choosing.{after_selecting}
use Rattle.far_evac.specs.Marking.{after_marking}
use Rattle.far_evac.specs.Moment.{Moment, plus, progress_of, tally_of}
use Rattle.far_evac.specs.MomentLaw.{MomentLaw, is_idle}
use Rattle.far_evac.specs.Turns.{Turned, turn_size, turned, turns_made}
use Rattle.far_evac.specs.Waiting.{after_polling, first_open, polled, polled_at, polled_to}
use Rattle.far_evac.specs.Walk.{ended, is_done, walked}
use Rattle.far_evac.specs.declared.answers.Polled.{Polled}
use Rattle.far_evac.specs.declared.answers.Polled.TheVariants as polls
use Rattle.far_evac.specs.declared.answers.Progress.{Progress}
use Rattle.far_evac.specs.declared.answers.RoundEnd.{RoundEnd}
use Rattle.far_evac.specs.declared.answers.RoundEnd.TheVariants as ends
use Rattle.far_evac.specs.declared.phase.Phase.{Phase}
use Rattle.far_evac.specs.declared.phase.Phase.TheVariants.{Idle, Marking, Waiting, Evacuating}
use Rattle.far_text.specs.Command.{Command, Evacuator, Choice, By, Script, Policy, Step, Select, Mark, Wait, Evacuate, Abort, Round}
use Rattle.far_replay.specs.Answers.{Commanded, Served, StopsLeaving, StopsRound, IsMoment}
use Rattle.far_replay.proofs.Outcomes.{by_outcome}
use Rattle.far_replay_laws.proofs.StoppedAt.{stopped_at}
use Rattle.far_replay_laws.proofs.Stops.{starts, stood_so}
use Rattle.far_reply.specs.Reply.{Reply, Selected, Clear, Evacuated, Ended, Refused, Halted}
use Rattle.far_replay.specs.Rounds.{after_round, choice_causes, chosen_by, given_by, is_evacuating, is_marking, is_waiting, logs_given, refused_step, round_told, rows_in, step_causes, step_effect, step_reply, wait_causes}
use Rattle.far_replay_laws.specs.Steps.{AreTurns, CountsRound, IsTimeFor, NoneDone, Takes, TellsRefusal, TellsRound, TellsStep, Told, counted_by, phase_after, says_done, sum_of, turn_step}
use Rattle.far_replay.specs.Turn.{effect, first_cause, refusal, refused_effect, turn_effect, turn_reply, unless}
use Rattle.far_replay.proofs.Lasting.{Lasts, after_step, moment_lasts}
use Rattle.far_replay_laws.proofs.Refusals.{EachFirst, among}
use Rattle.far_replay_laws.proofs.RoundCounts.{counts_round}
use Rattle.far_replay.proofs.RoundLeads.{begins, evacuating_is, marking_is, none_first, step_stays, waiting_is}
use Rattle.far_replay_laws.proofs.StepsTell.{chosen_phase, ended_phase, marked_phase, policy_takes, tells_choice, tells_clear, tells_end, tells_leaving, tells_marks, tells_open}
use Rattle.far_replay_laws.proofs.Misleading.{by_asked}

-- ---- a step as a command
pub made_so : (now : Moment) (step : Step) → refusal now (Evacuator step) ≡ None → Served now (Evacuator step) (step_reply now step) (step_effect now step)
made_so now step e = record {
  reply = sym (ap (λ o. unless o Refused (turn_reply now (Evacuator step))) e);
  moment = sym (ap (λ o. unless o (refused_effect now (Evacuator step)) (turn_effect now (Evacuator step))) e);
}

refused_so : (now : Moment) (step : Step) (why : Refusal) → refusal now (Evacuator step) ≡ Some why → Served now (Evacuator step) (Refused why) (refused_step now step why)
refused_so now step why e = record {
  reply = sym (ap (λ o. unless o Refused (turn_reply now (Evacuator step))) e);
  moment = sym (ap (λ o. unless o (refused_effect now (Evacuator step)) (turn_effect now (Evacuator step))) e);
}

-- ---- turns
-- so many were made: these are their replies, and what they count
abbrev LastDone : ℕ → List Reply → Moment → Type 0
LastDone n rs after = (last : Progress) × (rest : List Reply) × (rs ≡ Evacuated last ∷ rest) × (last.done ≡ true) × NoneDone rest × (length rs ≤ n) × (after.phase ≡ Idle)

record Run (m : Moment) (n : ℕ) (r : Turned) : Type 0 where
  replies : List Reply
  turns : AreTurns m replies r.moment
  moved : r.tally.moved ≡ sum_of (λ (x : Progress). x.moved) replies
  far : r.tally.far ≡ sum_of (λ (x : Progress). x.far) replies
  dropped : r.tally.dropped ≡ sum_of (λ (x : Progress). x.dropped) replies
  freed : r.tally.freed ≡ sum_of (λ (x : Progress). x.freed) replies
  going : r.over ≡ false → NoneDone replies × (length replies ≡ n)
  over : r.over ≡ true → LastDone n replies r.moment

module _ (m : Moment) (n : ℕ) (r : Turned) (h : Run m n r) (goes : r.over ≡ false) where
  -- a turn that counts nothing
  quiet : (phase : Phase) → r.moment.phase ≡ phase → (reply : Reply) (t : Moment) → Served r.moment (Evacuator (turn_step phase)) reply t → ((count : Progress → ℕ) → counted_by count reply ≡ 0) → says_done reply ≡ false →
      Run m (suc n) (record r { moment = t })
  quiet phase e reply t made none more = record {
    replies = reply ∷ h.replies;
    turns = (r.moment, h.turns, subst (λ (x : Phase). Served r.moment (Evacuator (turn_step x)) reply t) (sym e) made);
    moved = omega (arith, h.moved, none (λ (x : Progress). x.moved));
    far = omega (arith, h.far, none (λ (x : Progress). x.far));
    dropped = omega (arith, h.dropped, none (λ (x : Progress). x.dropped));
    freed = omega (arith, h.freed, none (λ (x : Progress). x.freed));
    going = λ _. let before = h.going goes in ((more, before.0), ap (λ x. suc x) before.1);
    over = λ e. absurd (false≢true (sym goes ∙ e));
  }

  turn_on : (phase : Phase) → r.moment.phase ≡ phase → Run m (suc n) (turned r phase)
  unfolding turn_size
  turn_on Idle e = quiet Idle e (Refused WrongPhase) r.moment (refused_so r.moment Abort WrongPhase (ap (λ (x : Phase). first_cause ((is_idle x, WrongPhase) ∷ [])) e)) (λ count. refl) refl
  turn_on Marking e =
      quiet Marking e (step_reply r.moment (Mark 16)) (after_marking r.moment 16) (made_so r.moment (Mark 16) (ap (λ (x : Phase). first_cause ((not (is_marking x), WrongPhase) ∷ [])) e)) (λ count. refl) refl
  turn_on Waiting e = by_poll (polled r.moment.core) refl where
    causes : refusal r.moment (Evacuator Wait) ≡ first_cause (wait_causes (polled r.moment.core))
    causes = ap (λ (x : Phase). first_cause ((not (is_waiting x), WrongPhase) ∷ wait_causes (polled r.moment.core))) e

    by_poll : (o : Polled) → polled r.moment.core ≡ o → Run m (suc n) (record r { moment = after_polling r.moment })
    by_poll polls.Clear is = quiet Waiting e Clear (after_polling r.moment) (made_so r.moment Wait (causes ∙ ap (λ o. first_cause (wait_causes o)) is)) (λ count. refl) refl
    by_poll (polls.StillOpen k epoch) is =
        quiet Waiting e (Refused (StillOpen k epoch)) (after_polling r.moment) (refused_so r.moment Wait (StillOpen k epoch) (causes ∙ ap (λ o. first_cause (wait_causes o)) is)) (λ count. refl) refl
  turn_on Evacuating e =
      let w = walked r.moment 16 in
      let progress : Progress = progress_of w.tally (is_done w) in
      let before = h.going goes in
      record {
        replies = Evacuated progress ∷ h.replies;
        turns = (
          r.moment,
          h.turns,
          subst (λ (x : Phase). Served r.moment (Evacuator (turn_step x)) (Evacuated progress) (ended w)) (sym e)
              (made_so r.moment (Evacuate 16) (ap (λ (x : Phase). first_cause ((not (is_evacuating x), WrongPhase) ∷ [])) e)),
        );
        moved = ap (λ k. k + w.tally.moved) h.moved;
        far = ap (λ k. k + w.tally.far) h.far;
        dropped = ap (λ k. k + w.tally.dropped) h.dropped;
        freed = ap (λ k. k + w.tally.freed) h.freed;
        going = λ more. ((more, before.0), ap (λ x. suc x) before.1);
        over = λ done. (
          progress,
          h.replies,
          refl,
          done,
          before.0,
          omega (arith, before.1),
          ended_phase r.moment 16 ∙ ap (λ b. cond b Idle r.moment.phase) done,
        );
      }

runs_on : (m : Moment) (n : ℕ) → Run m n (turns_made m n)
runs_on m zero = record {
  replies = [];
  turns = refl;
  moved = refl;
  far = refl;
  dropped = refl;
  freed = refl;
  going = λ _. (tt, refl);
  over = λ e. absurd (false≢true e);
}
runs_on m (suc n) =
    let r = turns_made m n in
    let h = runs_on m n in
    cond_both r.over r (turned r r.moment.phase) (Run m (suc n))
    (λ over. record {
      replies = h.replies;
      turns = h.turns;
      moved = h.moved;
      far = h.far;
      dropped = h.dropped;
      freed = h.freed;
      going = λ e. absurd (false≢true (sym e ∙ over));
      over = λ _. let (last, rest, is, done, none, few, idle) = h.over over in (last, rest, is, done, none, omega (arith, few), idle);
    })
    (λ goes. turn_on m n r h goes r.moment.phase refl)

-- ---- a round
idle_phase : (phase : Phase) → is_idle phase ≡ true → phase ≡ Idle
idle_phase Idle h = refl
idle_phase _ h = absurd (false≢true h)

module _ (now : Moment) (law : Law now.core) (moment : MomentLaw now) (alone : now.copying ≡ false) (policy : Policy) (most turns : ℕ) (may : refusal now (Evacuator (Round policy most turns)) ≡ None) where
  idle : now.phase ≡ Idle
  idle = idle_phase now.phase (begins now [] may).0.idle

  counts : (l : ℕ) (ls : List ℕ) → chosen_by policy (rows_in now) most ≡ l ∷ ls → (turns_made (after_selecting now (l ∷ ls)) turns).over ≡ true →
      CountsRound now (l ∷ ls) (progress_of (turns_made (after_selecting now (l ∷ ls)) turns).tally true) (turns_made (after_selecting now (l ∷ ls)) turns).moment
  counts l ls e over =
      let x = counts_round (after_selecting now (l ∷ ls)) law (starts now law moment alone policy most turns may (l ∷ ls) e).moment alone refl turns over in
      record { moved = x.moved; far = x.far; dropped = x.dropped; freed = x.freed }

  tells_logs : (logs : List ℕ) → chosen_by policy (rows_in now) most ≡ logs → TellsRound now policy most turns (round_told now logs turns) (after_round now logs turns)
  tells_logs [] e = (subst (Takes now (By policy) most) e (policy_takes now law moment alone policy most), refl)
  tells_logs (l ∷ ls) e =
      let m : Moment = after_selecting now (l ∷ ls) in
      let r = turns_made m turns in
      let run = runs_on m turns in
      let chosen : Served now (Evacuator (Select (By policy) most)) (Selected (l ∷ ls)) m =
      subst (λ (xs : List ℕ). Served now (Evacuator (Select (By policy) most)) (Selected xs) (after_selecting now xs)) e (made_so now (Select (By policy) most) may) in
      cond_both r.over (ends.Done (progress_of r.tally true)) (ends.Limit r.moment.phase) (λ (end : RoundEnd). TellsRound now policy most turns end r.moment)
      (λ over.
      let (last, rest, is, done, none, few, last_idle) = run.over over in
      (l, ls, m, run.replies, chosen, run.turns, (last, rest, is, done, none, few, record { moved = run.moved; far = run.far; dropped = run.dropped; freed = run.freed }, last_idle), counts l ls e over))
      (λ goes. let before = run.going goes in (l, ls, m, run.replies, chosen, run.turns, (before.0, before.1, refl), tt))

  phase_logs : (logs : List ℕ) → (after_round now logs turns).phase ≡ phase_after now.phase (Round policy most turns) (Ended (round_told now logs turns))
  phase_logs [] = refl
  phase_logs (l ∷ ls) =
      let r = turns_made (after_selecting now (l ∷ ls)) turns in
      cond_both r.over (ends.Done (progress_of r.tally true)) (ends.Limit r.moment.phase) (λ (end : RoundEnd). r.moment.phase ≡ phase_after now.phase (Round policy most turns) (Ended end))
      (λ over. let (last, rest, is, done, none, few, last_idle) = (runs_on (after_selecting now (l ∷ ls)) turns).over over in last_idle ∙ sym idle)
      (λ _. refl)

  pub tells_round : TellsStep now (Round policy most turns) (step_reply now (Round policy most turns)) (step_effect now (Round policy most turns))
  tells_round = record {
    tells = tells_logs (chosen_by policy (rows_in now) most) refl;
    phase = phase_logs (chosen_by policy (rows_in now) most);
    time = λ _. idle;
  }

-- ---- a step that is made
module _ (now : Moment) (law : Law now.core) (moment : MomentLaw now) (alone : now.copying ≡ false) where
  given_ok : (choice : Choice) (most : ℕ) (given : Result (List ℕ) Refusal) → given_by choice (rows_in now) most ≡ given → first_cause (choice_causes given) ≡ None → given_by choice (rows_in now) most ≡ Ok (logs_given given)
  given_ok choice most (Ok logs) is e = is
  given_ok choice most (Err why) is e = absurd cc

  cleared : (o : Polled) → first_cause (wait_causes o) ≡ None → o ≡ polls.Clear
  cleared polls.Clear e = refl
  cleared (polls.StillOpen k epoch) e = absurd cc

  cleared_phase : (o : Option ℕ) → polled_at now.core o ≡ polls.Clear → (polled_to now o).phase ≡ Evacuating
  cleared_phase None e = refl
  cleared_phase (Some k) e = absurd cc

  made_tells : (step : Step) → refusal now (Evacuator step) ≡ None → TellsStep now step (step_reply now step) (step_effect now step)
  made_tells (Select choice most) e =
      let given = given_by choice (rows_in now) most in
      let may = begins now (choice_causes given) e in
      record {
        tells = tells_choice now law moment alone choice most (logs_given given) may.0.idle (given_ok choice most given refl may.1);
        phase = chosen_phase now choice most (logs_given given);
        time = λ _. idle_phase now.phase may.0.idle;
      }
  made_tells (Mark count) e =
      let marks = marking_is now.phase (none_first (not (is_marking now.phase)) WrongPhase [] e).0 in
      record { tells = tells_marks now count law moment alone marks; phase = marked_phase now count law moment alone marks; time = λ _. marks }
  made_tells Wait e =
      let may = none_first (not (is_waiting now.phase)) WrongPhase (wait_causes (polled now.core)) e in
      let clear = cleared (polled now.core) may.1 in
      record { tells = tells_clear now.core clear; phase = cleared_phase (first_open now.core) clear; time = λ _. waiting_is now.phase may.0 }
  made_tells (Evacuate count) e =
      let leaves = evacuating_is now.phase (none_first (not (is_evacuating now.phase)) WrongPhase [] e).0 in
      record { tells = tells_leaving now count law moment alone leaves; phase = ended_phase now count; time = λ _. leaves }
  made_tells Abort e = record { tells = tells_end now law; phase = refl; time = λ _ idle. true≢false (sym (ap is_idle idle) ∙ (none_first (is_idle now.phase) WrongPhase [] e).0) }
  made_tells (Round policy most turns) e = tells_round now law moment alone policy most turns e

  -- ---- one that is refused
  abbrev Why : Step → Refusal → Type 0
  Why step why = TellsRefusal now step why × (why ≢ WrongPhase → IsTimeFor step now.phase)

  not_idle : not (is_idle now.phase) ≡ true → now.phase ≢ Idle
  not_idle h e = true≢false (sym h ∙ ap (λ (x : Phase). not (is_idle x)) e)

  is_idle_now : not (is_idle now.phase) ≡ false → now.phase ≡ Idle
  is_idle_now h = idle_phase now.phase (idle_from (is_idle now.phase) h) where
    idle_from : (b : Bool) → not b ≡ false → b ≡ true
    idle_from true h = refl
    idle_from false h = absurd (true≢false h)

  script_says : (named : List ℕ) (most : ℕ) (given : Result (List ℕ) Refusal) → now.phase ≡ Idle → FollowsScript (rows_in now) most named given → EachFirst (Why (Select (Script named) most)) (choice_causes given)
  script_says named most (Ok logs) rests follows = tt
  script_says named most (Err why) rests (k, within, bad, good, is) =
      ((λ _. (subst (TellsRefusal now (Select (Script named) most)) (sym is) (k, within, bad, good, refl), λ _. rests)), λ _. tt)

  choice_says : (choice : Choice) (most : ℕ) → now.phase ≡ Idle → EachFirst (Why (Select choice most)) (choice_causes (given_by choice (rows_in now) most))
  choice_says (By policy) most rests = tt
  choice_says (Script named) most rests = script_says named most (scripted (rows_in now) most named) rests (follows_script (rows_in now) most named)

  poll_says : (o : Polled) → polled now.core ≡ o → now.phase ≡ Waiting → EachFirst (Why Wait) (wait_causes o)
  poll_says polls.Clear is waits = tt
  poll_says (polls.StillOpen k epoch) is waits = ((λ _. (tells_open now.core law k epoch is, λ _. waits)), λ _. tt)

  causes_say : (step : Step) → EachFirst (Why step) (step_causes now step)
  causes_say (Select choice most) = (
    (λ h. (not_idle h, λ ne. absurd (ne refl))),
    (λ h. let idle = is_idle_now h in ((λ spent. (eqb-true (now.core.epoch + 1) EPOCH_END spent, λ _. idle)), λ _. choice_says choice most idle)),
  )
  causes_say (Mark count) = ((λ h. ((λ e. true≢false (sym h ∙ ap (λ (x : Phase). not (is_marking x)) e)), λ ne. absurd (ne refl))), λ _. tt)
  causes_say Wait = (
    (λ h. ((λ e. true≢false (sym h ∙ ap (λ (x : Phase). not (is_waiting x)) e)), λ ne. absurd (ne refl))),
    (λ h. poll_says (polled now.core) refl (waiting_is now.phase h)),
  )
  causes_say (Evacuate count) = ((λ h. ((λ e. true≢false (sym h ∙ ap (λ (x : Phase). not (is_evacuating x)) e)), λ ne. absurd (ne refl))), λ _. tt)
  causes_say Abort = ((λ h. ((λ runs. runs (idle_phase now.phase h)), λ ne. absurd (ne refl))), λ _. tt)
  causes_say (Round policy most turns) = (
    (λ h. (not_idle h, λ ne. absurd (ne refl))),
    (λ h. let idle = is_idle_now h in ((λ spent. (eqb-true (now.core.epoch + 1) EPOCH_END spent, λ _. idle)), λ _. tt)),
  )

  said : (step : Step) (why : Refusal) → refusal now (Evacuator step) ≡ Some why → Why step why
  said step why e = among (Why step) (step_causes now step) why (causes_say step) e

  refused_not : (why : Refusal) → Refused why ≢ Refused WrongPhase → why ≢ WrongPhase
  refused_not why ne e = ne (ap Refused e)

  refused_tells : (step : Step) (why : Refusal) → refusal now (Evacuator step) ≡ Some why → TellsStep now step (Refused why) (refused_step now step why)
  refused_tells (Select choice most) why e = let x = said (Select choice most) why e in record { tells = x.0; phase = refl; time = λ ne. x.1 (refused_not why ne) }
  refused_tells (Mark count) why e = let x = said (Mark count) why e in record { tells = x.0; phase = refl; time = λ ne. x.1 (refused_not why ne) }
  refused_tells Wait why e = let x = said Wait why e in record { tells = x.0; phase = (step_stays now Wait why e).round.1; time = λ ne. x.1 (refused_not why ne) }
  refused_tells (Evacuate count) why e = let x = said (Evacuate count) why e in record { tells = x.0; phase = refl; time = λ ne. x.1 (refused_not why ne) }
  refused_tells Abort why e = let x = said Abort why e in record { tells = x.0; phase = refl; time = λ ne. x.1 (refused_not why ne) }
  refused_tells (Round policy most turns) why e = let x = said (Round policy most turns) why e in record { tells = x.0; phase = refl; time = λ ne. x.1 (refused_not why ne) }

  step_tells : (step : Step) (o : Option Refusal) → refusal now (Evacuator step) ≡ o →
      TellsStep now step (unless o Refused (turn_reply now (Evacuator step))) (unless o (refused_effect now (Evacuator step)) (turn_effect now (Evacuator step)))
  step_tells step None e = made_tells step e
  step_tells step (Some why) e = refused_tells step why e

-- ---- each step
pub served_told : (now : Moment) (step : Step) (r : Reply) (next : Moment) → Lasts now → Served now (Evacuator step) r next → TellsStep now step r next
served_told now step r next lasts h =
    subst (λ (x : Moment). TellsStep now step r x) (sym h.moment)
    (subst (λ (x : Reply). TellsStep now step x (effect now (Evacuator step))) (sym h.reply) (step_tells now lasts.law lasts.round lasts.alone step (refusal now (Evacuator step)) refl))

-- ---- a step that the device stops
served_so : (now : Moment) (c : Command) (r : Reply) (next : Moment) → Lasts now → Served now c r next → Told now c r next
served_so now (Evacuator step) r next lasts h = served_told now step r next lasts h
served_so now c r next lasts h = tt

stop_told : (now : Moment) (why : Refusal) (objects count : ℕ) (r : Reply) (next : Moment) → Lasts now → StopsLeaving why objects now count r next → TellsStep now (Evacuate count) r next
stop_told now why objects count r next lasts h =
    let x = served_told now (Evacuate objects) (Evacuated h.progress) next lasts h.left in
    subst (λ y. TellsStep now (Evacuate count) y next) (sym h.reply) record {
      tells = record { objects = objects; before = h.before; left = x.tells; unfinished = h.unfinished; at = stopped_at next (after_step now (Evacuate objects) (Evacuated h.progress) next lasts h.left) h.at };
      phase = x.phase ∙ ap (λ b. if b then Idle else now.phase) h.unfinished;
      time = λ _. x.time (evacuated_not h.progress);
    }
  where
    evacuated_not : (progress : Progress) → Evacuated progress ≢ Refused WrongPhase
    evacuated_not progress e = cc

round_told_so : (now : Moment) (why : Refusal) (turns objects : ℕ) (policy : Policy) (most count : ℕ) (r : Reply) (next : Moment) → Lasts now → (h : StopsRound why turns objects now policy most count r next) → Lasts h.stood →
    TellsStep now (Round policy most count) r next
unfolding turn_size
round_told_so now why turns objects policy most count r next lasts h later =
    let stood = stood_so now policy most turns h.stood h.turned in
    let logs = stood.log ∷ stood.logs in
    let m : Moment = after_selecting now logs in
    let run = runs_on m turns in
    let going = run.going stood.goes in
    let x = served_told now (Round policy most turns) (Ended (ends.Limit Evacuating)) h.stood lasts h.turned in
    let y = served_told h.stood (Evacuate objects) (Evacuated h.progress) next later h.left in
    let leaves : h.stood.phase ≡ Evacuating = ap (λ (z : Moment). z.phase) stood.stands ∙ stood.leaves in
    let told : Progress = progress_of (plus (turns_made m turns).tally (tally_of h.progress)) false in
    let reply : r ≡ Halted why told = h.reply ∙ ap (λ (xs : List ℕ). Halted why (progress_of (plus (turns_made (after_selecting now xs) turns).tally (tally_of h.progress)) false)) stood.chosen in
    subst (λ z. TellsStep now (Round policy most count) z next) (sym reply) record {
      tells = record {
        log = stood.log;
        logs = stood.logs;
        began = m;
        chosen = subst (λ (xs : List ℕ). Served now (Evacuator (Select (By policy) most)) (Selected xs) (after_selecting now xs)) stood.chosen (made_so now (Select (By policy) most) stood.may);
        replies = run.replies;
        stood = h.stood;
        made = subst (AreTurns m run.replies) (sym stood.stands) run.turns;
        none = going.0;
        few = omega (arith, going.1, h.before);
        leaves = leaves;
        objects = objects;
        before = h.within;
        last = h.progress;
        left = h.left;
        unfinished = h.unfinished;
        at = stopped_at next (after_step h.stood (Evacuate objects) (Evacuated h.progress) next later h.left) h.at;
        sums = record {
          moved = ap (λ k. k + h.progress.moved) run.moved;
          far = ap (λ k. k + h.progress.far) run.far;
          dropped = ap (λ k. k + h.progress.dropped) run.dropped;
          freed = ap (λ k. k + h.progress.freed) run.freed;
        };
      };
      phase = y.phase ∙ ap (λ b. if b then Idle else h.stood.phase) h.unfinished ∙ leaves;
      time = λ _. x.time (ended_not (ends.Limit Evacuating));
    }
  where
    ended_not : (end : RoundEnd) → Ended end ≢ Refused WrongPhase
    ended_not end e = cc

pub told_so : (now : Moment) (c : Command) (r : Reply) (next : Moment) → Lasts now → Commanded now c r next → Told now c r next
told_so now c r next lasts h = by_outcome now r next (λ d. Told now d r next)
    (λ d h. served_so now d r next lasts h)
    (λ why m p how h. tt)
    (λ why objects count h. stop_told now why objects count r next lasts h)
    (λ why turns objects policy most count h. round_told_so now why turns objects policy most count r next lasts h (after_step now (Round policy most turns) (Ended (ends.Limit Evacuating)) h.stood lasts h.turned))
    (λ row m p d asks h. by_asked m p (λ x. Told now x r next) (λ how. tt) d asks)
    c h

pub steps_told : (now : Moment) (step : Step) (r : Reply) (next : Moment) → IsMoment now → Commanded now (Evacuator step) r next → TellsStep now step r next
steps_told now step r next is h = told_so now (Evacuator step) r next (moment_lasts now is) h
