-- Through a step of the evacuator the epoch goes on as its reply says, and in the last one no logs are chosen.
use Rattle.std.proofs.Common.{◌≡◌, ◌≢◌, ℕ, ◌+◌, Bool, true, not, refl, sym, ap, subst, ◌∙◌, Option, Some, None, List, [], ◌∷◌}
use Rattle.std.proofs.lemmas.Bool.{cond_both, eq-eqb}
use Rattle.far_word.specs.declared.refused.Refused.{Refused as Refusal}
use Rattle.far_word.specs.declared.refused.Refused.TheVariants.{EpochsSpent, Phase as WrongPhase}
use Rattle.far_word.specs.declared.sizes.TheConstants.{EPOCH_END}
use Rattle.far_word.specs.Pointer.{read_of}
use Rattle.far_events.specs.state.State.{State}
use Rattle.far_evac.specs.Choosing.{is_spent}
use Rattle.far_evac.specs.MomentLaw.{is_idle}
use Rattle.far_evac.specs.Walk.{ended, is_done, walked, way_of}
use Rattle.far_evac.specs.Waiting.{first_open, polled_to}
use Rattle.far_evac.specs.declared.phase.Phase.{Phase}
use Rattle.far_evac.specs.declared.phase.Phase.TheVariants.{Evacuating, Idle}
use Rattle.far_evac.proofs.Framed.{so_one}
use Rattle.far_evac.proofs.Marks.{is_given_up}
use Rattle.far_evac.proofs.SmallSteps.{walked_kept}
use Rattle.far_text.specs.Command.{Command, Evacuator, Step, Select, Mark, Wait, Evacuate, Abort, Round}
use Rattle.far_replay.specs.Answers.{IsMoment, Served}
use Rattle.far_replay.proofs.Outcomes.{by_outcome}
use Rattle.far_evac.specs.declared.answers.RoundEnd.{RoundEnd}
use Rattle.far_evac.specs.declared.answers.RoundEnd.TheVariants as ends
use Rattle.far_replay.specs.Moment.{Moment}
use Rattle.far_reply.specs.Reply.{Reply, Ended, Evacuated, Marked, Refused}
use Rattle.far_replay.specs.Rounds.{choice_causes, given_by, refused_step, rows_in, step_effect}
use Rattle.far_replay.specs.Turn.{first_cause, refusal, refused_effect, reply_to, turn_effect, turn_reply, unless}
use Rattle.far_replay.proofs.Lasting.{Lasts, moment_lasts}
use Rattle.far_replay.proofs.RoundLeads.{step_stays}
use Rattle.far_replay_laws.specs.Epochs.{Chooses, EpochAfter, StepSpends, StepsSpendEpochs}
use Rattle.far_replay_laws.specs.Steps.{ReachesEpoch, TellsStep}
use Rattle.far_replay_laws.proofs.TurnsTell.{served_told}
use Rattle.far_replay_laws.proofs.Misleading.{by_asked}

-- a walk spends no epoch
walked_epoch : (m : Moment) (n : ℕ) → (walked m n).moment.core.epoch ≡ m.core.epoch
walked_epoch m n = (walked_kept (λ k w. w.moment.core.epoch ≡ m.core.epoch) record {
  learns = tt;
  gives = λ k w l ls none h. h;
  deals = λ k w l ls p ps word here finds h. ap (λ (s : State). s.epoch) (so_one w.moment.core p (way_of w.moment.core (read_of word))).frame ∙ h;
} m refl n).1.0

evacuated_epoch : (m : Moment) (n : ℕ) → (ended (walked m n)).core.epoch ≡ m.core.epoch
evacuated_epoch m n = let w = walked m n in
    cond_both (is_done w) (record w.moment { phase = Idle }) w.moment (λ (x : Moment). x.core.epoch ≡ m.core.epoch) (λ _. walked_epoch m n) (λ _. walked_epoch m n)

-- nor does a poll
polled_epoch : (m : Moment) (o : Option ℕ) → (polled_to m o).core.epoch ≡ m.core.epoch
polled_epoch m None = refl
polled_epoch m (Some k) = refl

-- a marking reaches the one that it tells
marked_epoch : (now : Moment) (count marked : ℕ) (waiting : Option ℕ) (after : Moment) → ReachesEpoch now count marked waiting after → EpochAfter now.core.epoch (Mark count) (Marked marked waiting) after.core.epoch
marked_epoch now count marked None after h = h.0
marked_epoch now count marked (Some epoch) after h = h.0

-- in the last one no logs are chosen
spent_cause : (phase : Phase) (b : Bool) (cs : List (Bool × Refusal)) → phase ≡ Idle → b ≡ true → first_cause ((not (is_idle phase), WrongPhase) ∷ (b, EpochsSpent) ∷ cs) ≡ Some EpochsSpent
spent_cause phase b cs rests e = ap (λ x. first_cause ((not (is_idle x), WrongPhase) ∷ (b, EpochsSpent) ∷ cs)) rests ∙ ap (λ x. first_cause ((x, EpochsSpent) ∷ cs)) e

last_refused : (now : Moment) (step : Step) (r : Reply) (next : Moment) → Served now (Evacuator step) r next → Chooses step → now.phase ≡ Idle → now.core.epoch + 1 ≡ EPOCH_END → r ≡ Refused EpochsSpent
last_refused now (Select choice most) r next h chooses rests e =
    h.reply ∙ ap (λ o. unless o Refused (turn_reply now (Evacuator (Select choice most)))) (spent_cause now.phase (is_spent now.core) (choice_causes (given_by choice (rows_in now) most)) rests (eq-eqb (now.core.epoch + 1) EPOCH_END e))
last_refused now (Round policy most turns) r next h chooses rests e =
    h.reply ∙ ap (λ o. unless o Refused (turn_reply now (Evacuator (Round policy most turns)))) (spent_cause now.phase (is_spent now.core) [] rests (eq-eqb (now.core.epoch + 1) EPOCH_END e))
last_refused now _ r next h chooses rests e = absurd chooses

-- ---- each step
refused_epoch : (now : Moment) (step : Step) (why : Refusal) → refusal now (Evacuator step) ≡ Some why → (refused_step now step why).core.epoch ≡ now.core.epoch
refused_epoch now step why e = ap (λ (s : State). s.epoch) (step_stays now step why e).rest

module _ (now : Moment) (lasts : Lasts now) where
  abbrev Goes : (step : Step) (o : Option Refusal) → Type 0
  Goes step o = EpochAfter now.core.epoch step (unless o Refused (turn_reply now (Evacuator step))) (unless o (refused_effect now (Evacuator step)) (turn_effect now (Evacuator step))).core.epoch

  goes : (step : Step) (o : Option Refusal) → refusal now (Evacuator step) ≡ o → TellsStep now step (unless o Refused (turn_reply now (Evacuator step))) (unless o (refused_effect now (Evacuator step)) (turn_effect now (Evacuator step))) → Goes step o
  goes (Select choice most) None e told = ap (λ (s : State). s.epoch) told.tells.core
  goes (Select choice most) (Some why) e told = refused_epoch now (Select choice most) why e
  goes (Mark count) None e told = marked_epoch now count _ _ (step_effect now (Mark count)) told.tells.epoch
  goes (Mark count) (Some why) e told = refused_epoch now (Mark count) why e
  goes Wait None e told = polled_epoch now (first_open now.core)
  goes Wait (Some why) e told = refused_epoch now Wait why e
  goes (Evacuate count) None e told = evacuated_epoch now count
  goes (Evacuate count) (Some why) e told = refused_epoch now (Evacuate count) why e
  goes Abort None e told = ap (λ (x : Moment). x.core.epoch) (is_given_up now (λ p. (lasts.law.cells.cell_read p).0)).rest
  goes Abort (Some why) e told = refused_epoch now Abort why e
  goes (Round policy most turns) None e told = tt
  goes (Round policy most turns) (Some why) e told = refused_epoch now (Round policy most turns) why e

served_spends : (now : Moment) (step : Step) (r : Reply) (next : Moment) → IsMoment now → Served now (Evacuator step) r next → StepSpends now step r next
served_spends now step r next is h = record {
  epoch =
      subst (λ x. EpochAfter now.core.epoch step x next.core.epoch) (sym h.reply)
      (subst (λ (x : Moment). EpochAfter now.core.epoch step (reply_to now (Evacuator step)) x.core.epoch) (sym h.moment)
      (goes now (moment_lasts now is) step (refusal now (Evacuator step)) refl
      (served_told now step (reply_to now (Evacuator step)) (unless (refusal now (Evacuator step)) (refused_effect now (Evacuator step)) (turn_effect now (Evacuator step))) (moment_lasts now is) record { reply = refl; moment = refl })));
  last = last_refused now step r next h;
}

-- of a command that is a step
abbrev SpendsFor : Moment → Command → Reply → Moment → Type 0
SpendsFor now (Evacuator step) r next = StepSpends now step r next
SpendsFor now c r next = Unit {0}

served_for : (now : Moment) (c : Command) (r : Reply) (next : Moment) → IsMoment now → Served now c r next → SpendsFor now c r next
served_for now (Evacuator step) r next is h = served_spends now step r next is h
served_for now c r next is h = tt

not_spent : (end : RoundEnd) → Ended end ≢ Refused EpochsSpent
not_spent end e = cc

pub steps_spend : StepsSpendEpochs
steps_spend now step r next is h = by_outcome now r next (λ d. SpendsFor now d r next)
    (λ d h. served_for now d r next is h)
    (λ why m p how h. tt)
    (λ why objects count h. record {
      epoch = subst (λ x. EpochAfter now.core.epoch (Evacuate count) x next.core.epoch) (sym h.reply) (served_spends now (Evacuate objects) (Evacuated h.progress) next is h.left).epoch;
      last = λ chooses. absurd chooses;
    })
    (λ why turns objects policy most count h. record {
      epoch = subst (λ x. EpochAfter now.core.epoch (Round policy most count) x next.core.epoch) (sym h.reply) tt;
      last = λ chooses rests e. absurd (not_spent (ends.Limit Evacuating) ((served_spends now (Round policy most turns) (Ended (ends.Limit Evacuating)) h.stood is h.turned).last tt rests e));
    })
    (λ row m p d asks h. by_asked m p (λ x. SpendsFor now x r next) (λ how. tt) d asks)
    (Evacuator step) h
