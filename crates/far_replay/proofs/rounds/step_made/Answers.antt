use Rattle.std.proofs.Common.{ap, subst, sym}
use Rattle.far_text.specs.Command.{Abort, Evacuator, Mark, Select, Step, Wait, as_choice, as_step}
use Rattle.far_replay.specs.Far.{far_of}
use Rattle.far_replay.specs.Moment.{FarSide}
use Rattle.far_replay.specs.Outcome.{told_by}
use Rattle.far_replay.specs.Spent.{Makes}
use Rattle.far_replay.proofs.Made.{aside_made}
use Rattle.far_replay.proofs.rounds.step_made.Goals as goal

pub returns-in-Select : goal.returns-in-Select
returns-in-Select c = record {
  made =
      let call = c.select.ensures in
      subst (λ (step : Step). Makes c.args.evac.now (Evacuator step) (told_by c.select.new.scratch c.select.result) c.select.new.evac) (ap as_step (sym c.in-Select.is))
      (aside_made c.args.evac.now c.select.new.evac (Select (as_choice c.in-Select.choice) c.in-Select.most) (λ q. ap (λ (f : FarSide). far_of f q) call.device) (told_by c.select.new.scratch c.select.result) call.moment call.reply call.device);
}

pub returns-in-Mark : goal.returns-in-Mark
returns-in-Mark c = record {
  made =
      let call = c.mark.ensures in
      subst (λ (step : Step). Makes c.args.evac.now (Evacuator step) (told_by c.mark.new.scratch c.mark.result) c.mark.new.evac) (ap as_step (sym c.in-Mark.is))
      (aside_made c.args.evac.now c.mark.new.evac (Mark c.in-Mark.count) (λ q. ap (λ (f : FarSide). far_of f q) call.device) (told_by c.mark.new.scratch c.mark.result) call.moment call.reply call.device);
}

pub returns-in-Wait : goal.returns-in-Wait
returns-in-Wait c = record {
  made =
      let call = c.wait.ensures in
      subst (λ (step : Step). Makes c.args.evac.now (Evacuator step) (told_by c.args.scratch.now c.wait.result) c.wait.new.evac) (ap as_step (sym c.in-Wait.is))
      (aside_made c.args.evac.now c.wait.new.evac Wait (λ q. ap (λ (f : FarSide). far_of f q) call.device) (told_by c.args.scratch.now c.wait.result) call.moment (call.reply c.args.scratch.now) call.device);
}

pub returns-in-Abort : goal.returns-in-Abort
returns-in-Abort c = record {
  made =
      let call = c.abort.ensures in
      subst (λ (step : Step). Makes c.args.evac.now (Evacuator step) (told_by c.args.scratch.now c.abort.result) c.abort.new.evac) (ap as_step (sym c.in-Abort.is))
      (aside_made c.args.evac.now c.abort.new.evac Abort (λ q. ap (λ (f : FarSide). far_of f q) call.device) (told_by c.args.scratch.now c.abort.result) call.moment (call.reply c.args.scratch.now) call.device);
}

pub returns-in-Evacuate : goal.returns-in-Evacuate
returns-in-Evacuate c = record {
  made =
      subst (λ (step : Step). Makes c.args.evac.now (Evacuator step) (told_by c.evacuate.new.scratch c.evacuate.result) c.evacuate.new.evac) (ap as_step (sym c.in-Evacuate.is)) c.evacuate.ensures.made;
}

pub returns-in-Round : goal.returns-in-Round
returns-in-Round c = record {
  made =
      subst (λ (step : Step). Makes c.args.evac.now (Evacuator step) (told_by c.round.new.scratch c.round.result) c.round.new.evac) (ap as_step (sym c.in-Round.is)) c.round.ensures.made;
}
