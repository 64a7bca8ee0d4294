use Rattle.std.proofs.Common.{refl}
use Rattle.far_text.specs.Command.{Evacuator, Round, Step, as_policy}
use Rattle.far_reply.specs.Reply.{Ended}
use Rattle.far_replay.specs.Moment.{Moment, moment_in}
use Rattle.far_replay.specs.Outcome.{told_by}
use Rattle.far_replay.proofs.Made.{allowed_served, refused_served, step_refused, step_served}
use Rattle.far_replay.proofs.rounds.round.Goals as goal

pub returns-in-Ok : goal.returns-in-Ok
returns-in-Ok c = record {
  made =
      let call = c.in-Ok.ensures in
      let step : Step = Round (as_policy c.args.policy) c.args.most c.args.turns in
      step_served c.args.evac.now c.run_by.new.evac step c.run_by.ensures.holds (Ended c.in-Ok.end)
      (allowed_served (moment_in c.args.evac.now) (moment_in c.run_by.new.evac) (Evacuator step) (Ended c.in-Ok.end) call.allowed call.moment call.end) call.spent;
}

pub returns-in-Err : goal.returns-in-Err
returns-in-Err c = record {
  made =
      let now : Moment = moment_in c.args.evac.now in
      let step : Step = Round (as_policy c.args.policy) c.args.most c.args.turns in
      let call = c.in-Err.ensures in
      step_refused c.args.evac.now c.run_by.new.evac step c.run_by.ensures.holds (told_by c.refused_step.new.scratch c.refused_step.result) c.in-Err.fault c.refused_step.ensures.halted c.refused_step.ensures.refused call.spent
      call.stopped (λ other. refused_served now (moment_in c.run_by.new.evac) (Evacuator step) c.in-Err.fault.why (call.refused other) refl (call.unchanged other));
}
