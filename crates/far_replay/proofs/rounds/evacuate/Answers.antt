use Rattle.std.proofs.Common.{ap}
use Rattle.far_evac.specs.EvacOf.{EvacOf}
use Rattle.far_hand.specs.declared.plain.Plain.{Plain}
use Rattle.far_text.specs.Command.{Evacuate, Evacuator}
use Rattle.far_reply.specs.Reply.{Evacuated}
use Rattle.far_replay.specs.Moment.{FarSide, Moment, moment_in}
use Rattle.far_replay.specs.Outcome.{told_by}
use Rattle.far_replay.proofs.FarReads.{FarLetsGo, FarWrites}
use Rattle.far_replay.proofs.HoldingRounds.{evacuated_holds, halted_holds}
use Rattle.far_replay.proofs.Made.{allowed_served, step_refused, step_served}
use Rattle.far_replay.proofs.Stopping.{evacuate_allowed, evacuate_barred, evacuate_stops, to_write}
use Rattle.far_replay.proofs.Walking.{evacuated_spends, halted_spends}
use Rattle.far_replay.proofs.rounds.evacuate.Goals as goal

pub returns-in-Ok : goal.returns-in-Ok
returns-in-Ok c = record {
  made =
      let old = c.args.evac.now in
      let new = c.evacuate_some.new.self in
      let call = c.in-Ok.ensures in
      let law = c.keeps_law.ensures in
      let exact = call.exact tt in
      step_served old new (Evacuate c.args.count) (evacuated_holds old new old.book.near.core.law law.moment law.exact call.evacuating c.args.count _ call.asked) (Evacuated c.in-Ok.progress)
      (allowed_served (moment_in old) (moment_in new) (Evacuator (Evacuate c.args.count)) (Evacuated c.in-Ok.progress) (evacuate_allowed (moment_in old) c.args.count call.evacuating) exact.0 (ap Evacuated exact.1))
      (evacuated_spends old new (moment_in old) law.exact c.args.count (moment_in new) _ call.asked);
}

pub returns-in-Err : goal.returns-in-Err
returns-in-Err c = record {
  made =
      let old = c.args.evac.now in
      let new = c.evacuate_some.new.self in
      let now : Moment = moment_in old in
      let next : Moment = moment_in new in
      let call = c.in-Err.ensures in
      let law = c.keeps_law.ensures in
      step_refused old new (Evacuate c.args.count) (halted_holds old new old.book.near.core.law law.moment law.exact c.args.count c.in-Err.fault call.barred call.refused)
      (told_by c.refused_step.new.scratch c.refused_step.result) c.in-Err.fault c.refused_step.ensures.halted c.refused_step.ensures.refused
      (halted_spends old new now law.exact c.args.count next c.in-Err.fault call.barred call.why call.refused)
      (evacuate_stops now next c.args.count c.in-Err.fault (λ other. (call.barred other).0) (λ phase. (call.stops phase).alone law.exact)
      (λ phase. to_write FarSide FarWrites FarLetsGo _ _ _ _ _ _ ((call.refused phase).alone law.exact)) (call.stops_exact tt))
      (evacuate_barred now next c.args.count c.in-Err.fault.why (λ other. ((call.barred other).0, ap (λ (x : EvacOf Plain FarSide). moment_in x) (call.barred other).2)) call.why);
}
