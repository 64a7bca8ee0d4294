use Rattle.std.proofs.Common.{IfErr, inr, subst}
use Rattle.far_hand.proofs.Closure.{then_came}
use Rattle.far_evac.specs.Choosing.{after_selecting}
use Rattle.far_evac.specs.EvacOf.{moment}
use Rattle.far_evac.specs.Moment.{Moment}
use Rattle.far_evac.specs.RoundAsked.{StopsAsking}
use Rattle.far_evac.specs.Turns.{HaltsTurns}
use Rattle.far_evac.specs.declared.answers.EvacFault.{EvacFault}
use Rattle.far_evac.proofs.SendingOff.{err_all, err_given}
use Rattle.far_evac.proofs.evac.Evac.run_round.Goals as goal

pub returns-clause-refused : goal.returns-clause-refused
returns-clause-refused g c none =
    let D = g.row.D.Denot in
    let first = after_selecting (moment g.N.Near.view c.args.self.now) c.in-Ok.logs in
    let asks : Moment → D → Type 0 = λ m device. IfErr c.make_turns.result (λ (fault : EvacFault). StopsAsking g.N.Near.still D g.D.Device.writes g.D.Device.lets_go g.D.Device.contents m c.args.turns fault.so_far fault.why (moment g.N.Near.view c.make_turns.new.self) device c.make_turns.new.self.book.device) in
    let asked = subst (asks first) c.select.ensures.device (subst (λ (m : Moment). asks m c.select.new.self.book.device) c.in-Ok.ensures.begun c.make_turns.ensures.refused) in
    let halts = err_given g.N.Near.still (λ (fault : EvacFault). HaltsTurns first c.args.turns fault.so_far (moment g.N.Near.view c.make_turns.new.self)) c.make_turns.result (λ still. subst (λ (m : Moment). IfErr c.make_turns.result (λ (fault : EvacFault). HaltsTurns m c.args.turns fault.so_far (moment g.N.Near.view c.make_turns.new.self))) c.in-Ok.ensures.begun (c.make_turns.ensures.halts still)) in
    err_all c.make_turns.result (λ fault halt why ask. inr (c.in-Ok.logs, c.in-Ok.ensures.gives, why, halt, ask)) halts c.make_turns.ensures.why asked

pub returns-clause-came : goal.returns-clause-came
returns-clause-came g c = then_came c.select.ensures.came c.make_turns.ensures.came
