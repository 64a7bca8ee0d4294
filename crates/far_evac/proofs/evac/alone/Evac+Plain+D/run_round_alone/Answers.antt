use Rattle.std.proofs.Common.{IfErr, inr, subst}
use Rattle.far_evac.specs.Choosing.{after_selecting}
use Rattle.far_evac.specs.EvacOf.{moment_alone}
use Rattle.far_evac.specs.Moment.{Moment}
use Rattle.far_evac.specs.RoundAsked.{StopsAsking}
use Rattle.far_evac.specs.Turns.{HaltsTurns}
use Rattle.far_evac.specs.declared.answers.EvacFault.{EvacFault}
use Rattle.far_evac.proofs.SendingOff.{err_all}
use Rattle.far_evac.proofs.evac.alone.Evac+Plain+D.run_round_alone.Goals as goal

pub returns-clause-refused : goal.returns-clause-refused
returns-clause-refused g c none =
    let D = g.row.D.Denot in
    let first = after_selecting (moment_alone c.args.self.now) c.in-Ok.logs in
    let asks : Moment → D → Type 0 = λ m device. IfErr c.make_turns.result (λ (fault : EvacFault). StopsAsking (Unit {0}) D g.D.Device.writes g.D.Device.lets_go g.D.Device.contents m c.args.turns fault.so_far fault.why (moment_alone c.make_turns.new.self) device c.make_turns.new.self.book.device) in
    let asked = subst (asks first) c.select.ensures.device (subst (λ (m : Moment). asks m c.select.new.self.book.device) c.in-Ok.ensures.begun c.make_turns.ensures.refused) in
    let halts = subst (λ (m : Moment). IfErr c.make_turns.result (λ (fault : EvacFault). HaltsTurns m c.args.turns fault.so_far (moment_alone c.make_turns.new.self))) c.in-Ok.ensures.begun (c.make_turns.ensures.halts tt) in
    err_all c.make_turns.result (λ fault halt why ask. inr (c.in-Ok.logs, c.in-Ok.ensures.gives, why, halt, ask)) halts c.make_turns.ensures.why asked
