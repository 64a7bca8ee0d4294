use Rattle.std.proofs.Common.{arith}
use Rattle.far_private.specs.Objects.{state_in}
use Rattle.far_private.proofs.Keeping.{keeps_both, settled_on}
use Rattle.far_private.proofs.LastCalls.{many_on, spent_stuck, spent_want}
use Rattle.far_private.proofs.Stuck.{stuck_err}
use Rattle.far_private.proofs.last.last_round.Goals as goal

pub returns-then-has_few-clause-stuck : goal.returns-then-has_few-clause-stuck
returns-then-has_few-clause-stuck g c many = absurd (omega (arith, many, c.has_few.ensures.few c.if-has_few.true))

pub cool_all-requires-clause-settled : goal.cool_all-requires-clause-settled
cool_all-requires-clause-settled g c = settled_on (state_in c.args.evac.now) (state_in c.unmark_oldest.new.evac) c.requires.settled
    (keeps_both (state_in c.args.evac.now) (state_in c.end_round.new.evac) (state_in c.unmark_oldest.new.evac) c.end_round.ensures.keeps c.unmark_oldest.ensures.keeps)

pub send_off-requires-clause-settled : goal.send_off-requires-clause-settled
send_off-requires-clause-settled g c =
    let s = state_in c.args.evac.now in
    let u = state_in c.unmark_oldest.new.evac in
    settled_on s (state_in c.cool_all.new.evac) c.requires.settled
    (keeps_both s u (state_in c.cool_all.new.evac) (keeps_both s (state_in c.end_round.new.evac) u c.end_round.ensures.keeps c.unmark_oldest.ensures.keeps) c.cool_all.ensures.keeps)

pub send_off-requires-clause-many : goal.send_off-requires-clause-many
send_off-requires-clause-many g c =
    let s = state_in c.args.evac.now in
    let u = state_in c.unmark_oldest.new.evac in
    many_on s (state_in c.cool_all.new.evac)
    (keeps_both s u (state_in c.cool_all.new.evac) (keeps_both s (state_in c.end_round.new.evac) u c.end_round.ensures.keeps c.unmark_oldest.ensures.keeps) c.cool_all.ensures.keeps) (c.has_few.ensures.many c.if-has_few.false)

pub returns-in-Ok : goal.returns-in-Ok
returns-in-Ok g c =
    let s = state_in c.args.evac.now in
    let u = state_in c.unmark_oldest.new.evac in
    let t = state_in c.cool_all.new.evac in
    let k = keeps_both s u t (keeps_both s (state_in c.end_round.new.evac) u c.end_round.ensures.keeps c.unmark_oldest.ensures.keeps) c.cool_all.ensures.keeps in
    record {
      keeps = keeps_both s t (state_in c.send_off.new.evac) k c.send_off.ensures.keeps;
      room = c.send_off.ensures.room;
      want = c.send_off.ensures.want;
      stuck = stuck_err g.D.Device.writes s t k c.send_off.result c.send_off.ensures.stuck;
      idle = λ _. c.send_off.ensures.idle;
    }

pub returns-in-Err : goal.returns-in-Err
returns-in-Err g c = record {
  keeps = keeps_both (state_in c.args.evac.now) (state_in c.end_round.new.evac) (state_in c.unmark_oldest.new.evac) c.end_round.ensures.keeps c.unmark_oldest.ensures.keeps;
  room = tt;
  want = spent_want c.in-Err.why c.in-Err.ensures.spent;
  stuck = spent_stuck g.D.Device.writes (state_in c.args.evac.now) c.in-Err.why c.in-Err.ensures.spent;
  idle = λ _. c.unmark_oldest.ensures.idle;
}
