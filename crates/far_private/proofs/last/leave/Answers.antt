use Rattle.std.proofs.Common.{arith}
use Rattle.far_private.specs.Objects.{state_in}
use Rattle.far_private.proofs.Keeping.{keeps_both}
use Rattle.far_private.proofs.LastSteps.{leaves_empty, leaves_keeps, stops_keeps, stops_taken, leaves_idle}
use Rattle.far_private.proofs.last.leave.Goals as goal

pub returns-in-Ok : goal.returns-in-Ok
returns-in-Ok g c =
    let old = c.args.evac.now in
    let new = c.evacuate_some.new.self in
    let law = old.book.near.core.law in
    let moment = c.keeps_law.ensures.moment in
    let alone = c.keeps_law.ensures.exact tt in
    let is = (c.in-Ok.ensures.exact tt).0 in
    record {
      keeps = leaves_keeps old new law moment alone c.requires.evacuating 65536 is;
      emptied = leaves_empty old new law moment alone c.requires.evacuating 65536 (omega arith) is c.requires.cold;
      want = tt;
      stuck = tt;
      idle = leaves_idle old new law moment alone c.requires.evacuating 65536 (omega arith) is;
    }

pub returns-in-Err : goal.returns-in-Err
returns-in-Err g c =
    let old = c.args.evac.now in
    let new = c.evacuate_some.new.self in
    let law = old.book.near.core.law in
    let moment = c.keeps_law.ensures.moment in
    let alone = c.keeps_law.ensures.exact tt in
    let stops = c.in-Err.ensures.stops_exact tt c.requires.evacuating in
    record {
      keeps = keeps_both (state_in old) (state_in new) (state_in c.end_round.new.evac) (stops_keeps old new law moment alone c.requires.evacuating stops.0 stops.2) c.end_round.ensures.keeps;
      emptied = tt;
      want = tt;
      stuck = λ _. stops_taken old new law moment alone c.requires.evacuating stops.0 stops.2 g.D.Device.writes g.D.Device.lets_go _ _ _ _ new.book.near.core.law ((c.in-Err.ensures.refused c.requires.evacuating).alone alone);
      idle = c.end_round.ensures.idle;
    }
