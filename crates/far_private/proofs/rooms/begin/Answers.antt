use Rattle.far_private.proofs.Rounds.{selects, unchanged}
use Rattle.far_private.proofs.rooms.begin.Goals as goal

pub returns-in-Ok : goal.returns-in-Ok
returns-in-Ok g c = selects c.args.evac.now c.select.new.self _ c.in-Ok.ensures.begun

pub returns-in-Err : goal.returns-in-Err
returns-in-Err g c = unchanged c.args.evac.now c.select.new.self c.in-Err.ensures.unchanged
