use Rattle.far_private.specs.Objects.{state_in}
use Rattle.far_private.proofs.Stuck.{stuck_err}
use Rattle.far_private.proofs.bringing.bring_anew.Goals as goal

pub returns-in-Err-NoRoom-clause-stuck : goal.returns-in-Err-NoRoom-clause-stuck
returns-in-Err-NoRoom-clause-stuck g c = stuck_err g.D.Device.writes (state_in c.args.evac.now) (state_in c.bring.new.evac) c.bring.ensures.keeps c.bring_again.result c.bring_again.ensures.stuck
