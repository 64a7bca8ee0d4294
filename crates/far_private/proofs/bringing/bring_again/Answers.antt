use Rattle.far_private.specs.Objects.{state_in}
use Rattle.far_private.proofs.Keeping.{keeps_both}
use Rattle.far_private.proofs.Stuck.{stuck_err}
use Rattle.far_private.proofs.bringing.bring_again.Goals as goal

pub returns-clause-stuck : goal.returns-clause-stuck
returns-clause-stuck g c = stuck_err g.D.Device.writes (state_in c.args.evac.now) (state_in c.make.new.evac)
    (keeps_both (state_in c.args.evac.now) (state_in c.loop-rounds.evac) (state_in c.make.new.evac) c.loop-rounds.invariant.keeps c.make.ensures.keeps) c.bring_last.result c.bring_last.ensures.stuck
