use Rattle.std.proofs.Common.{arith}
use Rattle.far_evac.specs.EvacOf.{moment_alone}
use Rattle.far_private.proofs.RoundsAsked.{no_round}
use Rattle.far_private.proofs.Rounds.{selects, unchanged}
use Rattle.far_private.proofs.LastCalls.{stays_idle}
use Rattle.far_private.proofs.freeing.begin.Goals as goal

pub returns-in-Ok : goal.returns-in-Ok
returns-in-Ok g c = record {
  keeps = selects c.args.evac.now c.select.new.self _ c.in-Ok.ensures.begun;
  few = omega (arith, c.in-Ok.ensures.chosen.few, c.len.ensures);
  named = (_, _, c.in-Ok.ensures.gives, omega (arith, c.len.ensures));
  refused = tt;
  idle = tt;
}

pub returns-in-Err : goal.returns-in-Err
returns-in-Err g c = record {
  keeps = unchanged c.args.evac.now c.select.new.self c.in-Err.ensures.unchanged;
  few = tt;
  named = tt;
  refused = no_round g.P.Policy.gives c.args.policy.now c.select.new.policy _ c.args.most c.in-Err.why (moment_alone c.args.evac.now) _ c.requires.idle c.in-Err.ensures.barred c.in-Err.ensures.why;
  idle = stays_idle c.args.evac.now c.select.new.self c.in-Err.ensures.unchanged c.requires.idle;
}
