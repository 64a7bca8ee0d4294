use Rattle.far_evac.proofs.evac.Evac.in_no_round.Goals as goal
use Rattle.std.proofs.Common.{[], arith, refl}
use Rattle.far_evac.specs.declared.phase.Phase.TheVariants.{Idle}
use Rattle.far_evac.proofs.HeldJobs.{none_held}
use Rattle.far_evac.proofs.Standings.{idle_round}

pub invariant_of-result : goal.invariant_of-result
invariant_of-result g c = record {
  round = idle_round (g.N.Near.view c.args.book.near) _ refl (omega arith);
  jobs = record { alone = λ _. c.requires.alone; held = none_held (g.N.Near.view c.args.book.near) Idle [] c.requires.alone };
  exact = c.requires.exact;
}
