use Rattle.std.proofs.Common.{subst}
use Rattle.far_table.specs.Seats.{CopierSeated}
use Rattle.far_table.specs.Tells.{CopierStands}
use Rattle.far_table.proofs.CopySeatLemmas.{taken_by}
use Rattle.far_table.proofs.copy_seat.CopySeat.what_it_claimed_is_its_own.Goals as goal

pub returns-clause-taken : goal.returns-clause-taken
returns-clause-taken g c = λ x may. taken_by c.args.self.now.view c.args.job.now c.requires.own x may

pub returns-clause-there : goal.returns-clause-there
returns-clause-there g c = subst (λ (z : CopierSeated). CopierStands z.view) c.self.view_is c.self.invariant.6
