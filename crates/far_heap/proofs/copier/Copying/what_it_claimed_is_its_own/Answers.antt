use Rattle.std.proofs.Common.{subst}
use Rattle.far_events.specs.state.State.{State}
use Rattle.far_table.specs.CopySeats.{IsTakenBy}
use Rattle.far_table.specs.Tells.{CopierMayBe, CopierStands}
use Rattle.far_heap.specs.Copiers.{CopyingOf}
use Rattle.far_heap.proofs.copier.Copying.what_it_claimed_is_its_own.Goals as goal

pub returns-clause-taken : goal.returns-clause-taken
returns-clause-taken g c = subst (λ (x : CopyingOf). (s : State) → CopierMayBe x.seat.view s → IsTakenBy x.seat.view.number x.job s) c.self.view_is c.what_it_claimed_is_its_own.ensures.taken

pub returns-clause-there : goal.returns-clause-there
returns-clause-there g c = subst (λ (x : CopyingOf). CopierStands x.seat.view) c.self.view_is c.what_it_claimed_is_its_own.ensures.there
