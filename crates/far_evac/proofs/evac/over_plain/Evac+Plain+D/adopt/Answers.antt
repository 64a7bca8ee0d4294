use Rattle.far_core.specs.state.CoreState.{core_state}
use Rattle.far_evac.proofs.Sound.{sound_of_owners}
use Rattle.far_evac.proofs.evac.over_plain.Evac+Plain+D.adopt.Goals as goal

pub invariant_of-self : goal.invariant_of-self
invariant_of-self g c = sound_of_owners (core_state c.self.inside.book.near.core) (core_state c.adopt.new.self.near.core) c.self.inside.round c.self.invariant c.adopt.ensures.changes
