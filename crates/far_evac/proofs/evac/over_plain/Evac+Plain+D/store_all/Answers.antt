use Rattle.far_core.specs.state.CoreState.{core_state}
use Rattle.far_evac.proofs.Sound.{sound_stored}
use Rattle.far_evac.proofs.evac.over_plain.Evac+Plain+D.store_all.Goals as goal

pub invariant_of-self : goal.invariant_of-self
invariant_of-self g c =
    sound_stored (core_state c.self.inside.book.near.core) (core_state c.store_all.new.self.near.core) c.self.inside.round c.self.invariant c.args.owner c.args.pointer c.args.first c.args.words.now c.store_all.ensures.state
