use Rattle.far_core.specs.state.CoreState.{core_state}
use Rattle.far_evac.proofs.Accessed.{sound_reworded}
use Rattle.far_evac.proofs.evac.over_plain.Evac+Plain+D.cool.Goals as goal

pub invariant_of-self : goal.invariant_of-self
invariant_of-self g c =
    sound_reworded c.self.inside.round (core_state c.self.inside.book.near.core) (core_state c.cool.new.self.near.core) c.args.pointer c.self.inside.book.near.core.law c.cool.ensures.one c.cool.ensures.sealed c.self.invariant
