use Rattle.std.proofs.Common.{◌∙◌, ap}
use Rattle.far_events.specs.events.Accesses.{heats}
use Rattle.far_events.specs.events.Ranges.{after_events}
use Rattle.far_core.specs.state.CoreState.{core_state}
use Rattle.far_hand.specs.declared.plain.Plain.{Plain}
use Rattle.far_book.proofs.region.Accessed.{heats_owned}
use Rattle.far_evac.specs.EvacOf.{EvacOf}
use Rattle.far_evac.proofs.Accessed.{sound_after}
use Rattle.far_evac.proofs.evac.over_plain.Evac+Plain+D.heat.Goals as goal

pub invariant_of-self : goal.invariant_of-self
invariant_of-self g c =
    let core = c.self.inside.book.near.core in
    sound_after c.self.inside.round (heats c.args.owner c.args.pointer) (heats_owned c.args.owner c.args.pointer) (core_state core) (core_state c.heat.new.self.near.core) core.law c.heat.ensures.events c.self.invariant

pub returns-clause-events : goal.returns-clause-events
returns-clause-events g c = c.heat.ensures.events ∙ ap (λ (e : EvacOf Plain g.row.D.Denot). after_events (core_state e.book.near.core) (heats c.args.owner c.args.pointer)) c.self.view_is
