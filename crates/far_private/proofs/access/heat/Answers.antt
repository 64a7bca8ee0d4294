use Rattle.std.proofs.Common.{subst, sym, ◌∙◌}
use Rattle.far_private.specs.Objects.{state_in}
use Rattle.far_private.specs.Steps.{Keeps}
use Rattle.far_private.proofs.Resting.{at_rest, heat_keeps}
use Rattle.far_private.proofs.access.heat.Goals as goal

pub heat-requires : goal.heat-requires
heat-requires g c = record { rest = at_rest (state_in c.args.evac.now) c.args.evac.now.book.near.core.law c.requires.settled c.args.pointer c.requires.used }

pub returns : goal.returns
returns g c = record {
  keeps = subst (Keeps (state_in c.args.evac.now)) (sym c.heat.ensures.state) (heat_keeps (state_in c.args.evac.now) c.args.evac.now.book.near.core.law c.requires.settled c.args.pointer c.requires.used);
  idle = λ e. c.heat.ensures.round.0 ∙ e;
}
