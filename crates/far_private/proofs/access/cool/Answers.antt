use Rattle.far_private.specs.Objects.{state_in}
use Rattle.far_private.proofs.Resting.{at_rest, cool_keeps}
use Rattle.std.proofs.Common.{◌∙◌}
use Rattle.far_private.proofs.access.cool.Goals as goal

pub cool-requires-clause-rest : goal.cool-requires-clause-rest
cool-requires-clause-rest g c = at_rest (state_in c.args.evac.now) c.args.evac.now.book.near.core.law c.requires.settled c.args.pointer c.requires.used

pub returns : goal.returns
returns g c = record {
  keeps = cool_keeps (state_in c.args.evac.now) c.args.evac.now.book.near.core.law c.requires.settled c.args.pointer c.requires.used (state_in c.cool.new.self) c.requires.rests c.cool.ensures.state;
  idle = λ e. c.cool.ensures.round.0 ∙ e;
}
