use Rattle.far_private.specs.Objects.{state_in}
use Rattle.far_private.proofs.Placing.{drop_legal, drop_objects, drop_settled, dropped_inside, dropped_so}
use Rattle.std.proofs.Common.{◌∙◌}
use Rattle.far_private.proofs.places.drop_used.Goals as goal

pub ask-requires : goal.ask-requires
ask-requires g c = record { legal = drop_legal (state_in c.args.evac.now) c.args.pointer c.args.evac.now.book.near.core.law c.requires.settled c.requires.used }

pub retire-requires-clause-pointer : goal.retire-requires-clause-pointer
retire-requires-clause-pointer g c = dropped_inside (state_in c.args.evac.now) c.args.pointer c.args.evac.now.book.near.core.law c.requires.settled c.requires.used (state_in c.ask.new.self) c.ask.ensures.state

pub retire-requires-clause-dropped : goal.retire-requires-clause-dropped
retire-requires-clause-dropped g c = dropped_so (state_in c.args.evac.now) c.args.pointer c.args.evac.now.book.near.core.law c.requires.settled c.requires.used (state_in c.ask.new.self) c.ask.ensures.state

pub returns : goal.returns
returns g c = record {
  settled = drop_settled (state_in c.args.evac.now) c.args.pointer c.args.evac.now.book.near.core.law c.requires.settled c.requires.used (state_in c.retire.new.self) (state_in c.ask.new.self) c.ask.ensures.state
      (c.retire.ensures.retired.exact tt);
  dropped = drop_objects (state_in c.args.evac.now) c.args.pointer c.args.evac.now.book.near.core.law c.requires.settled c.requires.used (state_in c.retire.new.self) (state_in c.ask.new.self) c.ask.ensures.state
      (c.retire.ensures.retired.exact tt);
  idle = λ e. c.retire.ensures.round.0 ∙ c.ask.ensures.round.0 ∙ e;
}
