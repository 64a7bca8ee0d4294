use Rattle.std.proofs.Common.{◌∙◌}
use Rattle.far_word.specs.Pointer.{read_of}
use Rattle.far_private.specs.Objects.{state_in}
use Rattle.far_private.proofs.Coming.{near_inside, near_quiet, near_told}
use Rattle.far_private.proofs.Cooling.{cool_near, cools, cools_order}
use Rattle.far_private.proofs.Resting.{ask_legal}
use Rattle.far_private.proofs.last.calm.Goals as goal

pub ask-requires : goal.ask-requires
ask-requires g c = record { legal = ask_legal (state_in c.args.evac.now) c.args.evac.now.book.near.core.law c.requires.settled c.args.pointer c.requires.used }

pub move_now-requires-clause-quiet : goal.move_now-requires-clause-quiet
move_now-requires-clause-quiet g c = near_quiet (state_in c.args.evac.now) c.args.pointer c.args.evac.now.book.near.core.law c.requires.settled c.requires.used (cool_near (read_of ((state_in c.args.evac.now).cell c.args.pointer)) c.requires.hot) (state_in c.ask.new.self) c.ask.ensures.state

pub move_now-requires-clause-pointer : goal.move_now-requires-clause-pointer
move_now-requires-clause-pointer g c = near_inside (state_in c.args.evac.now) c.args.pointer c.args.evac.now.book.near.core.law c.requires.settled c.requires.used (cool_near (read_of ((state_in c.args.evac.now).cell c.args.pointer)) c.requires.hot) (state_in c.ask.new.self) c.ask.ensures.state

pub returns : goal.returns
returns g c =
    let s = state_in c.args.evac.now in
    let law = c.args.evac.now.book.near.core.law in
    let near = cool_near (read_of (s.cell c.args.pointer)) c.requires.hot in
    record {
      keeps = near_told s c.args.pointer law c.requires.settled c.requires.used near (state_in c.ask.new.self) (state_in c.move_now.new.self)
          c.in-Ok-Some.field-0 c.in-Ok-Some.field-0-0 c.in-Ok-Some.field-0-is c.ask.ensures.state c.in-Ok-Some.ensures.moved.place (c.in-Ok-Some.ensures.moved.exact tt);
      phase = c.move_now.ensures.round.0 ∙ c.ask.ensures.round.0;
      order = cools_order s c.args.pointer law c.requires.settled c.requires.used c.requires.hot (state_in c.ask.new.self) c.in-Ok-Some.field-0 c.in-Ok-Some.field-0-0 c.ask.new.self.book.order c.move_now.new.self.book.order c.in-Ok-Some.field-0-is c.ask.ensures.state
          c.in-Ok-Some.ensures.moved.order ∙ c.ask.ensures.order;
      cooled = cools s c.args.pointer law c.requires.settled c.requires.used c.requires.hot (state_in c.ask.new.self) (state_in c.move_now.new.self) c.in-Ok-Some.field-0 c.in-Ok-Some.field-0-0 c.in-Ok-Some.field-0-is c.ask.ensures.state (c.in-Ok-Some.ensures.moved.exact tt);
    }
