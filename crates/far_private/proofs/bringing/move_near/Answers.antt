use Rattle.far_private.specs.Objects.{state_in}
use Rattle.far_private.proofs.Coming.{near_crowded, near_inside, near_quiet, near_rests, near_stays, near_told}
use Rattle.far_private.proofs.Resting.{ask_legal}
use Rattle.far_private.proofs.Stuck.{move_roomy}
use Rattle.std.proofs.Common.{◌∙◌}
use Rattle.far_private.proofs.bringing.move_near.Goals as goal

pub ask-requires : goal.ask-requires
ask-requires g c = record { legal = ask_legal (state_in c.args.evac.now) c.args.evac.now.book.near.core.law c.requires.settled c.args.pointer c.requires.used }

pub move_now-requires-clause-quiet : goal.move_now-requires-clause-quiet
move_now-requires-clause-quiet g c = near_quiet (state_in c.args.evac.now) c.args.pointer c.args.evac.now.book.near.core.law c.requires.settled c.requires.used c.requires.near (state_in c.ask.new.self) c.ask.ensures.state

pub move_now-requires-clause-pointer : goal.move_now-requires-clause-pointer
move_now-requires-clause-pointer g c = near_inside (state_in c.args.evac.now) c.args.pointer c.args.evac.now.book.near.core.law c.requires.settled c.requires.used c.requires.near (state_in c.ask.new.self) c.ask.ensures.state

pub returns-in-Ok-Some : goal.returns-in-Ok-Some
returns-in-Ok-Some g c = record {
  keeps = near_told (state_in c.args.evac.now) c.args.pointer c.args.evac.now.book.near.core.law c.requires.settled c.requires.used c.requires.near (state_in c.ask.new.self) (state_in c.move_now.new.self)
      c.in-Ok-Some.field-0 c.in-Ok-Some.field-0-0 c.in-Ok-Some.field-0-is c.ask.ensures.state c.in-Ok-Some.ensures.moved.place (c.in-Ok-Some.ensures.moved.exact tt);
  rests = near_rests (state_in c.args.evac.now) c.args.pointer c.args.evac.now.book.near.core.law c.requires.settled c.requires.used c.requires.near (state_in c.ask.new.self) (state_in c.move_now.new.self)
      c.in-Ok-Some.field-0 c.in-Ok-Some.field-0-0 c.in-Ok-Some.field-0-is c.ask.ensures.state c.in-Ok-Some.ensures.moved.place (c.in-Ok-Some.ensures.moved.exact tt);
  crowded = tt;
  roomy = λ _. tt;
  idle = λ e. c.move_now.ensures.round.0 ∙ c.ask.ensures.round.0 ∙ e;
}

pub returns-in-Err : goal.returns-in-Err
returns-in-Err g c = record {
  keeps = near_stays (state_in c.args.evac.now) c.args.pointer c.args.evac.now.book.near.core.law c.requires.settled c.requires.used c.requires.near (state_in c.ask.new.self) (state_in c.move_now.new.self)
      c.ask.ensures.state (c.in-Err.ensures.moved.unchanged tt);
  rests = tt;
  crowded = near_crowded (state_in c.args.evac.now) c.args.pointer c.args.evac.now.book.near.core.law c.requires.settled c.requires.used c.requires.near (state_in c.ask.new.self) (state_in c.move_now.new.self)
      c.in-Err.why c.ask.ensures.state (c.in-Err.ensures.moved.unchanged tt) c.in-Err.ensures.moved.refused c.in-Err.ensures.moved.none;
  roomy = move_roomy (state_in c.args.evac.now) c.args.pointer c.args.evac.now.book.near.core.law c.requires.settled c.requires.used c.requires.near (state_in c.ask.new.self) c.in-Err.why c.ask.ensures.state c.in-Err.ensures.moved.none;
  idle = λ e. c.move_now.ensures.round.0 ∙ c.ask.ensures.round.0 ∙ e;
}
