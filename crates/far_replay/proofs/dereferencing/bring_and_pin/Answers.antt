use Rattle.std.proofs.Common.{rules}
use Rattle.far_replay.specs.Interpreter.{as_given}
use Rattle.far_replay.specs.Moment.{state_in}
use Rattle.far_alone.proofs.Bringing.{came_opened, came_unheld, came_used}
use Rattle.far_replay.proofs.Given.{came_views}
use Rattle.far_replay.proofs.Told.{holds_both, same_holds}
use Rattle.far_replay.proofs.dereferencing.bring_and_pin.Goals as goal

pub pin-requires-clause-opened : goal.pin-requires-clause-opened
pin-requires-clause-opened c =
    let (o, came) = c.in-Ok.ensures.brought.comes in
    let s = state_in c.args.evac.now in
    came_opened (as_given o s c.args.pointer s) (as_given o s c.args.pointer (state_in c.bring.new.evac)) c.args.owner c.args.pointer came.state c.requires.opened

pub pin-requires-clause-used : goal.pin-requires-clause-used
pin-requires-clause-used c =
    let (o, came) = c.in-Ok.ensures.brought.comes in
    let s = state_in c.args.evac.now in
    came_used (as_given o s c.args.pointer s) (as_given o s c.args.pointer (state_in c.bring.new.evac)) c.args.owner c.args.pointer came.state c.requires.used

pub pin-requires-clause-unheld : goal.pin-requires-clause-unheld
pin-requires-clause-unheld c =
    let (o, came) = c.in-Ok.ensures.brought.comes in
    let s = state_in c.args.evac.now in
    came_unheld (as_given o s c.args.pointer s) (as_given o s c.args.pointer (state_in c.bring.new.evac)) c.args.owner c.args.pointer came.state c.requires.unheld

pub returns-in-Ok : goal.returns-in-Ok
returns-in-Ok c =
    let (o, came) = c.in-Ok.ensures.brought.comes in
    record {
      viewed = record {
        done = (o, came_views c.args.evac.now c.bring.new.evac c.pin.new.evac c.args.owner c.args.pointer o came c.pin.ensures.state c.pin.ensures.order c.pin.ensures.device);
        refused = tt;
        shut = tt;
        round = search rules;
        spent = tt;
        same = holds_both c.args.evac.now c.bring.new.evac c.pin.new.evac c.in-Ok.ensures.brought.same (same_holds c.bring.new.evac c.pin.new.evac c.pin.ensures.device);
        far = tt;
      };
    }

pub returns-in-Err : goal.returns-in-Err
returns-in-Err c = record {
  viewed = record {
    done = tt;
    refused = c.in-Err.ensures.brought.refused;
    shut = c.in-Err.ensures.brought.shut;
    round = c.in-Err.ensures.brought.round;
    spent = c.in-Err.ensures.brought.spent;
    same = c.in-Err.ensures.brought.same;
    far = c.in-Err.ensures.far;
  };
}
