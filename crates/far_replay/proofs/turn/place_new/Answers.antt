use Rattle.std.proofs.Common.{sym, refl, Some, None, true, arith}
use Rattle.far_word.specs.Sizes.{size_of}
use Rattle.far_core.specs.state.Room.{room}
use Rattle.far_events.specs.state.State.{State}
use Rattle.far_replay.specs.Moment.{state_in}
use Rattle.far_alone.proofs.Lowest.{lowest_agrees}
use Rattle.far_replay.proofs.Placing.{new_refusal, object_made}
use Rattle.far_replay.proofs.turn.place_new.Goals as goal

pub returns-in_default-clause-refusal : goal.returns-in_default-clause-refusal
returns-in_default-clause-refusal c =
    let s : State = state_in c.args.evac.now in
    sym (new_refusal s c.args.owner c.args.len c.args.ds None (room s (size_of c.args.len) true) c.requires.known (omega arith) (omega arith) (omega arith) (lowest_agrees s c.args.owner None c.in_default.ensures) refl)

pub returns-clause-cell : goal.returns-clause-cell
returns-clause-cell c = lowest_agrees (state_in c.args.evac.now) c.args.owner (Some c.in-Some.pointer) c.in-Some.ensures

pub returns-in_default-place-clause-refusal : goal.returns-in_default-place-clause-refusal
returns-in_default-place-clause-refusal c =
    let s : State = state_in c.args.evac.now in
    sym (new_refusal s c.args.owner c.args.len c.args.ds (Some c.in-Some.pointer) None c.requires.known (omega arith) (omega arith) (omega arith) (lowest_agrees s c.args.owner (Some c.in-Some.pointer) c.in-Some.ensures) c.in_default-place.ensures.placed.none)

pub returns-clause-refusal : goal.returns-clause-refusal
returns-clause-refusal c =
    let s : State = state_in c.args.evac.now in
    sym (new_refusal s c.args.owner c.args.len c.args.ds (Some c.in-Some.pointer) (Some c.in-Ok.field-0) c.requires.known (omega arith) (omega arith) (omega arith) (lowest_agrees s c.args.owner (Some c.in-Some.pointer) c.in-Some.ensures) c.in-Ok.ensures.placed.room)

pub returns-clause-made : goal.returns-clause-made
returns-clause-made c =
    object_made (state_in c.args.evac.now) _ (state_in c.make_event.new.evac) c.make_event.result c.args.owner c.in-Some.pointer c.args.len c.args.ds c.in-Ok.field-0 c.args.evac.now.book.near.core.law c.requires.known c.in-Some.ensures
    (omega arith) (omega arith) (omega arith) c.in-Ok.ensures.placed.room (c.in-Ok.ensures.placed.exact tt) (c.make_event.ensures.made refl)
