use Rattle.std.proofs.Common.{ap, sym, ◌∙◌, true}
use Rattle.far_word.specs.Sizes.{size_of}
use Rattle.far_core.specs.state.Room.{room}
use Rattle.far_text.specs.Command.{Mutator, New}
use Rattle.far_replay.specs.Moment.{Moment, moment_in}
use Rattle.far_replay.specs.Turn.{with_new}
use Rattle.far_replay.proofs.Joining.{new_order}
use Rattle.far_replay.proofs.Turns.{made_by_events}
use Rattle.far_replay.proofs.turn.make_object.Goals as goal

pub returns-in-Ok-clause-state : goal.returns-in-Ok-clause-state
returns-in-Ok-clause-state c =
    let now : Moment = moment_in c.args.evac.now in
    made_by_events now _ (Mutator c.args.owner (New c.args.len c.args.ds)) tt c.requires.law c.requires.between tt (sym c.in-Ok.ensures.refusal)
    (c.in-Ok.ensures.made ∙ ap (λ o. with_new now.core c.args.owner c.args.len c.args.ds o (room now.core (size_of c.args.len) true)) (sym c.in-Ok.ensures.cell))

pub returns-in-Ok-clause-order : goal.returns-in-Ok-clause-order
returns-in-Ok-clause-order c = c.in-Ok.ensures.order ∙ sym (new_order (moment_in c.args.evac.now) c.args.owner c.args.len c.args.ds c.requires.law (sym c.in-Ok.ensures.refusal))
