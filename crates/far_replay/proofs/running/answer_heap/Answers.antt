use Rattle.std.proofs.Common.{ap, inr, subst, sym}
use Rattle.far_events.specs.state.Shape.{is_shape}
use Rattle.far_evac.specs.MomentLaw.{MomentLaw}
use Rattle.far_evac.specs.Strays.{NoneStrays}
use Rattle.std.specs.Option.{option_map}
use Rattle.far_text.specs.Command.{as_device}
use Rattle.far_replay.specs.Answers.{is_true}
use Rattle.far_alone.specs.Between.{Between}
use Rattle.far_replay.specs.Moment.{Moment}
use Rattle.far_replay.proofs.Opened.{opening_between, opening_round, opening_strays}
use Rattle.far_replay.proofs.Runs.{in_range, written_front}
use Rattle.far_replay.proofs.running.answer_heap.Goals as goal

pub returns-in-Err-Memory-clause-fault : goal.returns-in-Err-Memory-clause-fault
returns-in-Err-Memory-clause-fault g c =
    let shape = c.args.shape in
    inr (in_range c.in-Err-Memory.field-0 (is_shape shape) c.in-Err-Memory.field-0-is c.in-Err-Memory.ensures.refused, written_front _ _ c.refuse.result _ c.refuse.ensures)

pub answer_commands-requires-clause-between : goal.answer_commands-requires-clause-between
answer_commands-requires-clause-between g c =
    let shape = c.args.shape in
    subst (λ (m : Moment). Between m.core) (sym c.in-Ok.ensures.moment) (opening_between shape.logs shape.mutators shape.epoch (is_true (option_map as_device c.args.device)) c.in-Ok.ensures.range)

pub answer_commands-requires-clause-round : goal.answer_commands-requires-clause-round
answer_commands-requires-clause-round g c =
    let shape = c.args.shape in
    subst MomentLaw (sym c.in-Ok.ensures.moment) (opening_round shape.logs shape.mutators shape.epoch (is_true (option_map as_device c.args.device)) c.in-Ok.ensures.range)

pub answer_commands-requires-clause-alone : goal.answer_commands-requires-clause-alone
answer_commands-requires-clause-alone g c = ap (λ (m : Moment). m.copying) c.in-Ok.ensures.moment

pub answer_commands-requires-clause-strays : goal.answer_commands-requires-clause-strays
answer_commands-requires-clause-strays g c =
    let shape = c.args.shape in
    subst NoneStrays (sym c.in-Ok.ensures.moment) (opening_strays shape.logs shape.mutators shape.epoch (is_true (option_map as_device c.args.device)) c.in-Ok.ensures.range)
