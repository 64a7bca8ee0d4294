use Rattle.std.proofs.Common.{sym, ◌∙◌}
use Rattle.far_events.specs.state.Memory.{state_of}
use Rattle.far_events.proofs.JobPlaces.{source_lies}
use Rattle.far_events.proofs.memory.Memory.read_length.Goals as goal

pub learn_length-requires : goal.learn_length-requires
learn_length-requires c = (source_lies (state_of c.args.self.now) c.requires.law c.args.copier c.in-Some.task (sym c.task.ensures.is ∙ c.in-Some.is)).2
