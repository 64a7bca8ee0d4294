use Rattle.std.proofs.Common.{sym, ◌∙◌}
use Rattle.far_events.specs.state.Memory.{state_of}
use Rattle.far_events.proofs.JobPlaces.{task_lies}
use Rattle.far_events.proofs.memory.Memory.finish.Goals as goal

pub pack-requires : goal.pack-requires
pack-requires c = (task_lies (state_of c.args.self.now) c.requires.law c.args.copier c.in-Some.task (sym c.task.ensures.is ∙ c.in-Some.is)).1

pub set_job-requires : goal.set_job-requires
set_job-requires c = (task_lies (state_of c.args.self.now) c.requires.law c.args.copier c.in-Some.task (sym c.task.ensures.is ∙ c.in-Some.is)).0

pub end_task-requires : goal.end_task-requires
end_task-requires c = (task_lies (state_of c.args.self.now) c.requires.law c.args.copier c.in-Some.task (sym c.task.ensures.is ∙ c.in-Some.is)).1.1
