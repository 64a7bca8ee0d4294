use Rattle.std.proofs.Common.{ℕ, ap, arith, Option, None}
use Rattle.far_events.specs.declared.event.Task.{Task}
use Rattle.far_events.specs.state.Memory.{copying_of}
use Rattle.far_events.proofs.Items.{item_put}
use Rattle.far_events.proofs.memory.jobs.Jobs.set_task.Goals as goal

pub returns : goal.returns
unfolding copying_of
returns c = ap (λ (f : ℕ → Option Task). record (copying_of c.args.self.now) { task = f })
    (item_put c.args.self.now.tasks c.args.copier c.args.task None (omega (arith, c.requires, c.args.self.now.tasks_sized)))
