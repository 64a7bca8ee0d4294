use Rattle.far_events.specs.state.Memory.{state_of}
use Rattle.far_core.proofs.JobLaws.{jobs_stand}
use Rattle.far_core.proofs.machine.Core.jobs_stand.Goals as goal

pub returns : goal.returns
returns c = jobs_stand (state_of c.args.self.now.memory) c.args.self.now.law
