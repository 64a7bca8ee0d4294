use Rattle.std.proofs.Common.{arith}
use Rattle.far_events.specs.state.Memory.{state_of}
use Rattle.far_core.proofs.Calls.{load_legal}
use Rattle.far_core.proofs.machine.Core.load_bytes.Goals as goal

pub returns-clause-legal : goal.returns-clause-legal
returns-clause-legal c = λ k lt. load_legal (state_of c.args.self.now.memory) c.args.owner c.args.pointer k c.args.self.now.law c.requires.own c.requires.held (omega (arith, lt, c.requires.inside))
