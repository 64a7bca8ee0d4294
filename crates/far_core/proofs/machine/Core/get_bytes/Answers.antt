use Rattle.std.proofs.Common.{arith}
use Rattle.far_core.proofs.machine.Core.get_bytes.Goals as goal

pub returns-clause-legal : goal.returns-clause-legal
returns-clause-legal c = λ k lt. (c.requires.log, omega (arith, lt, c.requires.inside), tt)
