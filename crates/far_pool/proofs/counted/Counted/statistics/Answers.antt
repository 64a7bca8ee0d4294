use Rattle.std.proofs.Common.{arith}
use Rattle.far_pool.proofs.Counting.{few_some}
use Rattle.far_pool.proofs.counted.Counted.statistics.Goals as goal

pub returns-clause-few : goal.returns-clause-few
returns-clause-few g c = omega (arith, c.statistics.ensures.objects, few_some c.self.inside.heap.objects, c.keeps_law.ensures.law.many)
