use Rattle.std.proofs.Common.{arith}
use Rattle.far_heap.proofs.rows.Rows.end_scope.Goals as goal

-- the counts begin anew where the next has no number
pub returns-clause-next : goal.returns-clause-next
returns-clause-next c few = absurd (omega (arith, few))
