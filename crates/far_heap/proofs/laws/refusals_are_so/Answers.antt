use Rattle.far_heap.proofs.Refusals.{refusals_are_so}
use Rattle.far_heap.proofs.laws.refusals_are_so.Goals as goal

pub returns : goal.returns
returns c = refusals_are_so
