use Rattle.far_core.proofs.TakingCopies.{copies_taken}
use Rattle.far_core.proofs.machine.laws.copies_are_taken.Goals as goal

pub returns : goal.returns
returns c = copies_taken
