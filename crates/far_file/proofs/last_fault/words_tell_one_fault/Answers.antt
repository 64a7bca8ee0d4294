use Rattle.far_file.proofs.Faults.{tell_one}
use Rattle.far_file.proofs.last_fault.words_tell_one_fault.Goals as goal

pub returns : goal.returns
returns c = tell_one
