use Rattle.far_file.proofs.Faults.{room_told_full}
use Rattle.far_file.proofs.disk.want_of_room_is_full.Goals as goal

pub returns : goal.returns
returns c = room_told_full
