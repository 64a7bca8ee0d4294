use Rattle.far_private.proofs.Full.{no_room}
use Rattle.far_private.proofs.laws.no_room_is_full.Goals as goal

pub returns : goal.returns
returns c = no_room
