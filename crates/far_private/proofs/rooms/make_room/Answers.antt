use Rattle.far_private.proofs.Keeping.{keeps_both}
use Rattle.far_private.proofs.rooms.make_room.Goals as goal

pub returns : goal.returns
returns g c = record { keeps = keeps_both _ _ _ c.round-made.ensures c.give_up.ensures.keeps; idle = c.give_up.ensures.idle }
